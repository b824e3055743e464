use Rattle.std.proofs.Common.{◌≡◌, length, ap, arith, subst}
use Rattle.std.proofs.lemmas.List.{length-map}
use Rattle.std.specs.Prelude.{option_map}
use Rattle.jt_image.specs.declared.instruction.Instruction.TheVariants as op
use Rattle.jt_ir.specs.View.{slot_view, targets_view}
use Rattle.jt_lower.specs.Asm.{one, both}
use Rattle.jt_lower.specs.Lower.{store_of, stores_asm, take_asm}
use Rattle.jt_lower.specs.Emission.{Given, tag_view, Puts}
use Rattle.jt_codegen.specs.internal.Statements.{slots_view}
use Rattle.jt_lower.proofs.JumpPatching.{puts_then, puts_as}
use Rattle.jt_codegen.proofs.targets.emit_targets.Goals as goal

pub returns-in_ok-put-in-One : goal.returns-in_ok-put-in-One
returns-in_ok-put-in-One c = λ ts.
    let o = tag_view ts c.args.tag in
    let s = c.in-One.slot in
    puts_as ts c.args.code.now c.put.new.self (take_asm o (targets_view c.args.targets.now))
    (one o (store_of (slot_view s))) (ap (λ x. take_asm o (targets_view x)) c.in-One.is)
    (c.in_ok-put-in-One.ensures ts (store_of (slot_view s)) c.store_of.ensures)

pub returns-in_ok-emit_stores-in-Several : goal.returns-in_ok-emit_stores-in-Several
returns-in_ok-emit_stores-in-Several c = λ ts.
    let o = tag_view ts c.args.tag in
    let v = c.in-Several.slots in
    let ss = slots_view v.items in
    let len : c.len.result ≡ length ss =
    omega (arith, c.len.ensures, v.ok.0, length-map v.items (option_map slot_view)) in
    let given = subst (λ n. Given c.unpack_of.result (op.Unpack n)) len c.unpack_of.ensures in
    let stores = subst (λ l. Puts ts c.put-in-Several.new.self (stores_asm o (slots_view l)) c.emit_stores.new.code)
    c.deref.ensures.value (c.in_ok-emit_stores-in-Several.ensures ts) in
    puts_as ts c.args.code.now c.emit_stores.new.code (take_asm o (targets_view c.args.targets.now))
    (both (one o (op.Unpack (length ss))) (stores_asm o ss)) (ap (λ x. take_asm o (targets_view x)) c.in-Several.is)
    (puts_then ts c.args.code.now c.put-in-Several.new.self c.emit_stores.new.code (one o (op.Unpack (length ss)))
    (stores_asm o ss) (c.in_ok-put-in-Several.ensures ts (op.Unpack (length ss)) given) stores)
