use Rattle.std.proofs.Common.{Some, None, refl}
use Rattle.jt_image.specs.declared.instruction.Instruction.TheVariants as op
use Rattle.jt_ir.specs.View.{slot_view}
use Rattle.jt_lower.specs.Lower.{store_of}
use Rattle.jt_lower.specs.Emission.{tag_view}
use Rattle.jt_codegen.proofs.StatementEmission.{stores_more, stores_all}
use Rattle.jt_codegen.proofs.targets.emit_stores.Goals as goal

pub loop-at-preserved-in-Continue-1 : goal.loop-at-preserved-in-Continue-1
loop-at-preserved-in-Continue-1 c = λ ts.
    let o = tag_view ts c.args.tag in
    let l = c.loop-at in
    let s = c.in-Some.slot in
    stores_more ts o c.args.slots.now l.at _ (Some s) c.args.code.now l.code c.put.new.self c.loop-at-test.true
    l.auto.at c.in-Some.is (l.invariant ts) (c.in_ok-put-in-Some.ensures ts (store_of (slot_view s)) c.store_of.ensures)

pub loop-at-preserved : goal.loop-at-preserved
loop-at-preserved c = λ ts.
    let o = tag_view ts c.args.tag in
    let l = c.loop-at in
    stores_more ts o c.args.slots.now l.at _ None c.args.code.now l.code c.put-in-None.new.self c.loop-at-test.true
    l.auto.at c.in-None.is (l.invariant ts) (c.in_ok-put-in-None.ensures ts op.Drop refl)

pub returns : goal.returns
returns c =
    λ ts. stores_all ts (tag_view ts c.args.tag) c.args.slots.now c.loop-at.at c.args.code.now c.loop-at.code
    c.loop-at-test.false (c.loop-at.invariant ts)
