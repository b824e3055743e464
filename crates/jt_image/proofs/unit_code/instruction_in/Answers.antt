use Rattle.std.proofs.Common.{◌*◌, ◌∙◌, Option, ap, sym, subst, arith, rules}
use Rattle.std.specs.Option.{IsSome}
use Rattle.std.proofs.lemmas.List.{length-drop}
use Rattle.jt_image.specs.declared.instruction.Instruction.{Instruction}
use Rattle.jt_image.specs.InPlace.{instructions_in, fields_in}
use Rattle.jt_image.specs.Reading.{instruction_of}
use Rattle.jt_image.proofs.InstructionsInPlace.{placed, is_there}
use Rattle.jt_image.proofs.unit_code.instruction_in.Goals as goal

pub split_at-requires : goal.split_at-requires
split_at-requires c =
    let here =
    placed c.args.len c.args.point c.args.code.now (λ i. omega (arith, c.type_inv.code i)) c.requires (omega arith) in
    omega (arith, here.0)

pub fields_of-requires : goal.fields_of-requires
fields_of-requires c =
    let here =
    placed c.args.len c.args.point c.args.code.now (λ i. omega (arith, c.type_inv.code i)) c.requires (omega arith) in
    rw c.split_at.ensures.back (omega (arith, here.0, length-drop (8 * c.args.point) c.args.code.now))

pub known-requires : goal.known-requires
known-requires c =
    let here =
    placed c.args.len c.args.point c.args.code.now (λ i. omega (arith, c.type_inv.code i)) c.requires (omega arith) in
    let same = ap instruction_of (c.fields_of.ensures ∙ ap fields_in c.split_at.ensures.back) ∙ here.1 in
    subst (λ (o : Option Instruction). IsSome o) (sym same)
    (is_there (instructions_in c.args.len c.args.code.now) c.args.point (omega (arith, c.requires)))

pub returns : goal.returns
returns c = search (arith, rules, placed)
