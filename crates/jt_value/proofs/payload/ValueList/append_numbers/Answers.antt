use Rattle.std.proofs.Common.{ap, sym, ◌∙◌, rules}
use Rattle.std.specs.Prelude.{FitsSigned}
use Rattle.std.specs.Int.{w64}
use Rattle.std.proofs.lemmas.Int.{to_z-of_z}
use Rattle.jt_value.specs.ListItems.{numbers_of}
use Rattle.jt_value.specs.Payload.{joined_items}
use Rattle.jt_value.specs.Tree.{number, item}
use Rattle.jt_value.proofs.Lists.{joined_none}
use Rattle.jt_value.proofs.NumberSteps.{moved_before}
use Rattle.jt_value.proofs.payload.ValueList.append_numbers.Goals as goal

pub loop-number-preserved : goal.loop-number-preserved
loop-number-preserved c =
    let fits : FitsSigned w64 c.in-Some.number = search rules in
    ap (λ ts. joined_items ts (numbers_of c.in-Some.behind)) c.in_ok-push.ensures.ok
    ∙ moved_before c.loop-number.self _ (numbers_of c.in-Some.behind)
    ∙ ap (λ z. joined_items c.loop-number.self (item (number z) (numbers_of c.in-Some.behind)))
    (to_z-of_z w64 c.in-Some.number fits)
    ∙ ap (joined_items c.loop-number.self) (sym c.in-Some.ensures.some)
    ∙ c.loop-number.invariant

pub returns : goal.returns
returns c =
    sym (joined_none c.loop-number.self)
    ∙ ap (joined_items c.loop-number.self) (sym c.in_default.ensures.none)
    ∙ c.loop-number.invariant
