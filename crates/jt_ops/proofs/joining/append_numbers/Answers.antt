use Rattle.std.proofs.Common.{ap, sym, ◌∙◌, rules}
use Rattle.std.specs.Prelude.{FitsSigned}
use Rattle.std.specs.Int.{w64}
use Rattle.std.proofs.lemmas.Int.{to_z-of_z}
use Rattle.jt_value.specs.ListItems.{numbers_of}
use Rattle.jt_value.specs.Payload.{joined_items}
use Rattle.jt_value.specs.Tree.{number}
use Rattle.jt_value.specs.View.{items_view}
use Rattle.jt_value.proofs.Lists.{joined_none}
use Rattle.jt_value.proofs.NumberSteps.{pushed_before}
use Rattle.jt_ops.proofs.joining.append_numbers.Goals as goal

pub loop-number-preserved : goal.loop-number-preserved
loop-number-preserved c =
    let fits : FitsSigned w64 c.in-Some.number = search rules in
    pushed_before (numbers_of c.loop-number.rest) (numbers_of c.in-Some.behind) (number c.in-Some.number)
    c.loop-number.into.items c.push.new.self.items _ c.in_ok-push.ensures.items
    (ap number (to_z-of_z w64 c.in-Some.number fits)) c.in-Some.ensures.some
    ∙ c.loop-number.invariant

pub returns : goal.returns
returns c =
    sym (joined_none (items_view c.loop-number.into.items))
    ∙ ap (joined_items (items_view c.loop-number.into.items)) (sym c.in_default.ensures.none)
    ∙ c.loop-number.invariant
