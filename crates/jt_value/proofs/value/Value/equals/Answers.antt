use Rattle.std.proofs.Common.{◌≡◌, ap, sym, ◌∙◌}
use Rattle.jt_value.specs.Tree as tree
use Rattle.jt_value.specs.Equality.{equal}
use Rattle.jt_value.specs.View.{view}
use Rattle.jt_value.proofs.EntryLaws.{equal-agree, agree-equal}
use Rattle.jt_value.proofs.value.Value.equals.Goals as goal

pub returns-clause-maps : goal.returns-clause-maps
returns-clause-maps c = λ es fs p q.
    let e : c.are_equal.result ≡ equal (tree.map es) (tree.map fs) =
    c.are_equal.ensures ∙ ap (λ t. equal t (view c.args.other.now)) p ∙ ap (equal (tree.map es)) q in
    (λ h. equal-agree es fs (sym e ∙ h), λ h. e ∙ agree-equal es fs h)
