use Rattle.std.proofs.Common.{◌∙◌, rules, tests}
use Rattle.std.proofs.lemmas.Iterator.{YieldsList-from_slice}
use Rattle.std.proofs.lemmas.Iterator.Search.{any_from_yields_List}
use Rattle.jt_value.specs.Equality.{equal}
use Rattle.jt_value.specs.View.{view}
use Rattle.jt_value.specs.declared.value.Value.{Value}
use Rattle.jt_ops.proofs.MembershipTests.{any_equal}
use Rattle.jt_ops.proofs.membership.is_among.Goals as goal

pub returns : goal.returns
returns c =
    let t = view c.args.value.now in
    let items = c.args.values.now in
    any_from_yields_List (λ (v : Value). equal t (view v)) _ _ _ c.any.ensures.ran (YieldsList-from_slice items cc)
    (λ x b q k. search (rules, tests))
    ∙ any_equal t items
