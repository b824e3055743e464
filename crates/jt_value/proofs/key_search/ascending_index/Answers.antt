use Rattle.std.proofs.Common.{rules, of_calls, ◌∙◌}
use Rattle.std.proofs.lemmas.Fn.{always_returns_same}
use Rattle.jt_value.proofs.BinarySearch.{against, halved}
use Rattle.jt_value.proofs.key_search.ascending_index.Goals as goal

pub returns : goal.returns
returns c =
    c.ok.ensures.value
    ∙ halved c.args.key.now c.args.entries.now c.binary_search_by.result c.requires c.binary_search_by.ensures.bound
    (c.binary_search_by.ensures.position (against c.args.key.now)
    (always_returns_same _ _ _ (λ a r f k. search (rules, of_calls))))
