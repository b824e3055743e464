use Rattle.jt_chains.proofs.definitions.is_blank.Goals as goal
use Rattle.std.proofs.lemmas.Iterator.Search.{any_from_yields_List}
use Rattle.std.proofs.lemmas.Iterator.Adapters.{YieldsList-from_bytes}
use Rattle.jt_chains.proofs.{ap, not, rules, tests, is_space}

pub returns : goal.returns
returns c =
    ap not (any_from_yields_List (λ x. not (is_space x)) _ _ _ c.any.ensures.ran
    (YieldsList-from_bytes c.args.text.now c.bytes.ensures.rest) (λ x b q k. search (rules, tests)))
