use Rattle.jt_chains.proofs.parts.macro_names.Goals as goal
use Rattle.std.proofs.lemmas.Iterator.{YieldsList-from_slice, YieldsList-from_map_by}
use Rattle.std.proofs.lemmas.Iterator.Consumers.{map_from_collect}
use Rattle.jt_chains.proofs.{rules, tests}

pub returns : goal.returns
returns c =
    map_from_collect _ c.collect.ensures.ran (YieldsList-from_map_by _ (λ r. r.now) (λ m. m.name.now)
    (YieldsList-from_slice c.args.macros.now cc) c.map.ensures.closure (λ x r q k. search (rules, tests)))
