use Rattle.std.proofs.Common.{◌∙◌, ap, codes, option_map, sym, List, ℕ, Bor, arith, rules}
use Rattle.clap.specs.Words.{found_of}
use Rattle.clap.proofs.WalkLemmas.{first_value-rows}
use Rattle.jt_args.proofs.line.context.Goals as goal

pub returns-in_ok-from_str-in-Some : goal.returns-in_ok-from_str-in-Some
returns-in_ok-from_str-in-Some c = search (arith, rules, first_value-rows)

pub returns-in-None : goal.returns-in-None
returns-in-None c =
    sym (ap (option_map (λ (s : Bor (List ℕ)). s.now)) c.in-None.is)
    ∙ (c.get_str.ensures ∙ first_value-rows (found_of c.args.found.now) (codes "CONTEXT"))
