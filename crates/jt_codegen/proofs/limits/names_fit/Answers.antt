use Rattle.std.proofs.Common.{◌≤◌, List, ℕ, length, string_bytes, rules, tests}
use Rattle.std.proofs.lemmas.Iterator.{YieldsList-from_slice}
use Rattle.jt_image.specs.IsCode.{max_count}
use Rattle.jt_image.proofs.AllDecides.{all_seen}
use Rattle.jt_codegen.proofs.limits.names_fit.Goals as goal

pub returns : goal.returns
returns c =
    all_seen _ _ _ string_bytes (λ (t : List ℕ). length t ≤ max_count) c.all.ensures.ran
    (YieldsList-from_slice c.args.names.now cc) (λ x b q k. search (rules, tests))
