use Rattle.jt_checks.proofs.checking.count_names.Given as goal
use Rattle.std.proofs.Common.{◌^◌, ◌-◌, min}
use Rattle.jt_checks.proofs.{◌≡◌, ◌+◌, ◌<◌, drop, cenv_in, its_chain, texts, libraries_counted}

abbrev pub invariant-loop-library : goal.invariant-loop-library
invariant-loop-library l = record {
  within : l.count < 2 ^ 64;
  left : min (l.count + libraries_counted (cenv_in (its_chain l.scope)) (texts (drop l.library-index l.library-items)))
      (2 ^ 64 - 1)
      ≡ min (l.initial.count + libraries_counted (cenv_in (its_chain l.scope)) (texts l.library-items)) (2 ^ 64 - 1);
}
