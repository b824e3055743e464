use Rattle.std.proofs.Common.{◌≡◌, ◌++◌, map, string_bytes, take}
use Rattle.jt_hints.specs.Fitting.{further}
use Rattle.jt_hints.proofs.fitting.push_further.Given as goal

abbrev pub invariant-loop-name : goal.invariant-loop-name
invariant-loop-name l =
    string_bytes l.made ≡ string_bytes l.initial.made ++ further (map (λ x. x.now) (take l.name-index l.names))
