use Rattle.std.proofs.Common.{◌≡◌, ◌++◌, map, flat_map, take}
use Rattle.jt_hints.specs.DefinedNames.{built_in, names_at}
use Rattle.jt_hints.proofs.definitions.defined_names.Given as goal

abbrev pub invariant-loop-segment : goal.invariant-loop-segment
invariant-loop-segment l =
    map (λ x. x.now) l.found.items
    ≡ built_in l.kind ++ flat_map (names_at l.kind) (take l.segment-index l.segments)
