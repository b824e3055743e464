use Rattle.std.proofs.Common.{◌≡◌, drop}
use Rattle.std.specs.List.{list_any}
use Rattle.jt_hints.specs.Positions.{is_macro}
use Rattle.jt_hints.proofs.positions.has_macro.Given as goal

abbrev pub invariant-loop-each : goal.invariant-loop-each
invariant-loop-each l = list_any is_macro (drop l.each-index l.opened) ≡ list_any is_macro l.opened
