use Rattle.std.proofs.Common.{◌≡◌, drop}
use Rattle.std.specs.List.{list_all}
use Rattle.jt_scan.specs.Cut.{is_space}
use Rattle.jt_hints.proofs.positions.is_blank.Given as goal

abbrev pub invariant-loop-byte : goal.invariant-loop-byte
invariant-loop-byte l = list_all is_space (drop l.byte-index l.text) ≡ list_all is_space l.text
