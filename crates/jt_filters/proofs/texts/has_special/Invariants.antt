use Rattle.std.proofs.Common.{◌≡◌, false, take}
use Rattle.std.specs.List.{list_any}
use Rattle.std.specs.Option.{is_some}
use Rattle.jt_escape.specs.Escaping.{entity}
use Rattle.jt_filters.proofs.texts.has_special.Given as goal

abbrev pub invariant-loop-byte : goal.invariant-loop-byte
invariant-loop-byte l = list_any (λ b. is_some (entity b)) (take l.byte-index l.bytes) ≡ false
