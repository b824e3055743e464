use Rattle.std.proofs.Common.{◌≡◌, ◌-◌, ◌^◌, min, length, take}
use Rattle.jt_escape.specs.Escaping.{escaped}
use Rattle.jt_ops.proofs.text.escaped_len.Given as goal

abbrev pub invariant-loop-byte : goal.invariant-loop-byte
invariant-loop-byte l = l.total ≡ min (length (escaped (take l.byte-index l.byte-items))) (2 ^ 64 - 1)
