use Rattle.std.proofs.Common.{◌≡◌, ◌≤◌, ◌+◌, ◌==◌, count_by, take}
use Rattle.jt_host.proofs.source_lines.line_number.Given as goal

abbrev pub invariant-loop-byte : goal.invariant-loop-byte
invariant-loop-byte l =
    (l.line ≤ 1 + l.byte-index) × (l.line ≡ 1 + count_by (λ b. b == 10) (take l.byte-index l.byte-items))
