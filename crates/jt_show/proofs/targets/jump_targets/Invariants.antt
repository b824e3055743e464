use Rattle.std.proofs.Common.{◌≡◌, ℕ, ◌<◌, false, length, drop, get_or}
use Rattle.std.specs.Prelude.{◌||◌}
use Rattle.jt_show.specs.Listing.{is_target}
use Rattle.jt_show.proofs.targets.jump_targets.Given as goal

-- Each point to which some instruction may jump is marked, or an instruction that is left may jump
-- there.
abbrev pub invariant-points : goal.invariant-points
invariant-points l = record {
  len : length l.found.items ≡ l.count;
  each : (point : ℕ) → point < l.count
      → (get_or l.found.items point false || is_target (drop l.point l.code) point) ≡ is_target l.code point;
}
