use Rattle.std.proofs.Common.{◌≡◌, drop}
use Rattle.jt_value.specs.Entries.{has_key, all_keys}
use Rattle.jt_value.specs.View.{entries_view}
use Rattle.jt_value.proofs.equality.has_all_keys.Given as goal

abbrev pub invariant-loop-other : goal.invariant-loop-other
invariant-loop-other l =
    all_keys (λ k. has_key k l.map) (entries_view l.others)
    ≡ all_keys (λ k. has_key k l.map) (entries_view (drop l.other-index l.others))
