use Rattle.std.proofs.Common.{◌≡◌, ◌+◌, ◌-◌, ◌^◌, min, take}
use Rattle.jt_value.specs.Tree.{entries_size, entries_nesting}
use Rattle.jt_value.specs.View.{entries_view}
use Rattle.jt_value.proofs.payload.ValueMap.new.Given as goal

abbrev pub invariant-loop-key : goal.invariant-loop-key
invariant-loop-key l = record {
  size : l.size ≡ min (1 + entries_size (entries_view (take l.key-index l.fn.entries.items))) (2 ^ 64 - 1);
  nesting : l.nesting ≡ min (entries_nesting (entries_view (take l.key-index l.fn.entries.items))) (2 ^ 32 - 1);
}
