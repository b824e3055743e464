use Rattle.std.proofs.Common.{◌≡◌, ◌+◌, ◌-◌, ◌^◌, min, take}
use Rattle.jt_value.specs.Tree.{items_size, items_nesting}
use Rattle.jt_value.specs.View.{items_view}
use Rattle.jt_value.proofs.payload.ValueList.new.Given as goal

abbrev pub invariant-loop-item : goal.invariant-loop-item
invariant-loop-item l = record {
  size : l.size ≡ min (1 + items_size (items_view (take l.item-index l.fn.values.items))) (2 ^ 64 - 1);
  nesting : l.nesting ≡ min (items_nesting (items_view (take l.item-index l.fn.values.items))) (2 ^ 32 - 1);
}
