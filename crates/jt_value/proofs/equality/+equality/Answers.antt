use Rattle.std.proofs.Common.{◌≡◌, ◌≢◌, ◌<◌, true, false, Bor, List, length, get_or, sym, ap, ◌∙◌, true≢false, arith}
use Rattle.jt_value.specs.Entries.{entry_of, has_key, all_keys, keys, same_keys}
use Rattle.jt_value.specs.Equality.{equal, equal_at, equal_items}
use Rattle.jt_value.specs.Falls.{size_le, sizes-items}
use Rattle.jt_value.specs.internal.InOrder.{to_come}
use Rattle.jt_value.specs.ListItems.{numbers_of}
use Rattle.jt_value.specs.Tree.{items_size, entries_size}
use Rattle.jt_value.specs.View.{view, items_view, entries_view}
use Rattle.jt_value.proofs.Equalities.{items_differ, passes, fails, equal_at-first, equal_at-same, found, and_known}
use Rattle.jt_value.proofs.NumberEquality.{equal_numbers}
use Rattle.jt_value.proofs.Equalities.{same_keys-all, same_length}
use Rattle.jt_value.proofs.KeyOrder.{alike_equal, alike_behind}
use Rattle.jt_value.proofs.KeyIndices.{seen, size_lt}
use Rattle.jt_value.specs.declared.payload.ValueList.TheDeep.{size-Value}
use Rattle.jt_value.proofs.Lists.{Pair}
use Rattle.jt_value.proofs.equality.+equality.Goals as goal
use Rattle.jt_value.proofs.equality.+equality.Goals.{
  are_first_values_equal-else-counts-via-then-counts+else-not-is_first_value,
}
use Rattle.jt_value.proofs.equality.+equality.Goals.{are_first_values_equal-else-counts-via-else-counts}
use Rattle.jt_value.proofs.equality.+equality.Goals.{
  are_values_equal_in_place-else-not-are_equal-via-then-not-are_equal+else-not-has_before,
}
use Rattle.jt_value.proofs.equality.+equality.Goals.{
  are_values_equal_in_place-else-not-are_equal-via-else-not-are_equal,
}

pub are_lists_equal-are_items_equal-requires : goal.are_lists_equal-are_items_equal-requires
are_lists_equal-are_items_equal-requires t c = (
  omega (arith, sizes-items c.in-Values-Values.items.now, ap items_size c.in-Values-Values.ensures),
  tt,
)

pub are_lists_equal-returns-in-Values-Numbers : goal.are_lists_equal-returns-in-Values-Numbers
are_lists_equal-returns-in-Values-Numbers t c =
    c.are_numbers.ensures
    ∙ equal_numbers c.in-Values-Numbers.numbers.count _ _ (items_view c.in-Values-Numbers.items.now)
    ∙ ap (λ ts. equal_items ts (numbers_of c.in-Values-Numbers.numbers)) c.in-Values-Numbers.ensures
    ∙ ap (equal_items c.args.list.now) c.in-Values-Numbers.ensures'

pub are_equal-are_maps_equal-requires : goal.are_equal-are_maps_equal-requires
are_equal-are_maps_equal-requires t c =
    (omega (arith, ap entries_size c.deref-in-Map-right.ensures, ap size-Value c.in-Map.is), tt)

pub are_items_equal-returns-then-items-others : goal.are_items_equal-returns-then-items-others
are_items_equal-returns-then-items-others t c =
    let ne : length c.args.items.now ≢ length c.args.others.now = λ e. c.if-items-others.true (omega (arith, e)) in
    sym (items_differ c.args.items.now c.args.others.now ne)

pub are_equal_in_order-loop-key-init : goal.are_equal_in_order-loop-key-init
are_equal_in_order-loop-key-init t c = record {
  entries = c.in_ok-entries.ensures.entries;
  rest =
      alike_equal (to_come c.in_ok-entries.entries) (to_come c.in_ok-others.others) c.args.map.now c.args.other.now
      c.in_ok-entries.ensures.in_order c.in_ok-others.ensures.in_order;
}

pub are_equal_in_order-loop-key-preserved : goal.are_equal_in_order-loop-key-preserved
are_equal_in_order-loop-key-preserved t c = record {
  entries = ap (λ (b : Bor (List Pair)). entries_view b.now) c.in-Some.ensures.entries ∙ c.loop-key.invariant.entries;
  rest =
      alike_behind c.in-Some.field-0.now c.in-Some-next.field-0.now c.in-Some.ensures.step c.in-Some-next.ensures.step
      c.if-ne.ensures c.if-not-are_equal.ensures
      ∙ c.loop-key.invariant.rest;
}

pub are_equal_in_order-loop-key-smaller : goal.are_equal_in_order-loop-key-smaller
are_equal_in_order-loop-key-smaller t c = omega (arith, ap (λ es. length (keys es)) c.in-Some.ensures.step)

pub are_equal_in_order-are_equal-requires : goal.are_equal_in_order-are_equal-requires
are_equal_in_order-are_equal-requires t c = (
  omega (
    arith,
    c.in-Some.ensures.smaller,
    size_le c.in-Some.field-0.now.1,
    ap entries_size c.loop-key.invariant.entries,
  ),
  tt,
)

pub are_first_values_equal-returns-then-not-is_first_value : goal.are_first_values_equal-returns-then-not-is_first_value
are_first_values_equal-returns-then-not-is_first_value t c =
    let xs = c.entries-entries.result.now in
    let es = c.args.map.now in
    let fs = c.args.other.now in
    let same : entries_view xs ≡ es = c.loop-key.invariant.entries in
    let i = c.loop-key.key-index in
    let e = c.loop-key-item.result in
    let k = e.0 in
    let lt : i < length xs = c.loop-key-test.true in
    let is : e ≡ get_or xs i e = c.loop-key-item.is in
    let new = seen c.deref.result.now k xs es same i c.loop-key.index false (c.if-counts.ensures) c.deref.ensures
    c.loop-key.invariant.index in
    let unequal = found (view e.1) c.deref-then-counts.result.now k fs false (c.if-not-is_first_value.ensures)
    c.deref-then-counts.ensures in
    sym (ap (all_keys (λ n. equal_at es n (entry_of n fs))) (sym same)
    ∙ fails (λ n. equal_at es n (entry_of n fs)) xs i e lt is
    (equal_at-first xs es same i e lt is new (entry_of k fs) ∙ unequal))

pub are_first_values_equal-loop-key-preserved : goal.are_first_values_equal-loop-key-preserved
are_first_values_equal-loop-key-preserved t c =
    let xs = c.entries-entries.result.now in
    let es = c.args.map.now in
    let fs = c.args.other.now in
    let same : entries_view xs ≡ es = c.loop-key.invariant.entries in
    let i = c.loop-key.key-index in
    let e = c.loop-key-item.result in
    let k = e.0 in
    let lt : i < length xs = c.loop-key-test.true in
    let is : e ≡ get_or xs i e = c.loop-key-item.is in
    record {
      index = omega arith;
      entries = same;
      so_far = passes (λ n. equal_at es n (entry_of n fs)) xs i e lt is c.loop-key.invariant.so_far (λ new.
          elim c.else-counts.branch [
            | are_first_values_equal-else-counts-via-then-counts+else-not-is_first_value w ↦
                equal_at-first xs es same i e lt is new (entry_of k fs)
                ∙ found (view e.1) w.deref-then-counts.result.now k fs true (w.if-not-is_first_value.ensures)
                w.deref-then-counts.ensures
            | are_first_values_equal-else-counts-via-else-counts w ↦
                absurd (true≢false (sym (seen c.deref.result.now k xs es same i c.loop-key.index true
                (w.if-counts.ensures) c.deref.ensures c.loop-key.invariant.index)
                ∙ new))
          ]);
    }

pub are_maps_equal-returns-then-have_same_keys : goal.are_maps_equal-returns-then-have_same_keys
are_maps_equal-returns-then-have_same_keys t c =
    let es = c.args.map.now in
    let fs = c.args.other.now in
    let alike : same_keys es fs ≡ true = ap (λ gs. same_keys gs fs) (sym c.entries-entries.ensures)
    ∙ ap (same_keys (entries_view c.entries-entries.result.now)) (sym c.entries-others.ensures)
    ∙ sym (c.if-have_same_keys.ensures) in
    c.are_values_equal_in_place.ensures
    ∙ ap (λ gs. all_keys (λ k. equal_at es k (entry_of k gs)) es) c.entries-others.ensures
    ∙ and_known (all_keys (λ k. equal_at es k (entry_of k fs)) es) (all_keys (λ k. has_key k es) fs)
    (same_keys-all es fs alike)

pub are_values_equal_in_place-bounds-others-index : goal.are_values_equal_in_place-bounds-others-index
are_values_equal_in_place-bounds-others-index t c =
    let xs = c.entries-entries.result.now in
    let ys = c.args.others.now in
    let long : length xs ≡ length ys = same_length xs ys
    (ap (λ gs. same_keys gs (entries_view ys)) c.loop-key.invariant.entries ∙ c.loop-key.invariant.same_keys) in
    omega (arith, long, c.loop-key.invariant.index, c.loop-key-test.true)

pub are_values_equal_in_place-returns-then-not-has_before : goal.are_values_equal_in_place-returns-then-not-has_before
are_values_equal_in_place-returns-then-not-has_before t c =
    let xs = c.entries-entries.result.now in
    let es = c.args.map.now in
    let ys = c.args.others.now in
    let same : entries_view xs ≡ es = c.loop-key.invariant.entries in
    let i = c.loop-key.key-index in
    let e = c.loop-key-item.result in
    let f = c.index-others-index.result in
    let lt : i < length xs = c.loop-key-test.true in
    let is : e ≡ get_or xs i e = c.loop-key-item.is in
    let at : f ≡ get_or ys i f = c.index-others-index.is ∙ ap (λ n. get_or ys n f) c.loop-key.invariant.index in
    let new = seen c.deref.result.now e.0 xs es same i c.loop-key.index false
    (c.if-not-has_before.ensures) c.deref.ensures c.loop-key.invariant.index in
    sym (ap (all_keys (λ n. equal_at es n (entry_of n (entries_view ys)))) (sym same)
    ∙ fails (λ n. equal_at es n (entry_of n (entries_view ys))) xs i e lt is
    (equal_at-same xs ys es same i e f c.loop-key.invariant.same_keys lt is at new
    ∙ ap (λ (p : Pair). equal (view e.1) (view p.1)) c.index-others-index.is ∙ sym (c.if-not-are_equal.ensures)))

pub are_values_equal_in_place-loop-key-preserved : goal.are_values_equal_in_place-loop-key-preserved
are_values_equal_in_place-loop-key-preserved t c =
    let xs = c.entries-entries.result.now in
    let es = c.args.map.now in
    let ys = c.args.others.now in
    let same : entries_view xs ≡ es = c.loop-key.invariant.entries in
    let i = c.loop-key.key-index in
    let e = c.loop-key-item.result in
    let f = c.index-others-index.result in
    let lt : i < length xs = c.loop-key-test.true in
    let is : e ≡ get_or xs i e = c.loop-key-item.is in
    let at : f ≡ get_or ys i f = c.index-others-index.is ∙ ap (λ n. get_or ys n f) c.loop-key.invariant.index in
    record {
      index = omega arith;
      entries = same;
      same_keys = c.loop-key.invariant.same_keys;
      so_far =
          passes (λ n. equal_at es n (entry_of n (entries_view ys))) xs i e lt is c.loop-key.invariant.so_far (λ new.
          elim c.else-not-are_equal.branch [
            | are_values_equal_in_place-else-not-are_equal-via-then-not-are_equal+else-not-has_before w ↦
                absurd (true≢false (sym (seen w.deref.result.now e.0 xs es same i c.loop-key.index true
                (w.if-not-has_before.ensures) w.deref.ensures c.loop-key.invariant.index)
                ∙ new))
            | are_values_equal_in_place-else-not-are_equal-via-else-not-are_equal w ↦
                equal_at-same xs ys es same i e f c.loop-key.invariant.same_keys lt is at new
                ∙ ap (λ (p : Pair). equal (view e.1) (view p.1)) c.index-others-index.is
                ∙ sym (w.if-not-are_equal.ensures)
          ]);
    }

pub are_values_equal_in_place-are_equal-requires : goal.are_values_equal_in_place-are_equal-requires
are_values_equal_in_place-are_equal-requires t c =
    let e = c.loop-key-item.result in (
      omega (
        arith,
        size_lt c.entries-entries.result.now c.loop-key.key-index e c.loop-key-test.true c.loop-key-item.is,
        size_le e.1,
        ap entries_size c.entries-entries.ensures,
      ),
      tt,
    )

pub are_first_values_equal-is_first_value-requires : goal.are_first_values_equal-is_first_value-requires
are_first_values_equal-is_first_value-requires t c =
    let e = c.loop-key-item.result in (
      omega (
        arith,
        size_lt c.entries-entries.result.now c.loop-key.key-index e c.loop-key-test.true c.loop-key-item.is,
        size_le e.1,
        ap entries_size c.entries-entries.ensures,
      ),
      tt,
    )
