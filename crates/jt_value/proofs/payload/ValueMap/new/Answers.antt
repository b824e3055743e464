use Rattle.std.proofs.Common.{◌≡◌, ◌+◌, max, List, length, take, get_or, ap, ◌∙◌, arith}
use Rattle.jt_value.specs.Tree.{size, entries_size, nesting, entries_nesting}
use Rattle.jt_value.specs.View.{view, entries_view}
use Rattle.jt_value.proofs.Lists.{Pair, entries_view-take_more, entries_size-more, entries_nesting-more}
use Rattle.jt_value.proofs.payload.ValueMap.new.Goals as goal

pub loop-key-preserved : goal.loop-key-preserved
loop-key-preserved c =
    let xs = c.args.entries.items in
    let i = c.loop-key.key-index in
    let r = c.loop-key-item.result in
    let more = entries_view-take_more xs i r (rw c.deref-key-items.ensures.value at c.loop-key-test.true)
    (c.loop-key-item.is ∙ ap (λ (l : List Pair). get_or l i r) c.deref-key-items.ensures.value) in
    let s : entries_size (entries_view (take (i + 1) xs))
    ≡ entries_size (entries_view (take i xs)) + (1 + length r.0 + size (view r.1)) =
    ap entries_size more ∙ entries_size-more _ _ _ in
    let n : entries_nesting (entries_view (take (i + 1) xs))
    ≡ max (entries_nesting (entries_view (take i xs))) (nesting (view r.1)) =
    ap entries_nesting more ∙ entries_nesting-more _ _ _ in
    record {
      size =
          omega (
            arith,
            s,
            c.saturating_add.ensures,
            c.len.ensures,
            c.saturating_add-in-loop-key.ensures,
            c.size.ensures,
            c.saturating_add-size.ensures,
            c.loop-key.invariant.size,
          );
      nesting = omega (arith, n, c.nesting.ensures, c.max-nesting.ensures, c.loop-key.invariant.nesting);
    }
