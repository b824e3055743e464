use Rattle.std.proofs.Common.{◌≡◌, ◌+◌, max, List, take, get_or, inr, ap, sym, ◌∙◌, arith, length, take_all}
use Rattle.jt_value.specs.Tree.{size, items_size, nesting, items_nesting}
use Rattle.jt_value.specs.ListItems.{numbers_of}
use Rattle.jt_value.specs.Payload.{joined_items}
use Rattle.jt_value.specs.View.{view, items_view}
use Rattle.jt_value.specs.declared.value.Value.{Value}
use Rattle.jt_value.proofs.Lists.{items_view-take_more, items_size-more, items_nesting-more, stored}
use Rattle.jt_value.proofs.payload.ValueList.new.Goals as goal

pub loop-item-preserved : goal.loop-item-preserved
loop-item-preserved c =
    let xs = c.args.values.items in
    let i = c.loop-item.item-index in
    let more = items_view-take_more xs i c.item-item.result
    (rw c.deref-item-items.ensures.value at c.loop-item-test.true)
    (c.item-item.is ∙ ap (λ (l : List Value). get_or l i c.item-item.result) c.deref-item-items.ensures.value) in
    let s : items_size (items_view (take (i + 1) xs))
    ≡ items_size (items_view (take i xs)) + size (view c.item-item.result) = ap items_size more ∙ items_size-more _ _ in
    let n : items_nesting (items_view (take (i + 1) xs))
    ≡ max (items_nesting (items_view (take i xs))) (nesting (view c.item-item.result)) =
    ap items_nesting more ∙ items_nesting-more _ _ in
    record {
      size = omega (arith, s, c.size.ensures, c.saturating_add-size.ensures, c.loop-item.invariant.size);
      nesting = omega (arith, n, c.nesting.ensures, c.max-nesting.ensures, c.loop-item.invariant.nesting);
    }

pub invariant_of-result : goal.invariant_of-result
invariant_of-result c =
    let vs = c.args.values.items in
    let all : joined_items (items_view vs) (numbers_of c.empty.result) ≡ items_view vs =
    stored vs c.empty.result c.empty.ensures in
    let len : length c.deref-item-items.result.now ≡ length vs = ap length c.deref-item-items.ensures.value in
    let taken : take c.loop-item.item-index vs ≡ vs =
    take_all c.loop-item.item-index vs (omega (arith, len, c.loop-item-test.false)) in
    let s : items_size (joined_items (items_view vs) (numbers_of c.empty.result))
    ≡ items_size (items_view (take c.loop-item.item-index vs)) =
    ap items_size all ∙ ap (λ (ws : List Value). items_size (items_view ws)) (sym taken) in
    let n : items_nesting (joined_items (items_view vs) (numbers_of c.empty.result))
    ≡ items_nesting (items_view (take c.loop-item.item-index vs)) =
    ap items_nesting all ∙ ap (λ (ws : List Value). items_nesting (items_view ws)) (sym taken) in (
      inr c.empty.ensures,
      omega (arith, s, c.loop-item.invariant.size),
      omega (arith, n, c.saturating_add.ensures, c.loop-item.invariant.nesting),
    )

pub returns : goal.returns
returns c = stored c.args.values.items c.empty.result c.empty.ensures
