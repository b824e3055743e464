use Rattle.std.proofs.Common.{◌≡◌, ◌+◌, inr, max, ap, ◌∙◌, arith, rules}
use Rattle.jt_value.specs.ListItems.{numbers_of}
use Rattle.jt_value.specs.Payload.{more_items, joined_items}
use Rattle.jt_value.specs.Tree.{items_size, size, items_nesting, nesting}
use Rattle.jt_value.specs.View.{view, items_view}
use Rattle.jt_value.proofs.Lists.{items_view-push, items_size-more, items_nesting-more, stored}
use Rattle.jt_value.proofs.payload.ValueList.push.Goals as goal

pub invariant_of-self-in_err-push : goal.invariant_of-self-in_err-push
invariant_of-self-in_err-push c =
    let same : joined_items (items_view c.push.new.self.items) (numbers_of c.store.new.numbers)
    ≡ joined_items (items_view c.self.inside.values.items) (numbers_of c.self.inside.numbers) =
    stored c.push.new.self.items c.store.new.numbers c.in_ok-store.ensures.ok.none
    ∙ ap items_view c.in_err-push.ensures.items ∙ c.in_ok-store.ensures.ok.same in (
      inr c.in_ok-store.ensures.ok.none,
      omega (arith, ap items_size same, c.self.invariant.1),
      omega (arith, ap items_nesting same, c.self.invariant.2),
    )

pub returns-in_err-push-clause-err : goal.returns-in_err-push-clause-err
returns-in_err-push-clause-err c =
    let same : joined_items (items_view c.push.new.self.items) (numbers_of c.store.new.numbers) ≡ c.args.self.now =
    stored c.push.new.self.items c.store.new.numbers c.in_ok-store.ensures.ok.none
    ∙ ap items_view c.in_err-push.ensures.items ∙ c.in_ok-store.ensures.ok.same ∙ c.self.view_is in
    search rules

pub invariant_of-self-2 : goal.invariant_of-self-2
invariant_of-self-2 c =
    let before = joined_items (items_view c.self.inside.values.items) (numbers_of c.self.inside.numbers) in
    let more : joined_items (items_view c.push.new.self.items) (numbers_of c.store.new.numbers)
    ≡ more_items before (view c.args.item) =
    stored c.push.new.self.items c.store.new.numbers c.in_ok-store.ensures.ok.none
    ∙ ap items_view c.in_ok-push.ensures.items ∙ items_view-push c.store.new.values.items c.args.item
    ∙ ap (λ ts. more_items ts (view c.args.item)) c.in_ok-store.ensures.ok.same in
    let s : items_size (joined_items (items_view c.push.new.self.items) (numbers_of c.store.new.numbers))
    ≡ items_size before + size (view c.args.item) = ap items_size more ∙ items_size-more _ _ in
    let n : items_nesting (joined_items (items_view c.push.new.self.items) (numbers_of c.store.new.numbers))
    ≡ max (items_nesting before) (nesting (view c.args.item)) = ap items_nesting more ∙ items_nesting-more _ _ in (
      inr c.in_ok-store.ensures.ok.none,
      omega (arith, s, c.size.ensures, c.saturating_add-size.ensures, c.self.invariant.1),
      omega (arith, n, c.nesting.ensures, c.saturating_add.ensures, c.max-nesting.ensures, c.self.invariant.2),
    )

pub returns-clause-ok : goal.returns-clause-ok
returns-clause-ok c =
    stored c.push.new.self.items c.store.new.numbers c.in_ok-store.ensures.ok.none
    ∙ ap items_view c.in_ok-push.ensures.items ∙ items_view-push c.store.new.values.items c.args.item
    ∙ ap (λ ts. more_items ts (view c.args.item)) c.in_ok-store.ensures.ok.same
    ∙ ap (λ ts. more_items ts (view c.args.item)) c.self.view_is
