use Rattle.std.proofs.Common.{◌≡◌, inr, ap, ◌∙◌, arith}
use Rattle.jt_value.specs.ListItems.{numbers_of}
use Rattle.jt_value.specs.Payload.{joined_items}
use Rattle.jt_value.specs.Tree.{items_size, items_nesting}
use Rattle.jt_value.specs.View.{items_view}
use Rattle.jt_value.proofs.Lists.{stored}
use Rattle.jt_value.proofs.payload.ValueList.reserve.Goals as goal

pub invariant_of-self-in_err-reserve : goal.invariant_of-self-in_err-reserve
invariant_of-self-in_err-reserve c =
    let same : joined_items (items_view c.reserve.new.self.items) (numbers_of c.store.new.numbers)
    ≡ joined_items (items_view c.self.inside.values.items) (numbers_of c.self.inside.numbers) =
    stored c.reserve.new.self.items c.store.new.numbers c.in_ok-store.ensures.ok.none
    ∙ ap items_view c.in_err-reserve.ensures.items ∙ c.in_ok-store.ensures.ok.same in (
      inr c.in_ok-store.ensures.ok.none,
      omega (arith, ap items_size same, c.self.invariant.1),
      omega (arith, ap items_nesting same, c.self.invariant.2),
    )

pub returns-in_err-reserve : goal.returns-in_err-reserve
returns-in_err-reserve c =
    stored c.reserve.new.self.items c.store.new.numbers c.in_ok-store.ensures.ok.none
    ∙ ap items_view c.in_err-reserve.ensures.items ∙ c.in_ok-store.ensures.ok.same ∙ c.self.view_is

pub invariant_of-self-2 : goal.invariant_of-self-2
invariant_of-self-2 c =
    let same : joined_items (items_view c.reserve.new.self.items) (numbers_of c.store.new.numbers)
    ≡ joined_items (items_view c.self.inside.values.items) (numbers_of c.self.inside.numbers) =
    stored c.reserve.new.self.items c.store.new.numbers c.in_ok-store.ensures.ok.none
    ∙ ap items_view c.in_ok-reserve.ensures.items ∙ c.in_ok-store.ensures.ok.same in (
      inr c.in_ok-store.ensures.ok.none,
      omega (arith, ap items_size same, c.self.invariant.1),
      omega (arith, ap items_nesting same, c.self.invariant.2),
    )

pub returns : goal.returns
returns c =
    stored c.reserve.new.self.items c.store.new.numbers c.in_ok-store.ensures.ok.none
    ∙ ap items_view c.in_ok-reserve.ensures.items ∙ c.in_ok-store.ensures.ok.same ∙ c.self.view_is
