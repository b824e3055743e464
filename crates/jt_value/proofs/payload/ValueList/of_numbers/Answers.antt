use Rattle.std.proofs.Common.{◌≡◌, inl, ap, ◌∙◌, arith}
use Rattle.jt_value.specs.ListItems.{numbers_of}
use Rattle.jt_value.specs.Payload.{joined_items}
use Rattle.jt_value.specs.Tree.{items_size, items_nesting}
use Rattle.jt_value.specs.View.{items_view}
use Rattle.jt_value.proofs.NumberSteps.{stepped_count, stepped_size, stepped_nesting}
use Rattle.jt_value.proofs.payload.ValueList.of_numbers.Goals as goal

pub invariant_of-result : goal.invariant_of-result
invariant_of-result c =
    let range = c.args.numbers in
    let all : joined_items (items_view c.new.result.items) (numbers_of range) ≡ numbers_of range =
    ap (λ vs. joined_items (items_view vs) (numbers_of range)) c.new.ensures.items in
    let s : items_size (joined_items (items_view c.new.result.items) (numbers_of range)) ≡ range.count =
    ap items_size all ∙ stepped_size range.count range.first range.step in
    let n : items_nesting (joined_items (items_view c.new.result.items) (numbers_of range)) ≡ 0 =
    ap items_nesting all ∙ stepped_nesting range.count range.first range.step in
    let count = c.len.ensures ∙ stepped_count range.count range.first range.step in (
      inl c.new.ensures.items,
      omega (arith, s, count, c.saturating_add.ensures),
      omega (arith, n),
    )
