use Rattle.std.proofs.Common.{◌≡◌, ap, ◌∙◌, arith, ⊎_elim, inl, inr}
use Rattle.jt_value.specs.ListItems.{numbers_of}
use Rattle.jt_value.specs.Payload.{joined_items}
use Rattle.jt_value.specs.Tree.{items_size, items_nesting}
use Rattle.jt_value.specs.View.{items_view}
use Rattle.jt_value.proofs.Lists.{items_view-clones, clones_none}
use Rattle.jt_value.proofs.payload.ValueListClone.clone.Goals as goal

pub invariant_of-result : goal.invariant_of-result
invariant_of-result c =
    let range = c.self.inside.numbers in
    let same = items_view-clones c.self.inside.values.items c.in_ok-clone.field-0.items c.in_ok-clone.ensures.cases.0 in
    let all : joined_items (items_view c.in_ok-clone.field-0.items) (numbers_of range)
    ≡ joined_items (items_view c.self.inside.values.items) (numbers_of range) =
    ap (λ ts. joined_items ts (numbers_of range)) same in (
      ⊎_elim (λ e. inl (clones_none _ _ c.in_ok-clone.ensures.cases.0 e)) (λ e. inr e) c.self.invariant.0,
      omega (arith, ap items_size all, c.self.invariant.1),
      omega (arith, ap items_nesting all, c.self.invariant.2),
    )

pub returns : goal.returns
returns c =
    record {
      cases =
          ap (λ ts. joined_items ts (numbers_of c.self.inside.numbers))
          (items_view-clones c.self.inside.values.items c.in_ok-clone.field-0.items c.in_ok-clone.ensures.cases.0)
          ∙ c.self.view_is;
    }
