use Rattle.std.proofs.Common.{◌≡◌, ◌&&◌, List, [], ◌∷◌, refl, ap, ◌∙◌, rules, tests}
use Rattle.std.specs.List.{list_all}
use Rattle.std.specs.Option.{is_some}
use Rattle.std.proofs.lemmas.Iterator.{YieldsList-from_slice}
use Rattle.std.proofs.lemmas.Iterator.Search.{all_from_yields_List}
use Rattle.jt_value.specs.Tree.{printed}
use Rattle.jt_value.specs.View.{view, items_view}
use Rattle.jt_value.specs.declared.value.Value.{Value}
use Rattle.jt_escape.specs.internal.Appending.{are_printable}
use Rattle.jt_escape.proofs.joining.are_printable.Goals as goal

all_printable : (vs : List Value) → list_all (λ v. is_some (printed (view v))) vs ≡ are_printable (items_view vs)
all_printable [] = refl
all_printable (v ∷ vs) = ap (λ b. is_some (printed (view v)) && b) (all_printable vs)

pub returns : goal.returns
returns c =
    let items = c.args.items.now in
    all_from_yields_List (λ (v : Value). is_some (printed (view v))) _ _ _ c.all.ensures.ran
    (YieldsList-from_slice items cc) (λ x b q k. search (rules, tests))
    ∙ all_printable items
