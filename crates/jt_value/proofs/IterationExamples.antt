-- Examples of the items that values have.
use Rattle.std.proofs.Common.{◌≡◌, true, [], ◌∷◌, refl}
use Rattle.std.specs.Prelude.{Ok, Err, pos}
use Rattle.std.specs.Char.{encode_utf8}
use Rattle.std.specs.Str.{chars}
use Rattle.jt_value.specs.Tree.{undefined, nothing, truth_value, number, text, markup, map, no_items, item, no_entries}
use Rattle.jt_value.specs.Tree.{entry}
use Rattle.jt_value.specs.Iteration.{items_of_tree}
use Rattle.jt_value.specs.declared.fault.Fault.TheVariants.{NotIterable}

-- The items of markup are its characters as plain texts, and a character of two bytes is one item.
markup_row : items_of_tree (markup (97 ∷ 195 ∷ 169 ∷ []))
    ≡ Ok (item (text (97 ∷ [])) (item (text (195 ∷ 169 ∷ [])) no_items))
unfolding chars encode_utf8
markup_row = refl

-- The items of a map are its keys, a repeated key twice.
map_row : items_of_tree (map (entry (97 ∷ []) nothing (entry (98 ∷ []) undefined (entry (97 ∷ []) nothing no_entries))))
    ≡ Ok (item (text (97 ∷ [])) (item (text (98 ∷ [])) (item (text (97 ∷ [])) no_items)))
map_row = refl

undefined_row : items_of_tree undefined ≡ Ok no_items
undefined_row = refl

number_row : items_of_tree (number (pos 1)) ≡ Err NotIterable
number_row = refl

truth_row : items_of_tree (truth_value true) ≡ Err NotIterable
truth_row = refl
