-- The names of entries.
use Rattle.std.proofs.Common.{◌≡◌, List, [], ◌∷◌, ap, map, refl}
use Rattle.jt_value.specs.Entries.{keys}
use Rattle.jt_value.specs.Pairs.{pairs}
use Rattle.jt_value.specs.View.{entries_view}
use Rattle.jt_value.specs.declared.text.Text.{Text}
use Rattle.jt_value.specs.declared.value.Value.{Value}

pub keys_of_entries : (es : List (Text × Value)) → keys (entries_view es) ≡ map (λ e. e.0) es
keys_of_entries [] = refl
keys_of_entries (e ∷ es) = ap (λ names. e.0 ∷ names) (keys_of_entries es)

pub names_of_pairs : (es : List (Text × Value)) → map (λ e. e.0) (pairs es) ≡ map (λ e. e.0) es
names_of_pairs [] = refl
names_of_pairs (e ∷ es) = ap (λ names. e.0 ∷ names) (names_of_pairs es)
