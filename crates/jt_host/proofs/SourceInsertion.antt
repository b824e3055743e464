-- The insertion of a source.
use Rattle.std.proofs.Common.{◌≡◌, ◌≢◌, ◌∙◌, ℕ, List, Bool, true, false, Option, String, Global, ap, refl, sym, cond}
use Rattle.std.proofs.Common.{option_map, string_bytes, bytes_eq}
use Rattle.std.specs.BTreeMap.{BTreeMap, UpdatesBy, get_by_text}
use Rattle.std.specs.Cmp.Lexicographic.{slice_cmp}
use Rattle.std.specs.Ordering.{nat_cmp}
use Rattle.std.specs.String.{string_cmp}
use Rattle.std.proofs.lemmas.Map.Text.{btree_map_updates_text}
use Rattle.std.proofs.lemmas.Slice.Eq.{bytes_eq-Decides}

differ : (x y : List ℕ) (b : Bool) → bytes_eq x y ≡ b → y ≢ x → b ≡ false
differ x y true e n = absurd (n (sym ((bytes_eq-Decides x y).0 e)))
differ x y false e n = refl

-- The other names keep their sources.
pub others_stay : (name : List ℕ) (m n : BTreeMap (String Global) (String Global)) (w : Option (String Global))
    → UpdatesBy string_cmp (λ k. slice_cmp nat_cmp name (string_bytes k)) m n w → (other : List ℕ) → other ≢ name
    → option_map string_bytes (get_by_text n other) ≡ option_map string_bytes (get_by_text m other)
others_stay name m n w u other d =
    ap (option_map string_bytes)
    (btree_map_updates_text name m n w u other
    ∙ ap (λ b. cond b w (get_by_text m other)) (differ name other (bytes_eq name other) refl d))
