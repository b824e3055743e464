-- The units so far are accepted, as they are found one after the other.
use Rattle.std.proofs.Common.{◌≡◌, ◌∙◌, ◌+◌, ℕ, zero, suc, Bool, true, false, cond, List, ◌∷◌, Option, Some, None}
use Rattle.std.proofs.Common.{ap, get_or, option_map, refl, sym, take}
use Rattle.std.specs.Prelude.{◌&&◌, slice_get}
use Rattle.std.specs.List.{list_all}
use Rattle.std.specs.Option.{is_none}
use Rattle.std.proofs.lemmas.List.Folds.{list_all_more}
use Rattle.std.proofs.lemmas.Option.{slice_get_within}
use Rattle.jt_image.specs.Code.{Code, Section}
use Rattle.jt_verify.specs.Search.{Found, unit_found}
use Rattle.jt_show.specs.Listing.{found_or, found_there, is_accepted, nothing_found}

get_is : {A : Type 0} (xs : List A) (i : ℕ) (x d : A) → slice_get xs i ≡ Some x → get_or xs i d ≡ x
get_is (y ∷ ys) zero x d e = cc
get_is (y ∷ ys) (suc i) x d e = get_is ys i x d e
get_is a0 i x d e = cc

-- What is found in the next unit, if the units before it are accepted.
abbrev pub found_if : Code → ℕ → Bool → Option Found
found_if k n accepted = cond accepted (option_map (unit_found k) (slice_get k.units n)) None

pub accepted_next : (k : Code) (n : ℕ) (unit : Section) (accepted new : Bool) (found : Option Found)
    → slice_get k.units n ≡ Some unit → found ≡ found_if k n accepted
    → accepted ≡ list_all (is_accepted k) (take n k.units) → new ≡ (accepted && is_none (found_or found).refused)
    → new ≡ list_all (is_accepted k) (take (n + 1) k.units)
accepted_next k n unit accepted new found is finds all step =
    step ∙ by accepted finds ∙ ap (λ (b : Bool). b && is_accepted k unit) all
    ∙ ap (λ (u : Section). list_all (is_accepted k) (take n k.units) && is_accepted k u)
    (sym (get_is k.units n unit unit is))
    ∙ sym (list_all_more (is_accepted k) k.units n unit (slice_get_within k.units n unit is))
  where
    by : (accepted : Bool) → found ≡ found_if k n accepted
        → (accepted && is_none (found_or found).refused) ≡ (accepted && is_accepted k unit)
    by false e = refl
    by true e = rw (e, is) refl

-- What the listing shows of a unit, if the units before it are accepted.
abbrev shown_if : Code → Section → Bool → Found
shown_if k unit accepted = cond accepted (unit_found k unit) nothing_found

-- What is found there is what the listing shows.
pub found_shown : (k : Code) (n : ℕ) (unit : Section) (accepted : Bool) (found : Option Found)
    → slice_get k.units n ≡ Some unit → found ≡ found_if k n accepted
    → accepted ≡ list_all (is_accepted k) (take n k.units) → found_or found ≡ found_there k n unit
found_shown k n unit accepted found is finds all = by accepted finds ∙ ap (shown_if k unit) all
  where
    by : (accepted : Bool) → found ≡ found_if k n accepted → found_or found ≡ shown_if k unit accepted
    by false e = rw e refl
    by true e = rw (e, is) refl
