-- Loops that read tables and keep the offset of each element.
use Rattle.std.proofs.Common.{◌≡◌, ℕ, ◌+◌, ◌-◌, ◌<◌, List, [], ◌∷◌, ◌++◌, length, map, Ok, ap, ◌∙◌}
use Rattle.std.proofs.lemmas.List.{map_push}
use Rattle.jt_image.specs.Reading.{many_at}
use Rattle.jt_image.specs.InPlace.{AreRead}
use Rattle.jt_image.proofs.DecodeSoundLemmas.{Read}
use Rattle.jt_image.proofs.TableLoops.{goes_on}
use Rattle.jt_image.proofs.ReadPrefix.{all_push}
use Rattle.jt_image.proofs.TablesInPlace.{Step}

module _ {A : Type 0} (part : List ℕ → ℕ → A) (has : List ℕ → ℕ → Type 0) (step : List A → List ℕ → Read A)
    (total : Read (List A)) (bytes : List ℕ) where
  -- The elements so far were read at these offsets, and reading continues after them.
  pub record Walks (left : ℕ) (offsets rest : List ℕ) : Type 0 where
    pub so_far : many_at step left (map (part bytes) offsets) rest ≡ total
    pub read : AreRead (has bytes) bytes offsets rest

  pub walks_on : (count i : ℕ) (offsets rest : List ℕ) (x : A) (after : List ℕ) → i < count
      → step (map (part bytes) offsets) rest ≡ Ok (x, after) → Step part has bytes rest x after
      → Walks (count - i) offsets rest
      → Walks (count - (i + 1)) (offsets ++ (length bytes - length rest) ∷ []) after
  walks_on count i offsets rest x after lt read s h =
      let e : map (part bytes) (offsets ++ (length bytes - length rest) ∷ []) ≡ map (part bytes) offsets ++ x ∷ [] =
      map_push
      (part bytes) offsets (length bytes - length rest)
      ∙ ap (λ (y : A). map (part bytes) offsets ++ y ∷ []) s.is in
      record {
        so_far = rw e (goes_on step count i (map (part bytes) offsets) rest total x after lt read h.so_far);
        read =
            record {
              there = all_push (has bytes) offsets (length bytes - length rest) h.read.there s.there;
              last = s.last;
            };
      }
