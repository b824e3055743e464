-- The last place before a point, as the points are read one after the other.
use Rattle.std.proofs.Common.{◌≡◌, ◌∙◌, ◌+◌, ◌++◌, ℕ, Bool, List, Option, Some, None, add-one, ap, ap₂, append_assoc}
use Rattle.std.proofs.Common.{option_map, refl}
use Rattle.std.specs.Option.{option_or}
use Rattle.jt_image.specs.Code.{Code}
use Rattle.jt_image.specs.Readers.{place_ref_view, place_there}
use Rattle.jt_image.specs.declared.Instruction.{Instruction}
use Rattle.jt_image.specs.declared.PlaceRef.{PlaceRef}
use Rattle.jt_value.specs.Place.{Place}
use Rattle.jt_image.specs.Effect.{Shape}
use Rattle.jt_verify.specs.Search.{Found, shape_at}
use Rattle.jt_show.specs.Shapes.{line_end}
use Rattle.jt_show.specs.Marks.{mark_line}
use Rattle.jt_show.specs.Listing.{instruction_start, is_target, label_line, place_before, place_line, point_text}

seen : (place before : Option PlaceRef)
    → option_map place_ref_view (option_or place before)
    ≡ option_or (option_map place_ref_view place) (option_map place_ref_view before)
seen None before = refl
seen (Some p) before = refl

-- After an instruction the last place is its place, or the last one before it if it has none.
pub place_next : (k : Code) (unit point : ℕ) (place before new : Option PlaceRef) → new ≡ option_or place before
    → option_map place_ref_view place ≡ place_there k unit point
    → option_map place_ref_view before ≡ place_before k unit point
    → option_map place_ref_view new ≡ place_before k unit (point + 1)
place_next k unit point place before new is there last =
    rw (is, add-one) (seen place before ∙ ap₂ option_or there last)

five : (old one two three four new p l i e m : List ℕ) → one ≡ old ++ p → two ≡ one ++ l → three ≡ two ++ i
    → four ≡ three ++ e → new ≡ four ++ m → new ≡ old ++ (p ++ (l ++ (i ++ (e ++ m))))
five old one two three four new p l i e m a b c d f =
    rw (f, d, c, b, a) (append_assoc (((old ++ p) ++ l) ++ i) e m ∙ append_assoc ((old ++ p) ++ l) i (e ++ m)
    ∙ append_assoc (old ++ p) l (i ++ (e ++ m)) ∙ append_assoc old p (l ++ (i ++ (e ++ m))))

-- The line of a place, that of a label, that of an instruction with its shape, and that of a refusal are
-- the lines of a point.
pub point_put : (k : Code) (unit : ℕ) (code : List Instruction) (found : Found) (point : ℕ) (i : Instruction)
    (before place : Option Place) (target : Bool) (shape : Option Shape) (old one two three four new : List ℕ)
    → before ≡ place_before k unit point → place ≡ place_there k unit point → target ≡ is_target code point
    → shape ≡ shape_at found.shapes point
    → one ≡ old ++ place_line before place → two ≡ one ++ label_line target point
    → three ≡ two ++ instruction_start k point i → four ≡ three ++ line_end shape
    → new ≡ four ++ mark_line found point (Some i)
    → new ≡ old ++ point_text k unit code found point i
point_put k unit code found point i before place target shape old one two three four new last there marked known a b c
    d e =
    five old one two three four new (place_line before place) (label_line target point) (instruction_start k point i)
    (line_end shape) (mark_line found point (Some i)) a b c d e
    ∙ ap (λ (l : List ℕ). old ++ l)
    (ap₂ (λ (p l : List ℕ). p ++ l) (ap₂ place_line last there)
    (ap₂ (λ (t : Bool) (o : Option Shape). label_line t point
    ++ (instruction_start k point i ++ (line_end o ++ mark_line found point (Some i)))) marked known))
