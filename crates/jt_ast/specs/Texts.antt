-- Lists of texts.
use Rattle.std.specs.Prelude.{Bool, false, ◌||◌, List, [], ◌∷◌, map, if◌then◌else◌}
use Rattle.std.specs.Ordering.{nat_cmp, is_lt}
use Rattle.std.specs.Cmp.Lexicographic.{slice_cmp}
use Rattle.std.specs.Str.{bytes_eq}
use denote.Ref.{Bor}
use Rattle.jt_ast.specs.Expressions.{Text}

-- The texts of a list of references.
abbrev pub texts : List (Bor Text) → List Text
texts ks = map (λ k. k.now) ks

-- The text is in the list.
abbrev pub among : Text → List Text → Bool
among x [] = false
among x (y ∷ ys) = bytes_eq y x || among x ys

-- The list has a duplicate.
abbrev pub repeated : List Text → Bool
repeated [] = false
repeated (x ∷ xs) = among x xs || repeated xs

-- The ascending list with a text inserted in order. A text that is in the list is not inserted
-- again.
abbrev pub inserted : Text → List Text → List Text
inserted x [] = x ∷ []
inserted x (y ∷ ys) =
    if bytes_eq y x
    then y ∷ ys
    else if is_lt (slice_cmp nat_cmp x y) then x ∷ y ∷ ys else y ∷ inserted x ys

-- The ascending list ns with each text of a list inserted.
abbrev pub all_inserted : List Text → List Text → List Text
all_inserted [] ns = ns
all_inserted (x ∷ xs) ns = all_inserted xs (inserted x ns)

-- The distinct texts of a list, in ascending order.
abbrev pub ascending : List Text → List Text
ascending xs = all_inserted xs []
