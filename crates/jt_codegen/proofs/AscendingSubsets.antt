-- A strictly ascending list of texts is no longer than any list that has all of them.
use Rattle.std.proofs.Common.{◌≤◌, List, [], ◌∷◌, length, inl, inr}
use Rattle.jt_ast.specs.Expressions.{Text}
use Rattle.jt_semantics.specs.Ascends.{Ascends}
use Rattle.jt_semantics.proofs.Among as meaning
use Rattle.jt_semantics.proofs.NameCounts as few
use Rattle.jt_semantics.proofs.NameCounts.{ascends_differs}
use Rattle.jt_semantics.proofs.Among.{all_among}
use Rattle.jt_lower.proofs.SourceLocsCorrect.{Among}

-- Both definitions of membership agree.
to : (t : Text) (xs : List Text) → Among t xs → meaning.Among t xs
to t [] i = i
to t (x ∷ xs) (inl e) = inl e
to t (x ∷ xs) (inr i) = inr (to t xs i)

from : (t : Text) (xs : List Text) → meaning.Among t xs → Among t xs
from t [] i = i
from t (x ∷ xs) (inl e) = inl e
from t (x ∷ xs) (inr i) = inr (from t xs i)

pub no_more : (xs ns : List Text) → Ascends xs → ((t : Text) → Among t xs → Among t ns) → length xs ≤ length ns
no_more xs ns h f = few.no_more xs ns (ascends_differs xs h) (all_among xs ns (λ t i. to t ns (f t (from t xs i))))
