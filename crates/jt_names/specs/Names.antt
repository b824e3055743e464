-- The names of parameters, names that are added to sets and lists, and maps from names.
use Rattle.std.specs.Prelude.{◌≡◌, ◌++◌, ℕ, suc, List, [], ◌∷◌, map, Option, Some, None, if◌then◌else◌}
use Rattle.std.specs.Ordering.{nat_cmp}
use Rattle.std.specs.Cmp.Lexicographic.{slice_cmp}
use Rattle.std.specs.Str.{bytes_eq}
use Rattle.std.specs.BTreeMap.{BTreeMap, get_by}
use Rattle.std.specs.BTreeSet.{BTreeSet}
use Rattle.std.specs.declared.alloc.Global.{Global}
use Rattle.std.specs.declared.vec.Vec.{Vec}
use denote.Ref.{Bor}
use Rattle.jt_ast.specs.Expressions.{Text}
use Rattle.jt_ast.specs.StatementView.{parameters_view}
use Rattle.jt_ast.specs.Texts.{texts, all_inserted}
use Rattle.jt_ast.specs.declared.statement.Parameter.{Parameter}

abbrev pub parameter_names : List Parameter → List Text
parameter_names ps = map (λ p. p.name) (parameters_view ps)

-- The new set is the old one with these names inserted.
abbrev pub Puts : BTreeSet (Bor Text) → BTreeSet (Bor Text) → List Text → Type 0
Puts old new xs = texts new.keys ≡ all_inserted xs (texts old.keys)

-- The new list is the old one with these names appended.
abbrev pub Adds : Vec (Bor Text) Global → Vec (Bor Text) Global → List Text → Type 0
Adds old new xs = texts new.items ≡ texts old.items ++ xs

-- The value of a name.
abbrev pub value_in : {V : Type 0} → BTreeMap (Bor Text) V → Text → Option V
value_in m x = get_by (λ k. slice_cmp nat_cmp x k.now) m

-- The number of the first of these texts that is x; the texts are numbered from n.
abbrev pub first_of : Text → ℕ → List Text → Option ℕ
first_of x n [] = None
first_of x n (y ∷ ys) = if bytes_eq y x then Some n else first_of x (suc n) ys

-- The map has the number of the first occurrence of each name; the names are numbered from n.
abbrev pub AreIndices : ℕ → List Text → BTreeMap (Bor Text) ℕ → Type 0
AreIndices n xs m = (x : Text) → value_in m x ≡ first_of x n xs
