use Rattle.jt_notes.proofs.names.has_name.Goals as goal
use Rattle.std.proofs.Common.{◌≡◌, ℕ, List, [], ◌∷◌, arith, refl, rules, suc}
use Rattle.std.specs.Prelude.{is_some}
use Rattle.jt_ast.specs.Texts.{among}
use Rattle.jt_names.specs.Names.{first_of}
use Rattle.jt_notes.specs.Notes.{Text}

known : (x : Text) (n : ℕ) (xs : List Text) → is_some (first_of x n xs) ≡ among x xs
known x n [] = refl
known x n (y ∷ ys) = search (arith, rules, known x (suc n) ys)

pub returns : goal.returns
returns c = λ xs indices.
    let named = known c.args.name.now 0 xs in
    let found = indices c.args.name.now in
    search (arith, rules, found, named, c.is_some.ensures, c.index_of.ensures)
