use Rattle.std.proofs.Common.{◌≡◌, ◌≤◌, ℕ, List, [], ◌∷◌, Option, Some, None, zero}
use Rattle.std.proofs.Common.{suc, get_or, length, arith, refl, inr}
use Rattle.jt_image.specs.Typed.{max_entries}
use Rattle.jt_verify.specs.Search.{shape_at}
use Rattle.jt_verify.specs.declared.nodes.ShapeId.{ShapeId}
use Rattle.jt_verify.specs.Arena.{Lists, shape_in}
use Rattle.jt_verify.specs.Working.{table_in}
use Rattle.jt_verify.proofs.shape_comparison.is_known_at.Goals as goal

known_there : (t : Lists) (hs : List (Option ShapeId)) (p : ℕ) (h : ShapeId) → get_or hs p None ≡ Some h
    → shape_at (table_in t hs) p ≡ Some (shape_in t h)
known_there t [] p h e = cc
known_there t (x ∷ hs) zero h e = rw e refl
known_there t (x ∷ hs) (suc p) h e = known_there t hs p h e

pub returns-in-Err : goal.returns-in-Err
returns-in-Err c =
    let t = c.args.arena.now in
    let small : length (shape_in t c.args.path.shape) ≤ max_entries =
    omega (arith, c.if-height-gt-MAX_ENTRIES.false, c.height.ensures.length) in
    let there = known_there t c.args.shapes.now c.args.path.point c.in-Some.known c.in-Some.is in (
      (refl, inr (small, (shape_in t c.in-Some.known, there, c.in-Err.ensures), refl)),
      c.requires.shape,
    )
