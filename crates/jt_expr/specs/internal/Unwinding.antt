-- The reader of the remaining tokens, by the forms that wait for a tree. Only private clauses cite
-- this module.
use Rattle.std.specs.Prelude.{◌≡◌, ◌<◌, ℕ, zero, suc, ◌+◌, ◌-◌, ◌*◌, List, [], ◌∷◌, length, drop, Result, Ok, Err}
use Rattle.std.specs.Prelude.{if◌then◌else◌}
use Rattle.jt_scan.specs.declared.segment.Sign.TheVariants as s
use Rattle.jt_ast.specs.Expressions.{Expr}
use Rattle.jt_expr.specs.declared.error.ExprError.{ExprError}
use Rattle.jt_expr.specs.declared.pending.Progress.{Progress}
use Rattle.jt_expr.specs.declared.pending.Progress.TheVariants as g
use Rattle.jt_expr.specs.declared.pending.Reader.{Reader as Machine}
use Rattle.jt_expr.specs.Front.{sees}
use Rattle.jt_expr.specs.Grammar.{Tokens, Level, whole, inversion, comparison, postscript, signed, postfix, next}
use Rattle.jt_expr.specs.Grammar.{closer, behind_key}
use Rattle.jt_expr.specs.internal.Collecting.{then_parts, then_part}
use Rattle.jt_expr.specs.internal.Reading.{ParseResult, Reader, ◌>>=◌, syntax, expect, loop, row, postfix_step}
use Rattle.jt_expr.specs.internal.Reading.{postscript_step, chain_step, compare_by, operator, if_part, else_part}
use Rattle.jt_expr.specs.internal.Reading.{read_at, read}
use Rattle.jt_expr.specs.internal.Gives.{Refuses}
use Rattle.jt_expr.specs.internal.Pending.{rank, looser, Form, in_part, in_condition, Move, grown, complete, waits}
use Rattle.jt_expr.specs.internal.Pending.{nests, awaited, reached, deeper, level_of, goal_of, level_view, forms_of}
use Rattle.jt_expr.specs.internal.Pending.{move_view}
use Rattle.jt_expr.specs.internal.Pending.{Proper}
use Rattle.jt_expr.specs.Promises.{tree_of}
use Rattle.jt_expr.specs.internal.Moves.{ends, resume}

-- `inner` reads forms that are one level deeper, and n levels are allowed here.
module _ (inner : Level → Reader Expr) (n : ℕ) where
  -- The reader after a tree of the level.
  unfoldable pub more : Level → Expr → Reader Expr
  more postfix = loop (postfix_step inner n) n
  more signed = λ t ts. Ok (t, ts)
  more postscript = loop (postscript_step inner n) n
  more comparison = λ t ts. compare_by inner n t ts (operator comparison ts)
  more inversion = λ t ts. Ok (t, ts)
  more whole = if_part inner n
  more k = loop (chain_step inner n k (read_at inner n (next k))) n

  -- The reader after a move that needs no further tree.
  unfoldable pub settled : Move → Reader Expr
  settled (grown k t) ts = more k t ts
  settled (complete k t) ts = Ok (t, ts)
  settled (waits f) ts = Err syntax
  settled (nests f) ts = Err syntax

  -- The rest of a form, given the tree that it waits for.
  unfoldable pub rest_of : Form → Expr → Reader Expr
  rest_of (in_part o r turns found k) t ts =
      if sees s.Comma ts
      then (row inner n turns (behind_key r k) (drop 1 ts)
      >>= λ q v. ends inner n o (then_parts (then_part found (k, t)) q) v >>= settled)
      else (expect (closer r) ts >>= λ _ v. ends inner n o (then_part found (k, t)) v >>= settled)
  rest_of (in_condition a) t ts = else_part inner n a t ts
  rest_of f t ts = resume inner n f t ts >>= settled

  -- The rest of a form of the move's level.
  unfoldable pub onward : Move → Reader Expr
  onward (grown k t) ts = more k t ts
  onward (complete k t) ts = Ok (t, ts)
  onward (waits f) ts = read_at inner n (awaited f) ts >>= rest_of f
  onward (nests f) ts = inner (awaited f) ts >>= rest_of f

  -- The reader after a complete tree of the level, up to the level that is d levels looser.
  unfoldable pub climb : ℕ → Level → Expr → Reader Expr
  climb zero k t ts = Ok (t, ts)
  climb (suc d) k t ts = more (looser k) t ts >>= climb d (looser k)

  -- The reader after a complete tree of the level k, up to the level `goal`.
  abbrev pub climbs : Level → Level → Expr → Reader Expr
  climbs goal k = climb (rank goal - rank k) k

  -- The rest of a form of the level `goal`, given the move.
  unfoldable pub finish : Level → Move → Reader Expr
  finish goal m ts = onward m ts >>= climbs goal (level_of m)

-- The rest of a form that waits, and of the form of the level `goal` around it. Forms inside it have
-- at most `below` levels.
abbrev pub carried : ℕ → Level → Form → Expr → Reader Expr
carried below goal f t ts =
    rest_of (read below) (suc below) f t ts >>= climbs (read below) (suc below) goal (reached f)

-- The outcome of the outermost form, given that of the tree which the innermost one waits for.
unfoldable pub unwind : Level → ℕ → List Form → ParseResult Expr → ParseResult Expr
unwind entry below [] o = o
unwind entry below (f ∷ fs) o =
    unwind entry (below + deeper f) fs (o >>= carried (below + deeper f) (goal_of entry fs) f)

-- The outcome of the outermost form, given the last move.
unfoldable pub outcome_at : Level → ℕ → List Form → Move → Reader Expr
outcome_at entry below fs m ts =
    unwind entry below fs (finish (read below) (suc below) (goal_of entry fs) m ts)

-- The outcome of the outermost form of the code's reader.
abbrev pub outcome_of : Machine → Move → Reader Expr
outcome_of r = outcome_at (level_view r.entry) r.below (forms_of r.pending.items)

-- ---- the number of steps

-- A bound of the moves before the next token is taken or a form has its tree.
abbrev pub moves_left : Move → ℕ
moves_left (grown k t) = 24 - 2 * rank k
moves_left (complete k t) = 23 - 2 * rank k
moves_left (waits f) = 0
moves_left (nests f) = 0

-- A bound of the moves up to the end of the outermost form.
abbrev pub steps_left : ℕ → Move → Tokens → ℕ
steps_left forms m ts = 64 * length ts + 32 * forms + moves_left m

-- ---- results

-- The outcome, given the result of a step of the code's reader.
abbrev pub GivesProgress : ParseResult Expr → Result Progress ExprError → Machine → Tokens → Type 0
GivesProgress o (Ok (g.Moved s)) r new = o ≡ outcome_of r (move_view s) new
GivesProgress o (Ok (g.Done t)) r new = o ≡ Ok (tree_of t, new)
GivesProgress o (Err x) r new = Refuses o x

-- The next move is proper, and fewer than `bound` moves are left.
abbrev pub Falls : ℕ → Result Progress ExprError → Machine → Tokens → Type 0
Falls bound (Ok (g.Moved s)) r new =
    Proper (move_view s) × (steps_left (length r.pending.items) (move_view s) new < bound)
Falls bound (Ok (g.Done t)) r new = Unit {0}
Falls bound (Err x) r new = Unit {0}
