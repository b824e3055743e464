-- The positions of the statements of a template, in order.
use Rattle.std.proofs.Common.{◌≡◌, ℕ, ◌+◌, ◌<◌, ◌&&◌, Bool, false, List, length, drop, get_or, ap, ◌∙◌, Option, Some}
use Rattle.std.proofs.Common.{None}
use Rattle.jt_ast.specs.Statements.{Body}
use Rattle.jt_parse.specs.Positions as positions
use Rattle.jt_parse.specs.Positions.{is_placed, body_placed, branches_placed}
use Rattle.jt_parse.specs.internal.PositionView.{position_view}
use Rattle.jt_ast.specs.StatementView.{body_view, branches_view}
use Rattle.jt_parse.specs.declared.positions.Position.{Position}
use Rattle.jt_ast.proofs.RemainingParts.{Branch, branches_left}

-- The remaining statements have allowed positions: at this position, or as a template of which only
-- whitespace was read so far.
abbrev pub placed_by : Option Position → Body → Bool
placed_by None b = is_placed b
placed_by (Some p) b = body_placed (position_view p) b

pub branch_misplaced : (q : positions.Position) (bs : List Branch) (i : ℕ) (b : Branch) → i < length bs
    → b ≡ get_or bs i b → body_placed q (body_view b.body.items) ≡ false
    → branches_placed q (branches_view (drop i bs)) ≡ false
branch_misplaced q bs i b lt is bad =
    ap (branches_placed q) (branches_left bs i b lt is)
    ∙ ap (λ c. c && branches_placed q (branches_view (drop (i + 1) bs))) bad
