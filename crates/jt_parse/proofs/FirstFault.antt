-- The first unknown name in branches, in order.
use Rattle.std.proofs.Common.{◌≡◌, ℕ, ◌+◌, ◌<◌, List, length, drop, get_or, sym, ap, subst, ◌∙◌, Option, Some, None}
use Rattle.std.proofs.Common.{Result, Err}
use Rattle.std.specs.Option.{option_or}
use Rattle.std.proofs.lemmas.List.{drop_more}
use Rattle.jt_expr.specs.Named.{has_unknown}
use Rattle.jt_ast.specs.ExpressionView.{expr_view}
use Rattle.jt_expr.specs.declared.named.Named.TheVariants as named
use Rattle.jt_parse.specs.Names.{Found, unknown_in, body_unknown, branch_unknown}
use Rattle.jt_ast.specs.StatementView.{body_view, branches_view}
use Rattle.jt_parse.specs.internal.Gives.{GivesNames}
use Rattle.jt_parse.specs.declared.error.ParseError.{ParseError}
use Rattle.jt_parse.specs.declared.error.ParseError.TheVariants as e
use Rattle.jt_ast.proofs.RemainingParts.{Branch}

-- ---- the first of two

option_left : {A : Type 0} (o p : Option A) (a : A) → o ≡ Some a → option_or o p ≡ Some a
option_left o p a is = ap (λ q. option_or q p) is

option_right : {A : Type 0} (o p : Option A) → o ≡ None → option_or o p ≡ p
option_right o p none = ap (λ q. option_or q p) none

-- An unknown name in the first part is the first one.
pub fault_first : (o p : Found) (f : ParseError) → GivesNames o (Err f) → GivesNames (option_or o p) (Err f)
fault_first o p (e.Syntax l) g = absurd g
fault_first o p (e.TooDeep l) g = absurd g
fault_first o p (e.UnknownFilter l) g = option_left o p (l, named.Filter) g
fault_first o p (e.UnknownTest l) g = option_left o p (l, named.Test) g
fault_first o p e.NoMemory g = absurd g

-- If the first part has none, the first unknown name is that of the second part.
pub fault_behind : (o p : Found) (r : Result (Unit {0}) ParseError) → o ≡ None → GivesNames p r
    → GivesNames (option_or o p) r
fault_behind o p r none g = subst (λ q. GivesNames q r) (sym (option_right o p none)) g

-- ---- branches

-- The first unknown name in one branch.
abbrev branch_at : Branch → Found
branch_at b =
    option_or (unknown_in b.line (λ u. has_unknown u (expr_view b.condition))) (body_unknown (body_view b.body.items))

-- The first unknown name in the remaining branches.
branches_left : (bs : List Branch) (i : ℕ) (b : Branch) → i < length bs → b ≡ get_or bs i b
    → branch_unknown (branches_view (drop i bs))
    ≡ option_or (branch_at b) (branch_unknown (branches_view (drop (i + 1) bs)))
branches_left bs i b lt is =
    ap (λ (z : List Branch). branch_unknown (branches_view z)) (drop_more bs i b lt)
    ∙ ap (λ (z : Branch). option_or (branch_at z) (branch_unknown (branches_view (drop (i + 1) bs)))) (sym is)

branch_refused : (bs : List Branch) (i : ℕ) (b : Branch) (f : ParseError) → i < length bs → b ≡ get_or bs i b
    → GivesNames (branch_at b) (Err f) → GivesNames (branch_unknown (branches_view (drop i bs))) (Err f)
branch_refused bs i b f lt is g =
    subst (λ o. GivesNames o (Err f)) (sym (branches_left bs i b lt is))
    (fault_first (branch_at b) (branch_unknown (branches_view (drop (i + 1) bs))) f g)

pub condition_refused : (bs : List Branch) (i : ℕ) (b : Branch) (f : ParseError) → i < length bs → b ≡ get_or bs i b
    → GivesNames (unknown_in b.line (λ u. has_unknown u (expr_view b.condition))) (Err f)
    → GivesNames (branch_unknown (branches_view (drop i bs))) (Err f)
condition_refused bs i b f lt is g =
    branch_refused bs i b f lt is (fault_first (unknown_in b.line (λ u. has_unknown u (expr_view b.condition)))
    (body_unknown (body_view b.body.items)) f g)

pub inside_refused : (bs : List Branch) (i : ℕ) (b : Branch) (f : ParseError) → i < length bs → b ≡ get_or bs i b
    → unknown_in b.line (λ u. has_unknown u (expr_view b.condition)) ≡ None
    → GivesNames (body_unknown (body_view b.body.items)) (Err f)
    → GivesNames (branch_unknown (branches_view (drop i bs))) (Err f)
inside_refused bs i b f lt is c g =
    branch_refused bs i b f lt is (fault_behind (unknown_in b.line (λ u. has_unknown u (expr_view b.condition)))
    (body_unknown (body_view b.body.items)) (Err f) c g)
