-- The results of the parser's functions. Only private clauses cite this module.
use Rattle.std.specs.Prelude.{◌≡◌, ℕ, ◌≤◌, ◌<◌, List, ◌∷◌, map, reverse, Bool, true, false, Some, None, Result, Ok, Err}
use Rattle.std.specs.Prelude.{Vec}
use Rattle.std.specs.declared.alloc.Global.{Global}
use Rattle.jt_ast.specs.ExpressionView.{expr_view}
use Rattle.jt_scan.specs.Cut as cut
use Rattle.jt_scan.specs.View.{token_view}
use Rattle.jt_scan.specs.declared.segment.Token.{Token}
use Rattle.jt_expr.specs.declared.error.ExprError.{ExprError}
use Rattle.jt_expr.specs.declared.error.ExprError.TheVariants as fault
use Rattle.jt_expr.specs.declared.named.Named.{Named}
use Rattle.jt_expr.specs.declared.named.Named.TheVariants as named
use Rattle.jt_parse.specs.Kept.{SourcePiece}
use Rattle.jt_parse.specs.Names.{Found, body_unknown, unknown_in}
use Rattle.jt_parse.specs.Refusals.{max_levels}
use Rattle.jt_parse.specs.Positions.{is_placed}
use Rattle.jt_ast.specs.Statements.{Body, end}
use Rattle.jt_parse.specs.internal.Reading as reading
use Rattle.jt_parse.specs.internal.Reading.{Fault, syntax, deep, State, state, OpenStmt}
use Rattle.jt_ast.specs.StatementView.{body_view, branches_view, body_of}
use Rattle.jt_parse.specs.internal.HeadView.{loop_view, opening_view}
use Rattle.jt_parse.specs.declared.error.ParseError.{ParseError}
use Rattle.jt_parse.specs.declared.error.ParseError.TheVariants as e
use Rattle.jt_ast.specs.declared.statement.Stmt.{Stmt}
use Rattle.jt_ast.specs.declared.statement.Template.{Template}
use Rattle.jt_parse.specs.declared.open_stmts.OpenStmt.{OpenStmt as Open}
use Rattle.jt_parse.specs.declared.open_stmts.OpenKind.{OpenKind}
use Rattle.jt_parse.specs.declared.open_stmts.OpenKind.TheVariants as k
use Rattle.jt_parse.specs.declared.parser.Parser.{Parser}

-- The result is the only value of the form, and it has at most `limit` levels. `Syntax`: no value
-- is of the form. `TooDeep`: each value of the form has more levels.
abbrev pub GivesOnly : {A B : Type 0} → (A → B) → (B → Type 0) → (B → ℕ) → ℕ → Result A ParseError
    → Type 0
GivesOnly {B = B} view NestedForm height limit (Ok a) =
    NestedForm (view a) × (height (view a) ≤ limit) × ((b : B) → NestedForm b → b ≡ view a)
GivesOnly {B = B} view NestedForm height limit (Err (e.Syntax line)) = (b : B) → NestedForm b → ⊥
GivesOnly {B = B} view NestedForm height limit (Err (e.TooDeep line)) =
    (b : B) → NestedForm b → limit < height b
GivesOnly view NestedForm height limit (Err (e.UnknownFilter line)) = ⊥
GivesOnly view NestedForm height limit (Err (e.UnknownTest line)) = ⊥
GivesOnly view NestedForm height limit (Err e.NoMemory) = Unit {0}

-- The tokens of a tag.
abbrev pub seen : List Token → List cut.Token
seen = map token_view

-- The refusal is one of the relation, or a lack of memory.
abbrev pub Refuses : {A : Type 0} → (Result A Fault → Type 0) → ParseError → Type 0
Refuses O (e.Syntax line) = O (Err syntax)
Refuses O (e.TooDeep line) = O (Err deep)
Refuses O (e.UnknownFilter line) = ⊥
Refuses O (e.UnknownTest line) = ⊥
Refuses O e.NoMemory = Unit {0}

-- The view of an open statement, given the statements before it.
abbrev pub open_stmt_by : Body → ℕ → OpenKind → OpenStmt
open_stmt_by before line (k.Branch bs l c) =
    reading.in_branch before (branches_view bs.items) l (expr_view c)
open_stmt_by before line (k.Else bs) = reading.in_else before (branches_view bs.items)
open_stmt_by before line (k.Loop l) = reading.in_loop before line (loop_view l)
open_stmt_by before line (k.LoopElse l body) =
    reading.in_loop_else before line (loop_view l) (body_view body.items)
open_stmt_by before line (k.BlockStart o) = reading.in_opening before line (opening_view o)

abbrev pub open_stmt_view : Open → OpenStmt
open_stmt_view f = open_stmt_by (body_view f.before.items) f.line f.kind

-- The innermost open statement is the last one of the list, and the first one of its view.
abbrev pub open_stmts_view : List Open → List OpenStmt
open_stmts_view fs = reverse (map open_stmt_view fs)

-- The statement f is pushed onto the open statements.
abbrev pub Opens : Open → List Open → List Open → Type 0
Opens f old new = open_stmts_view new ≡ open_stmt_view f ∷ open_stmts_view old

-- The statement of the kind is the innermost open one, inside the given ones.
abbrev pub GivesKind : (Result State Fault → Type 0) → Body → ℕ → List OpenStmt
    → Result OpenKind ParseError → Type 0
GivesKind O before line fs (Ok kind) = O (Ok (state end (open_stmt_by before line kind ∷ fs)))
GivesKind O before line fs (Err f) = Refuses O f

abbrev pub state_view : Parser → State
state_view p = state (body_view p.body.items) (open_stmts_view p.open_stmts.items)

abbrev pub GivesState : (Result State Fault → Type 0) → Result (Unit {0}) ParseError → Parser
    → Type 0
GivesState O (Ok u) new = O (Ok (state_view new))
GivesState O (Err f) new = Refuses O f

-- The rule leads from the state before to the result.
abbrev pub Moves : (State → Result State Fault → Type 0) → Parser → Result (Unit {0}) ParseError
    → Parser → Type 0
Moves rule old result new = GivesState (rule (state_view old)) result new

-- The pieces lead from the state before to the result.
abbrev pub RunsOver : List SourcePiece → Parser → Result (Unit {0}) ParseError → Parser → Type 0
RunsOver ps = Moves (λ s. reading.Runs max_levels s ps)

-- The statements of the innermost open body; `open_in` has the open statements.
abbrev pub body_in : Parser → Body
body_in p = body_view p.body.items

abbrev pub open_in : Parser → List OpenStmt
open_in p = open_stmts_view p.open_stmts.items

abbrev pub GivesBody : (Result Body Fault → Type 0) → Result (Vec Stmt Global) ParseError → Type 0
GivesBody O (Ok b) = O (Ok (body_view b.items))
GivesBody O (Err f) = Refuses O f

-- The error of an expression as the error of a tag at the line.
abbrev pub refusal_at : ℕ → ExprError → ParseError
refusal_at line fault.Syntax = e.Syntax line
refusal_at line fault.TooDeep = e.TooDeep line
refusal_at line fault.NoMemory = e.NoMemory

-- No filter and no test is unknown, or the refusal is for the first tag with an unknown one.
abbrev pub GivesNames : Found → Result (Unit {0}) ParseError → Type 0
GivesNames found (Ok u) = found ≡ None
GivesNames found (Err (e.Syntax line)) = ⊥
GivesNames found (Err (e.TooDeep line)) = ⊥
GivesNames found (Err (e.UnknownFilter line)) = found ≡ Some (line, named.Filter)
GivesNames found (Err (e.UnknownTest line)) = found ≡ Some (line, named.Test)
GivesNames found (Err e.NoMemory) = ⊥

-- `GivesNames` for a single tag.
abbrev pub GivesNamesIn : ℕ → (Named → Bool) → Result (Unit {0}) ParseError → Type 0
GivesNamesIn line unknown = GivesNames (unknown_in line unknown)

-- The positions of statements are allowed, or the refusal states that they are not.
abbrev pub GivesPositions : Bool → Result (Unit {0}) ParseError → Type 0
GivesPositions placed (Ok u) = placed ≡ true
GivesPositions placed (Err (e.Syntax line)) = placed ≡ false
GivesPositions placed (Err (e.TooDeep line)) = ⊥
GivesPositions placed (Err (e.UnknownFilter line)) = ⊥
GivesPositions placed (Err (e.UnknownTest line)) = ⊥
GivesPositions placed (Err e.NoMemory) = ⊥

-- The statements that are read include one at a position that is not allowed.
abbrev pub IsMisplaced : (Result Body Fault → Type 0) → Type 0
IsMisplaced O = (b : Body) × O (Ok b) × (is_placed b ≡ false)

-- The statements that are read have allowed positions. Their first tag with an unknown name is at
-- the line, and the name is that of a filter or a test, as x states.
abbrev pub Finds : (Result Body Fault → Type 0) → ℕ → Named → Type 0
Finds O line x = (b : Body) × O (Ok b) × (is_placed b ≡ true) × (body_unknown b ≡ Some (line, x))

-- No tree is read, or a tree with a statement at a position that is not allowed.
pub data IsNone (O : Result Body Fault → Type 0) : Type 0 where
  not_read : O (Err syntax) → IsNone O
  misplaced : IsMisplaced O → IsNone O

abbrev pub GivesKnown : (Result Body Fault → Type 0) → Result Template ParseError → Type 0
GivesKnown O (Ok t) =
    O (Ok (body_of t)) × (is_placed (body_of t) ≡ true) × (body_unknown (body_of t) ≡ None)
GivesKnown O (Err (e.Syntax line)) = IsNone O
GivesKnown O (Err (e.TooDeep line)) = O (Err deep)
GivesKnown O (Err (e.UnknownFilter line)) = Finds O line named.Filter
GivesKnown O (Err (e.UnknownTest line)) = Finds O line named.Test
GivesKnown O (Err e.NoMemory) = Unit {0}
