-- The states of the parser, and the state after each piece. The relations of the grammar define the
-- trees that tags spell. Only private clauses cite this module.
use Rattle.std.specs.Prelude.{◌≡◌, ℕ, suc, ◌+◌, ◌≤◌, ◌<◌, Bool, true, false, ◌&&◌, List, [], ◌∷◌, length, codes}
use Rattle.std.specs.Prelude.{encode_utf8_all, bytes_eq, if◌then◌else◌, Result, Ok, Err}
use Rattle.std.specs.List.{list_any}
use Rattle.jt_scan.specs.declared.segment.TagKind.TheVariants as kind
use Rattle.jt_scan.specs.Cut as cut
use Rattle.jt_scan.specs.Cut.{Token}
use Rattle.jt_ast.specs.Expressions.{Expr, levels, Text}
use Rattle.jt_expr.specs.Grammar as expressions
use Rattle.jt_expr.specs.Grammar.{word, Spells}
use Rattle.jt_ast.specs.Statements.{Stmt, data_of, print, choose, Body, end, stmt, Branches, no_branches, branch}
use Rattle.jt_parse.specs.Kept as kept
use Rattle.jt_parse.specs.Kept.{SourcePiece}
use Rattle.jt_parse.specs.Tags.{LoopHead, BlockStart, a_block, Head, a_statement, an_if, a_loop, an_opening, made}
use Rattle.jt_parse.specs.Tags.{looped, end_word, Says, head_levels}

pub data Fault : Type 0 where
  -- The pieces spell no tree.
  syntax : Fault
  -- Each tree that the pieces spell has too many levels.
  deep : Fault

abbrev pub then_all : Body → Body → Body
then_all end b = b
then_all (stmt s a) b = stmt s (then_all a b)

-- A body with one statement appended.
abbrev pub then_one : Body → Stmt → Body
then_one a s = then_all a (stmt s end)

abbrev pub then_branches : Branches → Branches → Branches
then_branches no_branches b = b
then_branches (branch line c body a) b = branch line c body (then_branches a b)

-- Branches with one branch appended.
abbrev pub then_branch : Branches → ℕ → Expr → Body → Branches
then_branch a line c body = then_branches a (branch line c body no_branches)

-- An open statement. Each one has the statements before it. A branch of an `if` has the branches
-- before it, its line and its condition, and an `else` part of an `if` has the branches. Other
-- statements have their line and first tag, and an `else` part of a loop also has the loop's body.
pub data OpenStmt : Type 0 where
  in_branch : Body → Branches → ℕ → Expr → OpenStmt
  in_else : Body → Branches → OpenStmt
  in_loop : Body → ℕ → LoopHead → OpenStmt
  in_loop_else : Body → ℕ → LoopHead → Body → OpenStmt
  in_opening : Body → ℕ → BlockStart → OpenStmt

-- The statements of the innermost open body, and the open statements.
pub record State : Type 0 where
  pub body : Body
  pub open_stmts : List OpenStmt

abbrev pub state : Body → List OpenStmt → State
state body open_stmts = record { body = body; open_stmts = open_stmts }

-- The state after the only value of the form, which has at most n levels. `syntax`: no value is of
-- the form. `deep`: each value of the form has more levels.
abbrev pub After : {B : Type 0} → (B → Type 0) → (B → ℕ) → ℕ → (B → State) → Result State Fault
    → Type 0
After {B = B} NestedForm height n next (Ok st) =
    (b : B) × NestedForm b × (height b ≤ n) × ((c : B) → NestedForm c → c ≡ b) × (st ≡ next b)
After {B = B} NestedForm height n next (Err syntax) = (b : B) → NestedForm b → ⊥
After {B = B} NestedForm height n next (Err deep) = (b : B) → NestedForm b → n < height b

-- The state with one more statement.
abbrev pub grown : State → Stmt → State
grown st s = state (then_one st.body s) st.open_stmts

-- `{{ e }}`
abbrev pub PrintTag : ℕ → ℕ → List Token → State → Result State Fault → Type 0
PrintTag n line ts st =
    After (λ e. Spells expressions.whole e ts) (λ e. suc (length st.open_stmts) + levels e) n
    (λ e. grown st (print line e))

-- The state after the first tag of a statement.
abbrev pub headed : ℕ → Head → State → State
headed line (a_statement s) st = grown st s
headed line (an_if c) st = state end (in_branch st.body no_branches line c ∷ st.open_stmts)
headed line (a_loop l) st = state end (in_loop st.body line l ∷ st.open_stmts)
headed line (an_opening o) st = state end (in_opening st.body line o ∷ st.open_stmts)

abbrev pub HeadTag : ℕ → ℕ → Text → List Token → State → Result State Fault → Type 0
HeadTag n line x ts st =
    After (λ h. Says line h (word x ∷ ts)) (λ h. length st.open_stmts + head_levels h) n
    (λ h. headed line h st)

-- `{% elif c %}`
abbrev pub ElifTag : ℕ → ℕ → List Token → Body → List OpenStmt → Result State Fault → Type 0
ElifTag n line ts body (in_branch before done l c ∷ fs) o =
    After (λ e. Spells expressions.whole e ts) (λ e. suc (length fs) + levels e) n
    (λ e. state end (in_branch before (then_branch done l c body) line e ∷ fs)) o
ElifTag n line ts body fs o = o ≡ Err syntax

-- `{% else %}`
abbrev pub else_by : Body → List OpenStmt → Result State Fault
else_by body (in_branch before done l c ∷ fs) =
    Ok (state end (in_else before (then_branch done l c body) ∷ fs))
else_by body (in_loop before l loop ∷ fs) = Ok (state end (in_loop_else before l loop body ∷ fs))
else_by body fs = Err syntax

unfoldable pub else_tag : List Token → Body → List OpenStmt → Result State Fault
else_tag [] body fs = else_by body fs
else_tag (t ∷ ts) body fs = Err syntax

-- The tokens after the word of an end tag: none, or the name of a block.
abbrev pub names_end : BlockStart → List Token → Bool
names_end (a_block x scoped required) (cut.name y ∷ []) = bytes_eq (encode_utf8_all y) x
names_end o [] = true
names_end o ts = false

abbrev pub none_left : List Token → Bool
none_left [] = true
none_left (t ∷ ts) = false

-- The tag with this word ends the statement.
abbrev pub ends_open_stmt : Text → List Token → OpenStmt → Bool
ends_open_stmt x ts (in_branch before done l c) = bytes_eq x (codes "endif") && none_left ts
ends_open_stmt x ts (in_else before done) = bytes_eq x (codes "endif") && none_left ts
ends_open_stmt x ts (in_loop before l loop) = bytes_eq x (codes "endfor") && none_left ts
ends_open_stmt x ts (in_loop_else before l loop body) = bytes_eq x (codes "endfor") && none_left ts
ends_open_stmt x ts (in_opening before l o) = bytes_eq x (end_word o) && names_end o ts

-- The statement that an open statement and its last body make; `before` has the statements before
-- it.
abbrev pub finished : Body → OpenStmt → Stmt
finished body (in_branch before done l c) = choose (then_branch done l c body) end
finished body (in_else before done) = choose done body
finished body (in_loop before l loop) = looped l loop body end
finished body (in_loop_else before l loop inside) = looped l loop inside body
finished body (in_opening before l o) = made l o body

abbrev pub before : OpenStmt → Body
before (in_branch b done l c) = b
before (in_else b done) = b
before (in_loop b l loop) = b
before (in_loop_else b l loop inside) = b
before (in_opening b l o) = b

unfoldable pub end_tag : Text → List Token → Body → List OpenStmt → Result State Fault
end_tag x ts body [] = Err syntax
end_tag x ts body (f ∷ fs) =
    if ends_open_stmt x ts f
    then Ok (state (then_one (before f) (finished body f)) fs)
    else Err syntax

abbrev pub end_words : List Text
end_words =
    codes "endif"
    ∷ codes "endfor" ∷ codes "endset" ∷ codes "endwith" ∷ codes "endfilter" ∷ codes "endautoescape"
    ∷ codes "endmacro" ∷ codes "endblock" ∷ []

abbrev pub is_end_word : Text → Bool
is_end_word x = list_any (bytes_eq x) end_words

-- The role of a block tag, by its first word.
pub data Role : Type 0 where
  is_elif : Role
  is_else : Role
  is_end : Role
  is_head : Role

unfoldable pub role : Text → Role
role x =
    if bytes_eq x (codes "elif") then is_elif
    else if bytes_eq x (codes "else") then is_else
    else if is_end_word x then is_end
    else is_head

abbrev pub BlockTag : Role → ℕ → ℕ → Text → List Token → State → Result State Fault → Type 0
BlockTag is_elif n line x ts st o = ElifTag n line ts st.body st.open_stmts o
BlockTag is_else n line x ts st o = o ≡ else_tag ts st.body st.open_stmts
BlockTag is_end n line x ts st o = o ≡ end_tag x ts st.body st.open_stmts
BlockTag is_head n line x ts st o = HeadTag n line x ts st o

-- One piece leads from the state to the result.
abbrev pub Steps : ℕ → State → SourcePiece → Result State Fault → Type 0
Steps n st (kept.text d) o = o ≡ Ok (grown st (data_of (encode_utf8_all d)))
Steps n st (kept.tag kind.Variable line ts) o = PrintTag n line ts st o
Steps n st (kept.tag kind.Block line []) o = o ≡ Err syntax
Steps n st (kept.tag kind.Block line (cut.name x ∷ ts)) o = BlockTag (role x) n line x ts st o
Steps n st (kept.tag kind.Block line (t ∷ ts)) o = o ≡ Err syntax

-- The pieces lead from the state to the result, in order and up to the first refused one.
pub data Runs (n : ℕ) : State → List SourcePiece → Result State Fault → Type 0 where
  ended : {st : State} → Runs n st [] (Ok st)
  refused : {st : State} {p : SourcePiece} {ps : List SourcePiece} {f : Fault} → Steps n st p (Err f)
      → Runs n st (p ∷ ps) (Err f)
  went_on : {st next : State} {p : SourcePiece} {ps : List SourcePiece} {o : Result State Fault}
      → Steps n st p (Ok next) → Runs n next ps o → Runs n st (p ∷ ps) o

abbrev pub start : State
start = state end []

-- The statements of all pieces, with at most n levels.
pub data Parsed (n : ℕ) (ps : List SourcePiece) : Result Body Fault → Type 0 where
  whole : {b : Body} → Runs n start ps (Ok (state b [])) → Parsed n ps (Ok b)
  stopped : {f : Fault} → Runs n start ps (Err f) → Parsed n ps (Err f)
  left_open : {b : Body} {f : OpenStmt} {fs : List OpenStmt}
      → Runs n start ps (Ok (state b (f ∷ fs))) → Parsed n ps (Err syntax)
