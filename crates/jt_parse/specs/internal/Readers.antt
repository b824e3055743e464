-- The contracts of the readers of a tag's parts: `Reads` of jt_expr for the forms of Tags. Only
-- private clauses cite this module.
use Rattle.std.specs.Prelude.{◌≡◌, ℕ, max, Bool, false, List, [], ◌∷◌, suc, codes, encode_utf8_all, Option, Some, None}
use Rattle.std.specs.Prelude.{unwrap_or, Result, Ok, Err, String}
use Rattle.std.specs.declared.alloc.Global.{Global}
use Rattle.jt_scan.specs.declared.segment.Sign.{Sign}
use Rattle.jt_scan.specs.declared.segment.Sign.TheVariants as s
use Rattle.jt_scan.specs.Cut as cut
use Rattle.jt_expr.specs.declared.cursor.Cursor.{Cursor}
use Rattle.jt_expr.specs.declared.error.ExprError.{ExprError}
use Rattle.jt_expr.specs.declared.error.ExprError.TheVariants as e
use Rattle.jt_ast.specs.Expressions.{Expr, Literal, levels, exprs_levels, pairs_levels, Text}
use Rattle.jt_expr.specs.Grammar.{Tokens, word, is_reserved}
use Rattle.jt_expr.specs.Cursor.{ahead}
use Rattle.jt_expr.specs.Promises.{Reads}
use Rattle.jt_ast.specs.Statements.{FilterCall}
use Rattle.jt_parse.specs.Tags.{literal_token, without_words, Says, an_opening, a_text, head_levels}
use Rattle.jt_parse.specs.internal.HeadView.{head_view, imported_view}
use Rattle.jt_parse.specs.declared.opening_tags.Head.{Head}

-- The word is taken, or the tokens do not begin with it.
abbrev pub TakesWord : List ℕ → Tokens → Result (Unit {0}) ExprError → Tokens → Type 0
TakesWord w ts (Ok x) new = ts ≡ word w ∷ new
TakesWord w ts (Err e.Syntax) new = (v : Tokens) → ts ≡ word w ∷ v → ⊥
TakesWord w ts (Err e.TooDeep) new = ⊥
TakesWord w ts (Err e.NoMemory) new = ⊥

-- ---- the tokens after a form

abbrev pub Anything : Tokens → Type 0
Anything v = Unit {0}

abbrev pub NoToken : Tokens → Type 0
NoToken v = v ≡ []

abbrev pub NoSign : Sign → Tokens → Type 0
NoSign k v = (w : Tokens) → v ≡ cut.sign k ∷ w → ⊥

abbrev pub NoWord : List ℕ → Tokens → Type 0
NoWord x v = (w : Tokens) → v ≡ word x ∷ w → ⊥

-- The tokens begin neither the default of a parameter nor a further parameter.
abbrev pub NoParameter : Tokens → Type 0
NoParameter v = NoSign s.Assign v × NoSign s.Comma v

-- The tokens begin neither the new name of a macro nor a further macro.
abbrev pub NoImported : Tokens → Type 0
NoImported v = NoWord (codes "as") v × NoSign s.Comma v

-- ---- forms

-- A text literal.
abbrev pub IsText : Text → Tokens → Type 0
IsText a x = (v : List ℕ) × (x ≡ cut.text v ∷ []) × (a ≡ encode_utf8_all v)

abbrev pub IsLiteral : Literal → Tokens → Type 0
IsLiteral l x = (t : cut.Token) × (x ≡ t ∷ []) × (literal_token t ≡ Some l)

-- The default of a parameter, or nothing.
abbrev pub IsDefault : Option Literal → Tokens → Type 0
IsDefault None x = x ≡ []
IsDefault (Some l) x =
    (t : cut.Token) × (x ≡ cut.sign s.Assign ∷ t ∷ []) × (literal_token t ≡ Some l)

-- `as b`, or nothing.
abbrev pub IsGiven : Option Text → Tokens → Type 0
IsGiven None x = x ≡ []
IsGiven (Some a) x =
    (n : List ℕ)
    × (x ≡ word (codes "as") ∷ cut.name n ∷ [])
    × (is_reserved n ≡ false)
    × (a ≡ encode_utf8_all n)

-- `without context`, or nothing.
abbrev pub IsWithout : Bool → Tokens → Type 0
IsWithout b x = x ≡ without_words b

-- ---- levels

abbrev pub value_levels : Text × Expr → ℕ
value_levels p = levels p.1

abbrev pub one_filter_call_levels : FilterCall → ℕ
one_filter_call_levels f = max (exprs_levels f.arguments) (pairs_levels f.keywords)

-- The greatest number of levels of the parts.
abbrev pub most : {A : Type 0} → (A → ℕ) → List A → ℕ
most level [] = 0
most level (a ∷ bs) = max (level a) (most level bs)

-- ---- readers

-- `Reads` for a form without expressions.
abbrev pub ReadsFlat : {A B : Type 0} → (A → B) → (B → Tokens → Type 0) → (Tokens → Type 0) → Tokens
    → Result A ExprError → Tokens → Type 0
ReadsFlat view NestedForm Ends ts result rest = Reads view NestedForm Ends (λ b. 0) 0 ts result rest

-- `Reads` for the first tag of a statement, after its first word. Expressions have at most `limit`
-- levels.
abbrev pub ReadsHead : ℕ → ℕ → List ℕ → Tokens → Result Head ExprError → Tokens → Type 0
ReadsHead line limit w ts result rest =
    Reads head_view (λ h x. Says line h (word w ∷ x)) NoToken head_levels (suc limit) ts result rest

-- ---- readers of a cursor

abbrev pub TakesForm : {A B : Type 0} → (A → B) → (B → Tokens → Type 0) → (Tokens → Type 0)
    → (B → ℕ) → ℕ → Cursor → Result A ExprError → Cursor → Type 0
TakesForm view NestedForm Ends height limit old result new =
    Reads view NestedForm Ends height limit (ahead old) result (ahead new)

abbrev pub TakesFlat : {A B : Type 0} → (A → B) → (B → Tokens → Type 0) → (Tokens → Type 0) → Cursor
    → Result A ExprError → Cursor → Type 0
TakesFlat view NestedForm Ends old result new = ReadsFlat view NestedForm Ends (ahead old) result (ahead new)

abbrev pub TakesHead : ℕ → ℕ → List ℕ → Cursor → Result Head ExprError → Cursor → Type 0
TakesHead line limit w old result new = ReadsHead line limit w (ahead old) result (ahead new)

-- ---- names

-- The first tag of a `set` that captures its body, if there is exactly one name.
abbrev pub GivesText : List Text → Result Head ExprError → Type 0
GivesText names (Ok h) = (x : Text) × (names ≡ x ∷ []) × (head_view h ≡ an_opening (a_text x))
GivesText names (Err e.Syntax) = (x : Text) → names ≡ x ∷ [] → ⊥
GivesText names (Err e.TooDeep) = ⊥
GivesText names (Err e.NoMemory) = ⊥

-- A macro with the name that it is bound to, which defaults to its own name.
abbrev pub GivesPair : Text → Option Text → Result (String Global × String Global) ExprError
    → Type 0
GivesPair name given (Ok p) = imported_view p ≡ (name, unwrap_or given name)
GivesPair name given (Err e.Syntax) = ⊥
GivesPair name given (Err e.TooDeep) = ⊥
GivesPair name given (Err e.NoMemory) = Unit {0}
