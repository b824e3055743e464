-- The grammar of the tags of statements, with one rule for each form. jt_expr has the grammar of
-- expressions.
use Rattle.std.specs.Prelude.{◌≡◌, ℕ, suc, max, Bool, true, false, not, ◌&&◌, if◌then◌else◌, List, [], ◌∷◌, ◌++◌, codes}
use Rattle.std.specs.Prelude.{encode_utf8_all, Option, Some, None}
use Rattle.jt_scan.specs.declared.segment.Sign.{Sign}
use Rattle.jt_scan.specs.declared.segment.Sign.TheVariants as s
use Rattle.jt_scan.specs.Cut as cut
use Rattle.jt_scan.specs.Cut.{Token}
use Rattle.jt_ast.specs.Expressions as expressions
use Rattle.jt_ast.specs.Expressions.{Literal, Expr, Exprs, Pairs, no_pairs, pair, levels, pairs_levels, Text}
use Rattle.jt_expr.specs.Grammar.{Tokens, word, is_reserved, literal_of, whole, disjunction, Spells, Arguments}
use Rattle.jt_ast.specs.Statements as trees
use Rattle.jt_ast.specs.Statements.{Parameter, FilterCall, Stmt, Body, condition_levels, filter_call_levels}
use Rattle.jt_ast.specs.Statements.{stmt_levels}

-- ---- lists

-- One or more parts with a sign between them, and no sign after the last one.
pub data Separated {A : Type 0} (One : A → Tokens → Type 0) (k : Sign) : List A → Tokens
    → Type 0 where
  only : {a : A} {x : Tokens} → One a x → Separated One k (a ∷ []) x
  also : {a : A} {bs : List A} {x y : Tokens} → One a x → Separated One k bs y
      → Separated One k (a ∷ bs) (x ++ (cut.sign k ∷ y))

-- The tokens are a name that `for` or `set` may bind.
pub data IsName : Text → Tokens → Type 0 where
  a_name : {x : List ℕ} → is_reserved x ≡ false → IsName (encode_utf8_all x) (cut.name x ∷ [])

-- `a = e`
pub data IsValue : Text × Expr → Tokens → Type 0 where
  a_value : {x : List ℕ} {e : Expr} {y : Tokens} → is_reserved x ≡ false → Spells whole e y
      → IsValue (encode_utf8_all x, e) (cut.name x ∷ cut.sign s.Assign ∷ y)

abbrev pub pairs_of : List (Text × Expr) → Pairs
pairs_of [] = no_pairs
pairs_of (p ∷ ps) = pair p.0 p.1 (pairs_of ps)

pub data Values : Pairs → Tokens → Type 0 where
  no_values : Values no_pairs []
  some_values : {vs : List (Text × Expr)} {x : Tokens} → Separated IsValue s.Comma vs x
      → Values (pairs_of vs) x

-- A filter with its arguments.
pub data IsFilterCall : FilterCall → Tokens → Type 0 where
  a_filter : {x : List ℕ} {ts : Exprs} {ps : Pairs} {y : Tokens} → is_reserved x ≡ false
      → Arguments (ts, ps) y
      → IsFilterCall (record { name = encode_utf8_all x; arguments = ts; keywords = ps })
      (cut.name x ∷ y)

-- A number, a text or a constant.
abbrev pub literal_token : Token → Option Literal
literal_token (cut.name x) = literal_of x
literal_token (cut.number n) = Some (expressions.number n)
literal_token (cut.text v) = Some (expressions.text (encode_utf8_all v))
literal_token (cut.sign k) = None

-- A parameter of a macro.
pub data IsParameter : Parameter → Tokens → Type 0 where
  plain : {x : List ℕ} → is_reserved x ≡ false
      → IsParameter (record { name = encode_utf8_all x; default = None }) (cut.name x ∷ [])
  with_default : {x : List ℕ} {l : Literal} {t : Token} → is_reserved x ≡ false
      → literal_token t ≡ Some l
      → IsParameter (record { name = encode_utf8_all x; default = Some l })
      (cut.name x ∷ cut.sign s.Assign ∷ t ∷ [])

abbrev pub has_default : Parameter → Bool
has_default p = trees.is_given p.default

-- After a parameter with a default, each parameter has one. The flag is set if one with a default
-- precedes.
abbrev pub defaults_from : Bool → List Parameter → Bool
defaults_from precedes [] = true
defaults_from precedes (p ∷ ps) =
    if has_default p then defaults_from true ps else not precedes && defaults_from precedes ps

abbrev pub defaults_last : List Parameter → Bool
defaults_last = defaults_from false

-- An imported macro with the name that it is bound to, which defaults to its own name.
pub data IsImported : Text × Text → Tokens → Type 0 where
  itself : {x : List ℕ} → is_reserved x ≡ false
      → IsImported (encode_utf8_all x, encode_utf8_all x) (cut.name x ∷ [])
  renamed : {x y : List ℕ} → is_reserved x ≡ false → is_reserved y ≡ false
      → IsImported (encode_utf8_all x, encode_utf8_all y)
      (cut.name x ∷ word (codes "as") ∷ cut.name y ∷ [])

-- The parameters of a macro and the closing parenthesis.
pub data Parameters : List Parameter → Tokens → Type 0 where
  no_parameters : Parameters [] (cut.sign s.RightParen ∷ [])
  some_parameters : {ps : List Parameter} {x : Tokens} → Separated IsParameter s.Comma ps x
      → defaults_last ps ≡ true → Parameters ps (x ++ (cut.sign s.RightParen ∷ []))

-- ---- first tags

-- The first tag of a loop.
pub record LoopHead : Type 0 where
  pub targets : List Text
  pub over : Expr
  pub condition : Option Expr

-- The first tag of another statement that has a body.
pub data BlockStart : Type 0 where
  a_text : Text → BlockStart
  values : Pairs → BlockStart
  filters : List FilterCall → BlockStart
  escaping : Bool → BlockStart
  a_macro : Text → List Parameter → BlockStart
  a_block : Text → Bool → Bool → BlockStart

-- The content of the first tag of a statement.
pub data Head : Type 0 where
  -- A whole statement, which has no body.
  a_statement : Stmt → Head
  an_if : Expr → Head
  a_loop : LoopHead → Head
  an_opening : BlockStart → Head

-- The statement that a first tag at the line and a body make.
abbrev pub made : ℕ → BlockStart → Body → Stmt
made line (a_text x) body = trees.set_block line x body
made line (values ps) body = trees.with_values line ps body
made line (filters fs) body = trees.filter_block line fs body
made line (escaping on) body = trees.autoescape line on body
made line (a_macro x ps) body = trees.macro line x ps body
made line (a_block x scoped required) body = trees.block line x scoped required body

-- The loop that a first tag at the line, a body and an `else` part make.
abbrev pub looped : ℕ → LoopHead → Body → Body → Stmt
looped line head body other = trees.for_each line head.targets head.over head.condition body other

pub data Condition : Option Expr → Tokens → Type 0 where
  no_condition : Condition None []
  a_condition : {c : Expr} {x : Tokens} → Spells whole c x
      → Condition (Some c) (word (codes "if") ∷ x)

-- An optional word.
abbrev pub flag : Bool → List ℕ → Tokens
flag true w = word w ∷ []
flag false w = []

-- An included template sees the names at its tag, unless the tag has `without context`.
pub data Context : Bool → Tokens → Type 0 where
  unsaid : Context true []
  with_context : Context true (word (codes "with") ∷ word (codes "context") ∷ [])
  without_context : Context false (word (codes "without") ∷ word (codes "context") ∷ [])

abbrev pub missing_words : Bool → Tokens
missing_words true = word (codes "ignore") ∷ word (codes "missing") ∷ []
missing_words false = []

-- A library never sees the names at its tag; `without context` is optional.
abbrev pub without_words : Bool → Tokens
without_words true = word (codes "without") ∷ word (codes "context") ∷ []
without_words false = []

abbrev pub truth_word : Bool → List ℕ
truth_word true = codes "true"
truth_word false = codes "false"

-- The tokens of a tag at the line spell this first tag.
pub data Says (line : ℕ) : Head → Tokens → Type 0 where
  -- `if c`
  says_if : {c : Expr} {x : Tokens} → Spells whole c x → Says line (an_if c) (word (codes "if") ∷ x)
  -- `for a, b in e if c`
  says_for : {ts : List Text} {e : Expr} {c : Option Expr} {x y z : Tokens}
      → Separated IsName s.Comma ts x → Spells disjunction e y → Condition c z
      → Says line (a_loop (record { targets = ts; over = e; condition = c }))
      (word (codes "for") ∷ (x ++ (word (codes "in") ∷ (y ++ z))))
  -- `set a, b = e`
  says_set : {ts : List Text} {e : Expr} {x y : Tokens} → Separated IsName s.Comma ts x
      → Spells whole e y
      → Says line (a_statement (trees.set line ts e))
      (word (codes "set") ∷ (x ++ (cut.sign s.Assign ∷ y)))
  -- `set a`
  says_text : {x : List ℕ} → is_reserved x ≡ false
      → Says line (an_opening (a_text (encode_utf8_all x))) (word (codes "set") ∷ cut.name x ∷ [])
  -- `with a = e, b = f`
  says_with : {ps : Pairs} {x : Tokens} → Values ps x
      → Says line (an_opening (values ps)) (word (codes "with") ∷ x)
  -- `filter f(a)|g`
  says_filter : {fs : List FilterCall} {x : Tokens} → Separated IsFilterCall s.Pipe fs x
      → Says line (an_opening (filters fs)) (word (codes "filter") ∷ x)
  -- `autoescape true`
  says_autoescape : (on : Bool)
      → Says line (an_opening (escaping on)) (word (codes "autoescape") ∷ word (truth_word on) ∷ [])
  -- `macro f(a, b=1)`
  says_macro : {x : List ℕ} {ps : List Parameter} {y : Tokens} → is_reserved x ≡ false
      → Parameters ps y
      → Says line (an_opening (a_macro (encode_utf8_all x) ps))
      (word (codes "macro") ∷ cut.name x ∷ cut.sign s.LeftParen ∷ y)
  -- `include "x" ignore missing without context`
  says_include : {v : List ℕ} {context : Bool} {y : Tokens} (missing : Bool) → Context context y
      → Says line (a_statement (trees.include line (encode_utf8_all v) missing context))
      (word (codes "include") ∷ cut.text v ∷ (missing_words missing ++ y))
  -- `import "x" as f without context`
  says_import : {v x : List ℕ} (said : Bool) → is_reserved x ≡ false
      → Says line (a_statement (trees.import_as line (encode_utf8_all v) (encode_utf8_all x)))
      (word (codes "import") ∷ cut.text v ∷ word (codes "as") ∷ cut.name x ∷ without_words said)
  -- `from "x" import a, b as c without context`
  says_from : {v : List ℕ} {xs : List (Text × Text)} {x : Tokens} (said : Bool)
      → Separated IsImported s.Comma xs x
      → Says line (a_statement (trees.import_from line (encode_utf8_all v) xs))
      (word (codes "from") ∷ cut.text v ∷ word (codes "import") ∷ (x ++ without_words said))
  -- `extends "x"`
  says_extends : {v : List ℕ}
      → Says line (a_statement (trees.extends line (encode_utf8_all v)))
      (word (codes "extends") ∷ cut.text v ∷ [])
  -- `block b scoped required`
  says_block : {x : List ℕ} (scoped required : Bool) → is_reserved x ≡ false
      → Says line (an_opening (a_block (encode_utf8_all x) scoped required)) (word (codes "block")
      ∷ cut.name x ∷ (flag scoped (codes "scoped") ++ flag required (codes "required")))

-- The word that ends a statement.
abbrev pub end_word : BlockStart → List ℕ
end_word (a_text x) = codes "endset"
end_word (values ps) = codes "endwith"
end_word (filters fs) = codes "endfilter"
end_word (escaping on) = codes "endautoescape"
end_word (a_macro x ps) = codes "endmacro"
end_word (a_block x scoped required) = codes "endblock"

-- The tokens of the tag that ends the statement. The name of a block may be repeated.
pub data Ends : BlockStart → Tokens → Type 0 where
  by_word : (o : BlockStart) → Ends o (word (end_word o) ∷ [])
  by_name : {x : List ℕ} (scoped required : Bool)
      → Ends (a_block (encode_utf8_all x) scoped required)
      (word (codes "endblock") ∷ cut.name x ∷ [])

-- ---- levels

abbrev pub opening_levels : BlockStart → ℕ
opening_levels (values ps) = pairs_levels ps
opening_levels (filters fs) = filter_call_levels fs
opening_levels o = 0

abbrev pub loop_levels : LoopHead → ℕ
loop_levels head = max (levels head.over) (condition_levels head.condition)

-- A lower bound of the levels of a statement with this first tag.
abbrev pub head_levels : Head → ℕ
head_levels (a_statement t) = stmt_levels t
head_levels (an_if c) = suc (levels c)
head_levels (a_loop l) = suc (loop_levels l)
head_levels (an_opening o) = suc (opening_levels o)
