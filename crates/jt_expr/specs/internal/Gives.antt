-- The results of the cursor and of the grammar's functions, in terms of the reader of Reading. Only
-- private clauses cite this module.
use Rattle.std.specs.Prelude.{◌≡◌, ℕ, suc, ◌≤◌, ◌<◌, List, encode_utf8_all, Option, Some, None, option_map, Result, Ok}
use Rattle.std.specs.Prelude.{Err, IfOk, String, string_bytes, Bool, true, false, drop, if◌then◌else◌}
use Rattle.std.specs.Str.{chars}
use Rattle.std.specs.Global.{Box}
use Rattle.std.specs.declared.alloc.AllocError.{AllocError}
use Rattle.std.specs.declared.alloc.Global.{Global}
use denote.Ref.{Bor}
use Rattle.jt_scan.specs.Literals.{unescaped}
use Rattle.jt_expr.specs.declared.cursor.Cursor.{Cursor}
use Rattle.jt_expr.specs.declared.error.ExprError.{ExprError}
use Rattle.jt_expr.specs.declared.error.ExprError.TheVariants as e
use Rattle.jt_expr.specs.declared.rows.NestedForm.{NestedForm}
use Rattle.jt_expr.specs.declared.rows.SequenceKind.{SequenceKind}
use Rattle.jt_expr.specs.declared.rows.SequenceKind.TheVariants as w
use Rattle.jt_expr.specs.declared.part.LeveledExpr.{LeveledExpr}
use Rattle.jt_expr.specs.declared.part.LeveledList.{LeveledList}
use Rattle.jt_expr.specs.declared.rows.KeyedExpr.{KeyedExpr}
use Rattle.jt_expr.specs.declared.rows.ListElement.{ListElement}
use Rattle.jt_expr.specs.declared.rows.ListElement.TheVariants as l
use Rattle.jt_ast.specs.declared.expression.BinaryOperator.{BinaryOperator}
use Rattle.jt_ast.specs.Expressions.{Text, Expr, levels}
use Rattle.jt_ast.specs.Expressions as trees
use Rattle.jt_ast.specs.ExpressionView.{expr_view, exprs_view, pairs_view}
use Rattle.jt_ast.specs.declared.expression.Expr as expression
use Rattle.jt_expr.specs.Promises.{tree_of, parts_view, level_of_form}
use Rattle.jt_expr.specs.Grammar as grammar
use Rattle.jt_expr.specs.Grammar.{Tokens, Level}
use Rattle.jt_expr.specs.internal.Reading.{ParseResult, Reader, syntax, deep, key_at, operator, read}
use Rattle.jt_expr.specs.internal.Elements as elements
use Rattle.jt_expr.specs.Cursor.{ahead}

-- ---- operations of the cursor

-- An operator is taken with its tokens, or nothing is taken.
abbrev pub Operates : Option (BinaryOperator × Tokens) → Tokens → Option BinaryOperator → Tokens
    → Type 0
Operates found ts None new = (found ≡ None) × (new ≡ ts)
Operates found ts (Some op) new = found ≡ Some (op, new)

-- `Operates` for an operator of the level.
abbrev pub OperatesAt : Level → Cursor → Option BinaryOperator → Cursor → Type 0
OperatesAt k old result new = Operates (operator k (ahead old)) (ahead old) result (ahead new)

-- An operator is taken with its only token if that is found, or nothing is taken.
abbrev pub OperatesIf : Bool → BinaryOperator → Cursor → Option BinaryOperator → Cursor → Type 0
OperatesIf found op old result new =
    Operates (if found then Some (op, drop 1 (ahead old)) else None) (ahead old) result (ahead new)

-- A name is taken with the sign after it, or nothing is taken.
abbrev pub TakesName : Option (Text × Tokens) → Tokens → Option (Bor (List ℕ)) → Tokens → Type 0
TakesName found ts None new = (found ≡ None) × (new ≡ ts)
TakesName found ts (Some s) new = found ≡ Some (encode_utf8_all (chars s.now), new)

-- `TakesName` for the name that the rule finds.
abbrev pub NamesBy : (Tokens → Option (Text × Tokens)) → Cursor → Option (Bor (List ℕ)) → Cursor
    → Type 0
NamesBy rule old result new = TakesName (rule (ahead old)) (ahead old) result (ahead new)

-- A text literal, given by its source characters, is taken with the sign after it, or nothing is
-- taken.
abbrev pub TakesText : Option (Text × Tokens) → Tokens → Option (Bor (List ℕ)) → Tokens → Type 0
TakesText found ts None new = (found ≡ None) × (new ≡ ts)
TakesText found ts (Some s) new = found ≡ Some (encode_utf8_all (unescaped (chars s.now)), new)

-- `TakesText` for the text literal that the rule finds.
abbrev pub TextsBy : (Tokens → Option (Text × Tokens)) → Cursor → Option (Bor (List ℕ)) → Cursor
    → Type 0
TextsBy rule old result new = TakesText (rule (ahead old)) (ahead old) result (ahead new)

-- The refusal is that of the reader, or a lack of memory.
abbrev pub Refuses : {A : Type 0} → ParseResult A → ExprError → Type 0
Refuses o e.Syntax = o ≡ Err syntax
Refuses o e.TooDeep = o ≡ Err deep
Refuses o e.NoMemory = Unit {0}

abbrev pub GivesWord : ParseResult Text → Result (Bor (List ℕ)) ExprError → Tokens → Type 0
GivesWord o (Ok s) new = o ≡ Ok (chars s.now, new)
GivesWord o (Err f) new = Refuses o f

-- ---- trees from their parts

-- The UTF-8 bytes of a text's characters.
abbrev pub bytes_of : Text → Text
bytes_of s = encode_utf8_all (chars s)

abbrev pub rows_of : LeveledList → trees.Exprs
rows_of p = exprs_view p.items.items

abbrev pub named_of : LeveledList → trees.Pairs
named_of p = pairs_view p.pairs.items

-- A successful result holds the tree.
abbrev pub Makes : Expr → Result (Box expression.Expr) AllocError → Type 0
Makes t result = IfOk result (λ e. expr_view e.value ≡ t)

-- ---- functions of the grammar

-- The result is the tree that the reader reads and the rest, or its refusal.
abbrev pub Gives : ParseResult Expr → Result LeveledExpr ExprError → Tokens → Type 0
Gives o (Ok p) new = o ≡ Ok (expr_view p.expr.value, new)
Gives o (Err x) new = Refuses o x

abbrev pub GivesParts : ParseResult grammar.LeveledList → Result LeveledList ExprError → Tokens → Type 0
GivesParts o (Ok p) new = o ≡ Ok (parts_view p, new)
GivesParts o (Err x) new = Refuses o x

abbrev pub keyed_view : KeyedExpr → Option Text × Expr
keyed_view k = (option_map string_bytes k.key, expr_view k.part.expr.value)

abbrev pub GivesKeyed : ParseResult (Option Text × Expr) → Result KeyedExpr ExprError → Tokens → Type 0
GivesKeyed o (Ok k) new = o ≡ Ok (keyed_view k, new)
GivesKeyed o (Err x) new = Refuses o x

abbrev pub element_view : ListElement → elements.ListElement
element_view l.Closed = elements.shut
element_view (l.Last k) = elements.last (keyed_view k)
element_view (l.Further k) = elements.further (keyed_view k)

abbrev pub GivesElement : ParseResult elements.ListElement → Result ListElement ExprError → Tokens → Type 0
GivesElement o (Ok x) new = o ≡ Ok (element_view x, new)
GivesElement o (Err x) new = Refuses o x

-- A key is taken with the sign after it, or nothing is taken.
abbrev pub GivesKey : Option (Text × Tokens) → Tokens → Result (Option (String Global)) ExprError
    → Tokens → Type 0
GivesKey found ts (Ok None) new = (found ≡ None) × (new ≡ ts)
GivesKey found ts (Ok (Some k)) new = found ≡ Some (string_bytes k, new)
GivesKey found ts (Err e.NoMemory) new = Unit {0}
GivesKey found ts (Err x) new = ⊥

-- `GivesKey` for the key of a part: a part without a key is refused if the sequence takes none.
abbrev pub GivesPartKey : grammar.SequenceKind → Tokens → Result (Option (String Global)) ExprError
    → Tokens → Type 0
GivesPartKey r ts (Ok None) new = (key_at r ts ≡ None) × (grammar.takes_plain r ≡ true) × (new ≡ ts)
GivesPartKey r ts (Ok (Some k)) new = key_at r ts ≡ Some (string_bytes k, new)
GivesPartKey r ts (Err e.Syntax) new = (key_at r ts ≡ None) × (grammar.takes_plain r ≡ false)
GivesPartKey r ts (Err e.TooDeep) new = ⊥
GivesPartKey r ts (Err e.NoMemory) new = Unit {0}

abbrev pub row_view : SequenceKind → grammar.SequenceKind
row_view w.Items = grammar.items
row_view w.Entries = grammar.entries
row_view w.Arguments = grammar.arguments
row_view w.Keywords = grammar.keywords

-- The reader that a rule of the grammar defines if nested forms have at most `below` levels.
abbrev pub by_rule : {A : Type 0} → ((Level → Reader Expr) → ℕ → A) → ℕ → A
by_rule rule below = rule (read below) (suc below)

-- The result is that of the reader.
abbrev pub ReadsBy : Reader Expr → Cursor → Result LeveledExpr ExprError → Cursor → Type 0
ReadsBy reader old result new = Gives (reader (ahead old)) result (ahead new)

abbrev pub FollowsParts : ((Level → Reader Expr) → ℕ → Reader grammar.LeveledList) → ℕ → Cursor
    → Result LeveledList ExprError → Cursor → Type 0
FollowsParts rule below old result new =
    GivesParts (by_rule rule below (ahead old)) result (ahead new)

-- The reader of a form of at most `below` levels.
abbrev pub form_of : ℕ → NestedForm → Reader Expr
form_of below form = read below (level_of_form form)

-- The levels of a form around parts of the given levels, if they are allowed.
abbrev pub Around : ℕ → ℕ → Result ℕ ExprError → Type 0
Around below inside (Ok h) = (h ≡ suc inside) × (inside ≤ below)
Around below inside (Err e.Syntax) = ⊥
Around below inside (Err e.TooDeep) = below < inside
Around below inside (Err e.NoMemory) = ⊥

-- The result is the tree if it has at most `below + 1` levels.
abbrev pub Fits : ℕ → Expr → Result LeveledExpr ExprError → Type 0
Fits below t (Ok p) = (tree_of p ≡ t) × (levels t ≤ suc below)
Fits below t (Err e.Syntax) = ⊥
Fits below t (Err e.TooDeep) = suc below < levels t
Fits below t (Err e.NoMemory) = Unit {0}

-- The result is the tree, or a lack of memory.
abbrev pub Builds : Expr → Result LeveledExpr ExprError → Type 0
Builds t (Ok p) = tree_of p ≡ t
Builds t (Err e.Syntax) = ⊥
Builds t (Err e.TooDeep) = ⊥
Builds t (Err e.NoMemory) = Unit {0}
