-- The grammar of expressions: the trees that the tokens of a tag spell, with one rule for each
-- form. The tokens are the tokens of Cut in jt_scan.
use Rattle.std.specs.Prelude.{◌≡◌, ℤ, Bool, true, false, not, ◌||◌, List, [], ◌∷◌, ◌++◌, codes, encode_utf8_all}
use Rattle.std.specs.Prelude.{bytes_eq, Option, Some, None, if◌then◌else◌}
use Rattle.std.specs.List.{list_any}
use Rattle.jt_scan.specs.declared.segment.Sign.{Sign}
use Rattle.jt_scan.specs.declared.segment.Sign.TheVariants as s
use Rattle.jt_scan.specs.Cut as cut
use Rattle.jt_scan.specs.Cut.{Token}
use Rattle.jt_ast.specs.declared.expression.UnaryOperator.TheVariants as u
use Rattle.jt_ast.specs.declared.expression.BinaryOperator.{BinaryOperator}
use Rattle.jt_ast.specs.declared.expression.BinaryOperator.TheVariants as o
use Rattle.jt_ast.specs.Expressions.{Text, Literal, number, text, truth, nothing, Expr, constant, name, group, list_of}
use Rattle.jt_ast.specs.Expressions.{map_of, attribute, item, call, filter, test, unary, binary, when, choice, Exprs}
use Rattle.jt_ast.specs.Expressions.{no_exprs, expr, Pairs, no_pairs, pair}

abbrev pub Tokens : Type 0
Tokens = List Token

-- ---- words

-- A word of the language, as a token.
abbrev pub word : Text → Token
word x = cut.name x

-- The reserved words, which cannot be names.
abbrev pub reserved : List Text
reserved =
    codes "and" ∷ codes "or" ∷ codes "not" ∷ codes "if" ∷ codes "else" ∷ codes "in" ∷ codes "is"
    ∷ codes "true" ∷ codes "false" ∷ codes "none" ∷ codes "True" ∷ codes "False" ∷ codes "None" ∷ []

abbrev pub is_reserved : Text → Bool
is_reserved x = list_any (bytes_eq x) reserved

-- The literal that a word spells.
abbrev pub literal_of : Text → Option Literal
literal_of x =
    if bytes_eq x (codes "true") then Some (truth true)
    else if bytes_eq x (codes "True") then Some (truth true)
    else if bytes_eq x (codes "false") then Some (truth false)
    else if bytes_eq x (codes "False") then Some (truth false)
    else if bytes_eq x (codes "none") then Some nothing
    else if bytes_eq x (codes "None") then Some nothing
    else None

-- ---- levels of the grammar

-- The precedence levels, from the loosest to the tightest.
pub data Level : Type 0 where
  whole : Level
  disjunction : Level
  conjunction : Level
  inversion : Level
  comparison : Level
  sum : Level
  concatenation : Level
  product : Level
  power : Level
  -- Filters and tests.
  postscript : Level
  signed : Level
  postfix : Level

-- The next tighter level.
abbrev pub next : Level → Level
next whole = disjunction
next disjunction = conjunction
next conjunction = inversion
next inversion = comparison
next comparison = sum
next sum = concatenation
next concatenation = product
next product = power
next power = postscript
next postscript = signed
next signed = postfix
next postfix = postfix

-- The levels with any number of operators, which are left-associative.
abbrev pub is_chain : Level → Bool
is_chain disjunction = true
is_chain conjunction = true
is_chain sum = true
is_chain concatenation = true
is_chain product = true
is_chain power = true
is_chain _ = false

abbrev pub level_of : BinaryOperator → Level
level_of o.Or = disjunction
level_of o.And = conjunction
level_of o.Equal = comparison
level_of o.NotEqual = comparison
level_of o.Less = comparison
level_of o.LessOrEqual = comparison
level_of o.Greater = comparison
level_of o.GreaterOrEqual = comparison
level_of o.In = comparison
level_of o.NotIn = comparison
level_of o.Add = sum
level_of o.Subtract = sum
level_of o.Concatenate = concatenation
level_of o.Multiply = product
level_of o.FloorDivide = product
level_of o.Remainder = product
level_of o.Power = power

abbrev pub operator_tokens : BinaryOperator → Tokens
operator_tokens o.Or = word (codes "or") ∷ []
operator_tokens o.And = word (codes "and") ∷ []
operator_tokens o.Equal = cut.sign s.Equal ∷ []
operator_tokens o.NotEqual = cut.sign s.NotEqual ∷ []
operator_tokens o.Less = cut.sign s.Less ∷ []
operator_tokens o.LessOrEqual = cut.sign s.LessEqual ∷ []
operator_tokens o.Greater = cut.sign s.Greater ∷ []
operator_tokens o.GreaterOrEqual = cut.sign s.GreaterEqual ∷ []
operator_tokens o.In = word (codes "in") ∷ []
operator_tokens o.NotIn = word (codes "not") ∷ word (codes "in") ∷ []
operator_tokens o.Add = cut.sign s.Plus ∷ []
operator_tokens o.Subtract = cut.sign s.Minus ∷ []
operator_tokens o.Concatenate = cut.sign s.Tilde ∷ []
operator_tokens o.Multiply = cut.sign s.Times ∷ []
operator_tokens o.FloorDivide = cut.sign s.FloorDivide ∷ []
operator_tokens o.Remainder = cut.sign s.Percent ∷ []
operator_tokens o.Power = cut.sign s.Power ∷ []

-- ---- tests

-- The tokens `is` or `is not`.
abbrev pub is_tokens : Bool → Tokens
is_tokens false = word (codes "is") ∷ []
is_tokens true = word (codes "is") ∷ word (codes "not") ∷ []

-- The word after these tokens is the name of a test. A `not` directly after `is` is no such name.
abbrev pub names_test : Bool → Text → Bool
names_test true x = true
names_test false x = not (bytes_eq x (codes "not"))

abbrev pub is_literal : Option Literal → Bool
is_literal (Some l) = true
is_literal None = false

-- The word is a constant or a name.
abbrev pub is_operand : Text → Bool
is_operand x = is_literal (literal_of x) || not (is_reserved x)

abbrev pub opens_argument : Sign → Bool
opens_argument s.LeftBracket = true
opens_argument s.LeftBrace = true
opens_argument _ = false

-- The tokens begin with the argument of a test without parentheses.
abbrev pub begins_argument : Tokens → Bool
begins_argument [] = false
begins_argument (cut.name x ∷ ts) = is_operand x
begins_argument (cut.number n ∷ ts) = true
begins_argument (cut.text v ∷ ts) = true
begins_argument (cut.sign k ∷ ts) = opens_argument k

-- ---- sequences in brackets

-- The items of a list, the entries of a map, or arguments. After a keyword argument there are only
-- keyword arguments.
pub data SequenceKind : Type 0 where
  items : SequenceKind
  entries : SequenceKind
  arguments : SequenceKind
  keywords : SequenceKind

abbrev pub closer : SequenceKind → Sign
closer items = s.RightBracket
closer entries = s.RightBrace
closer arguments = s.RightParen
closer keywords = s.RightParen

-- The sequence may have expressions without a key.
abbrev pub takes_plain : SequenceKind → Bool
takes_plain items = true
takes_plain arguments = true
takes_plain _ = false

-- The sequence may have names with `=` as keys.
abbrev pub takes_names : SequenceKind → Bool
takes_names arguments = true
takes_names keywords = true
takes_names _ = false

-- The kind of the rest of a sequence after a part with this key.
abbrev pub behind_key : SequenceKind → Option Text → SequenceKind
behind_key arguments (Some k) = keywords
behind_key r k = r

abbrev pub LeveledList : Type 0
LeveledList = Exprs × Pairs

abbrev pub no_parts : LeveledList
no_parts = (no_exprs, no_pairs)

-- A sequence with one part prepended, with or without a key.
abbrev pub put : Option Text → Expr → LeveledList → LeveledList
put None t p = (expr t p.0, p.1)
put (Some k) t p = (p.0, pair k t p.1)

-- ---- the rules

mutual
  -- The tokens spell the tree as a form of the level.
  pub data Spells : Level → Expr → Tokens → Type 0 where
    plain : {t : Expr} {x : Tokens} → Spells disjunction t x → Spells whole t x
    -- `a if c`
    an_if : {c a : Expr} {x y : Tokens} → Spells disjunction a x → Spells disjunction c y
        → Spells whole (when c a) (x ++ (word (codes "if") ∷ y))
    -- `a if c else b`
    an_if_else : {c a b : Expr} {x y z : Tokens} → Spells disjunction a x → Spells disjunction c y
        → Spells whole b z
        → Spells whole (choice c a b) (x ++ (word (codes "if") ∷ (y ++ (word (codes "else") ∷ z))))
    chain : {k : Level} {a t : Expr} {x y : Tokens} → is_chain k ≡ true → Spells (next k) a x
        → Goes k a t y → Spells k t (x ++ y)
    inverted : {t : Expr} {x : Tokens} → Spells inversion t x
        → Spells inversion (unary u.Not t) (word (codes "not") ∷ x)
    upright : {t : Expr} {x : Tokens} → Spells comparison t x → Spells inversion t x
    -- At most one comparison.
    compared : {op : BinaryOperator} {a b : Expr} {x y : Tokens} → level_of op ≡ comparison
        → Spells sum a x → Spells sum b y
        → Spells comparison (binary op a b) (x ++ (operator_tokens op ++ y))
    alone : {t : Expr} {x : Tokens} → Spells sum t x → Spells comparison t x
    -- Filters and tests.
    postscripts : {a t : Expr} {x y : Tokens} → Spells signed a x → Goes postscript a t y
        → Spells postscript t (x ++ y)
    minus : {t : Expr} {x : Tokens} → Spells signed t x
        → Spells signed (unary u.Negate t) (cut.sign s.Minus ∷ x)
    plus : {t : Expr} {x : Tokens} → Spells signed t x
        → Spells signed (unary u.Plus t) (cut.sign s.Plus ∷ x)
    unsigned : {t : Expr} {x : Tokens} → Spells postfix t x → Spells signed t x
    postfixes : {a t : Expr} {x y : Tokens} → Primary a x → Goes postfix a t y
        → Spells postfix t (x ++ y)

  -- The tokens after the first tree extend it to the second tree, at the same level.
  pub data Goes : Level → Expr → Expr → Tokens → Type 0 where
    stay : {k : Level} {t : Expr} → Goes k t t []
    operated : {k : Level} {op : BinaryOperator} {a b t : Expr} {x y : Tokens} → is_chain k ≡ true
        → level_of op ≡ k → Spells (next k) b x → Goes k (binary op a b) t y
        → Goes k a t (operator_tokens op ++ (x ++ y))
    filtered : {a t : Expr} {n : Text} {ts : Exprs} {ps : Pairs} {x y : Tokens}
        → is_reserved n ≡ false → Arguments (ts, ps) x
        → Goes postscript (filter a (encode_utf8_all n) ts ps) t y
        → Goes postscript a t (cut.sign s.Pipe ∷ cut.name n ∷ (x ++ y))
    tested : {a t : Expr} {b : Bool} {ts : Exprs} {ps : Pairs} {x y : Tokens} → (n : Text)
        → names_test b n ≡ true → TestArguments (ts, ps) x
        → Goes postscript (test a b (encode_utf8_all n) ts ps) t y
        → Goes postscript a t (is_tokens b ++ (cut.name n ∷ (x ++ y)))
    attributed : {a t : Expr} {n : Text} {y : Tokens}
        → Goes postfix (attribute a (encode_utf8_all n)) t y
        → Goes postfix a t (cut.sign s.Dot ∷ cut.name n ∷ y)
    indexed : {a i t : Expr} {x y : Tokens} → Spells whole i x → Goes postfix (item a i) t y
        → Goes postfix a t (cut.sign s.LeftBracket ∷ (x ++ (cut.sign s.RightBracket ∷ y)))
    called : {a t : Expr} {ts : Exprs} {ps : Pairs} {x y : Tokens} → Holds arguments (ts, ps) x
        → Goes postfix (call a ts ps) t y
        → Goes postfix a t (cut.sign s.LeftParen ∷ (x ++ y))

  pub data Primary : Expr → Tokens → Type 0 where
    a_number : {n : ℤ} → Primary (constant (number n)) (cut.number n ∷ [])
    a_text : {v : Text} → Primary (constant (text (encode_utf8_all v))) (cut.text v ∷ [])
    a_constant : {l : Literal} {x : Text} → literal_of x ≡ Some l
        → Primary (constant l) (cut.name x ∷ [])
    a_name : {x : Text} → is_reserved x ≡ false
        → Primary (name (encode_utf8_all x)) (cut.name x ∷ [])
    a_group : {t : Expr} {x : Tokens} → Spells whole t x
        → Primary (group t) (cut.sign s.LeftParen ∷ (x ++ cut.sign s.RightParen ∷ []))
    a_list : {ts : Exprs} {x : Tokens} → Holds items (ts, no_pairs) x
        → Primary (list_of ts) (cut.sign s.LeftBracket ∷ x)
    a_map : {ps : Pairs} {x : Tokens} → Holds entries (no_exprs, ps) x
        → Primary (map_of ps) (cut.sign s.LeftBrace ∷ x)

  -- The arguments of a filter: none, or a sequence in parentheses.
  pub data Arguments : LeveledList → Tokens → Type 0 where
    without : Arguments no_parts []
    within : {p : LeveledList} {x : Tokens} → Holds arguments p x → Arguments p (cut.sign s.LeftParen ∷ x)

  -- The arguments of a test: the arguments of a filter, or one postfix form.
  pub data TestArguments : LeveledList → Tokens → Type 0 where
    as_filter : {p : LeveledList} {x : Tokens} → Arguments p x → TestArguments p x
    bare : {t : Expr} {x : Tokens} → begins_argument x ≡ true → Spells postfix t x
        → TestArguments (expr t no_exprs, no_pairs) x

  -- The parts of a sequence with commas between them, and the closing sign. A comma may follow the
  -- last part.
  pub data Holds : SequenceKind → LeveledList → Tokens → Type 0 where
    closed : {r : SequenceKind} → Holds r no_parts (cut.sign (closer r) ∷ [])
    last : {r : SequenceKind} {k : Option Text} {t : Expr} {x : Tokens} → IsPart r k t x
        → Holds r (put k t no_parts) (x ++ (cut.sign (closer r) ∷ []))
    more : {r : SequenceKind} {k : Option Text} {t : Expr} {p : LeveledList} {x y : Tokens} → IsPart r k t x
        → Holds (behind_key r k) p y → Holds r (put k t p) (x ++ (cut.sign s.Comma ∷ y))

  pub data IsPart : SequenceKind → Option Text → Expr → Tokens → Type 0 where
    without_key : {r : SequenceKind} {t : Expr} {x : Tokens} → takes_plain r ≡ true → Spells whole t x
        → IsPart r None t x
    an_entry : {v : Text} {t : Expr} {x : Tokens} → Spells whole t x
        → IsPart entries (Some (encode_utf8_all v)) t (cut.text v ∷ cut.sign s.Colon ∷ x)
    by_name : {r : SequenceKind} {n : Text} {t : Expr} {x : Tokens} → takes_names r ≡ true
        → is_reserved n ≡ false → Spells whole t x
        → IsPart r (Some (encode_utf8_all n)) t (cut.name n ∷ cut.sign s.Assign ∷ x)
