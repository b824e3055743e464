-- A tree is at most as heavy as the tokens that spell it, and its names and texts are at most as
-- long as theirs.
use Rattle.std.proofs.Common.{◌≡◌, ℕ, ◌+◌, ◌-◌, ◌≤◌, max, Bool, true, false, [], ◌∷◌, ◌++◌, length, codes, subst, arith}
use Rattle.std.proofs.Common.{Option, Some, None, rules}
use Rattle.jt_scan.specs.declared.segment.Sign.TheVariants as s
use Rattle.jt_scan.specs.Cut as cut
use Rattle.jt_scan.specs.Cut.{tokens_weight}
use Rattle.jt_ast.specs.declared.expression.BinaryOperator.{BinaryOperator}
use Rattle.jt_ast.specs.declared.expression.BinaryOperator.TheVariants as o
use Rattle.jt_ast.specs.Expressions.{Text, Literal, Expr, weight, exprs_weight, pairs_weight, perhaps_enclosed}
use Rattle.jt_ast.specs.Expressions.{literal_weight, is_weight, operator_weight}
use Rattle.jt_ast.specs.Sizes.{literal_bytes, expr_bytes, exprs_bytes, pairs_bytes}
use Rattle.jt_expr.specs.Grammar.{Tokens, word, literal_of, Level, operator_tokens, is_tokens, SequenceKind, items}
use Rattle.jt_expr.specs.Grammar.{entries, arguments, keywords, closer, takes_names, behind_key, LeveledList, no_parts}
use Rattle.jt_expr.specs.Grammar.{put, Spells, plain, an_if, an_if_else, chain, inverted, upright, compared, alone}
use Rattle.jt_expr.specs.Grammar.{postscripts, minus, plus, unsigned, postfixes, Goes, stay, operated, filtered, tested}
use Rattle.jt_expr.specs.Grammar.{attributed, indexed, called, Primary, a_number, a_text, a_constant, a_name, a_group}
use Rattle.jt_expr.specs.Grammar.{a_list, a_map, Arguments, without, within, TestArguments, as_filter, bare, Holds}
use Rattle.jt_expr.specs.Grammar.{closed, last, more, IsPart, without_key, an_entry, by_name}
use Rattle.jt_expr.specs.Sizes.{tokens_bytes}
use Rattle.jt_expr.proofs.Constants.{each_constant}

-- Holds if tokens weigh at least w, and their names and texts have at least n bytes.
abbrev pub Covers : ℕ → ℕ → Tokens → Type 0
Covers w n x = (w ≤ tokens_weight x) × (n ≤ tokens_bytes x)

pub tokens-append : (x y : Tokens)
    → (tokens_weight (x ++ y) ≡ tokens_weight x + tokens_weight y)
    × (tokens_bytes (x ++ y) ≡ tokens_bytes x + tokens_bytes y)
tokens-append [] y = omega arith
tokens-append (t ∷ x) y = omega (arith, tokens-append x y)

operator_weighs : (op : BinaryOperator) → operator_weight op ≤ tokens_weight (operator_tokens op)
operator_weighs op = search (arith, rules)

is_weighs : (b : Bool) → is_weight b ≤ tokens_weight (is_tokens b) + 1
is_weighs false = omega arith
is_weighs true = omega arith

-- ---- parts

-- The weight of a key in a sequence, with the sign after it.
abbrev key_weight : SequenceKind → ℕ
key_weight items = 2
key_weight entries = 3
key_weight arguments = 2
key_weight keywords = 2

abbrev row_weight : ℕ → LeveledList → ℕ
row_weight key p = exprs_weight p.0 + pairs_weight key p.1

abbrev row_bytes : LeveledList → ℕ
row_bytes p = exprs_bytes p.0 + pairs_bytes p.1

abbrev given_key : ℕ → Option Text → ℕ
given_key key None = 0
given_key key (Some k) = key

abbrev key_bytes : Option Text → ℕ
key_bytes None = 0
key_bytes (Some k) = length k

put_size : (key : ℕ) (k : Option Text) (t : Expr) (p : LeveledList)
    → (row_weight key (put k t p) ≡ 1 + given_key key k + weight t + row_weight key p)
    × (row_bytes (put k t p) ≡ key_bytes k + expr_bytes t + row_bytes p)
put_size key None t p = omega arith
put_size key (Some k) t p = omega arith

same_key : (r : SequenceKind) (k : Option Text) → key_weight (behind_key r k) ≡ key_weight r
same_key r k = search (arith, rules)

name_key : (r : SequenceKind) → takes_names r ≡ true → key_weight r ≡ 2
name_key r e = search (arith, rules)

constant_small : (x : Text) (l : Literal) → literal_of x ≡ Some l → (literal_weight l ≤ 1) × (literal_bytes l ≤ 0)
constant_small x l e =
    each_constant (λ m. (literal_weight m ≤ 1) × (literal_bytes m ≤ 0)) (omega arith) (omega arith) (omega arith) x l e

mutual
  pub spells_bound : {k : Level} {t : Expr} {x : Tokens} → Spells k t x → Covers (weight t) (expr_bytes t) x
  spells_bound (plain d) = spells_bound d
  spells_bound (an_if {x = x} {y = y} a c) =
      omega (arith, spells_bound a, spells_bound c, tokens-append x (word (codes "if") ∷ y))
  spells_bound (an_if_else {x = x} {y = y} {z = z} a c b) =
      search (arith, rules, spells_bound a, spells_bound c, spells_bound b, tokens-append)
  spells_bound (chain {x = x} {y = y} e d g) = omega (arith, spells_bound d, goes_bound g, tokens-append x y)
  spells_bound (inverted d) = omega (arith, spells_bound d)
  spells_bound (upright d) = spells_bound d
  spells_bound (compared {op = op} {x = x} {y = y} e a b) =
      search (arith, rules, spells_bound a, spells_bound b, operator_weighs, tokens-append)
  spells_bound (alone d) = spells_bound d
  spells_bound (postscripts {x = x} {y = y} d g) = omega (arith, spells_bound d, goes_bound g, tokens-append x y)
  spells_bound (minus d) = omega (arith, spells_bound d)
  spells_bound (plus d) = omega (arith, spells_bound d)
  spells_bound (unsigned d) = spells_bound d
  spells_bound (postfixes {x = x} {y = y} d g) = omega (arith, primary_bound d, goes_bound g, tokens-append x y)

  goes_bound : {k : Level} {a t : Expr} {y : Tokens} → Goes k a t y
      → (weight t ≤ weight a + tokens_weight y) × (expr_bytes t ≤ expr_bytes a + tokens_bytes y)
  goes_bound stay = omega arith
  goes_bound (operated {op = op} {x = x} {y = y} c l d g) =
      search (arith, rules, spells_bound d, goes_bound g, operator_weighs, tokens-append)
  goes_bound (filtered {x = x} {y = y} r d g) = omega (arith, arguments_bound d, goes_bound g, tokens-append x y)
  goes_bound (tested {b = b} {x = x} {y = y} n h d g) =
      search (arith, rules, test_arguments_bound d, goes_bound g, is_weighs, tokens-append)
  goes_bound (attributed g) = omega (arith, goes_bound g)
  goes_bound (indexed {x = x} {y = y} d g) =
      omega (arith, spells_bound d, goes_bound g, tokens-append x (cut.sign s.RightBracket ∷ y))
  goes_bound (called {x = x} {y = y} d g) = omega (arith, holds_bound d, goes_bound g, tokens-append x y)

  primary_bound : {t : Expr} {x : Tokens} → Primary t x → Covers (weight t) (expr_bytes t) x
  primary_bound a_number = omega arith
  primary_bound a_text = omega arith
  primary_bound (a_constant {l = l} {x = x} e) = omega (arith, constant_small x l e)
  primary_bound (a_name h) = omega arith
  primary_bound (a_group {x = x} d) = omega (arith, spells_bound d, tokens-append x (cut.sign s.RightParen ∷ []))
  primary_bound (a_list d) = omega (arith, holds_bound d)
  primary_bound (a_map d) = omega (arith, holds_bound d)

  arguments_bound : {p : LeveledList} {x : Tokens} → Arguments p x
      → Covers (perhaps_enclosed (exprs_weight p.0 + pairs_weight 2 p.1)) (row_bytes p) x
  arguments_bound without = omega arith
  arguments_bound (within d) = omega (arith, holds_bound d)

  test_arguments_bound : {p : LeveledList} {x : Tokens} → TestArguments p x
      → Covers (exprs_weight p.0 + pairs_weight 2 p.1 - 1) (row_bytes p) x
  test_arguments_bound (as_filter d) = omega (arith, arguments_bound d)
  test_arguments_bound (bare b d) = omega (arith, spells_bound d)

  holds_bound : {r : SequenceKind} {p : LeveledList} {x : Tokens} → Holds r p x
      → Covers (max 1 (row_weight (key_weight r) p)) (row_bytes p) x
  holds_bound closed = omega arith
  holds_bound (last {r = r} {k = k} {t = t} {x = x} d) =
      omega (arith, part_bound d, put_size (key_weight r) k t no_parts, tokens-append x (cut.sign (closer r) ∷ []))
  holds_bound (more {r = r} {k = k} {t = t} {p = p} {x = x} {y = y} d h) =
      let rest : Covers (max 1 (row_weight (key_weight r) p)) (row_bytes p) y =
      subst (λ n. Covers (max 1 (row_weight n p)) (row_bytes p) y) (same_key r k) (holds_bound h) in
      omega (arith, part_bound d, rest, put_size (key_weight r) k t p, tokens-append x (cut.sign s.Comma ∷ y))

  part_bound : {r : SequenceKind} {k : Option Text} {t : Expr} {x : Tokens} → IsPart r k t x
      → Covers (given_key (key_weight r) k + weight t) (key_bytes k + expr_bytes t) x
  part_bound (without_key p d) = omega (arith, spells_bound d)
  part_bound (an_entry d) = omega (arith, spells_bound d)
  part_bound (by_name {r = r} p h d) = omega (arith, name_key r p, spells_bound d)
