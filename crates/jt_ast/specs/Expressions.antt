-- The syntax trees of expressions, as written: no name is resolved yet. Texts are UTF-8 bytes.
use Rattle.std.specs.Prelude.{ℕ, ℤ, suc, ◌+◌, ◌-◌, max, min, Bool, true, false, List, codes}
use Rattle.std.specs.Str.{bytes_eq}
use Rattle.jt_ast.specs.declared.expression.UnaryOperator.{UnaryOperator}
use Rattle.jt_ast.specs.declared.expression.BinaryOperator.{BinaryOperator}
use Rattle.jt_ast.specs.declared.expression.BinaryOperator.TheVariants as o

abbrev pub Text : Type 0
Text = List ℕ

-- A literal.
pub data Literal : Type 0 where
  number : ℤ → Literal
  text : Text → Literal
  truth : Bool → Literal
  nothing : Literal

-- `Pairs` are the entries of a map or the keyword arguments of a call.
mutual
  pub data Expr : Type 0 where
    constant : Literal → Expr
    name : Text → Expr
    -- An expression in parentheses.
    group : Expr → Expr
    list_of : Exprs → Expr
    map_of : Pairs → Expr
    -- `a.k` and `a[b]`.
    attribute : Expr → Text → Expr
    item : Expr → Expr → Expr
    -- The callee and its arguments.
    call : Expr → Exprs → Pairs → Expr
    filter : Expr → Text → Exprs → Pairs → Expr
    -- `a is t(..)`, or `a is not t(..)` if the flag is true.
    test : Expr → Bool → Text → Exprs → Pairs → Expr
    unary : UnaryOperator → Expr → Expr
    binary : BinaryOperator → Expr → Expr → Expr
    -- `a if c` and `a if c else b`; the condition is the first argument.
    when : Expr → Expr → Expr
    choice : Expr → Expr → Expr → Expr

  pub data Exprs : Type 0 where
    no_exprs : Exprs
    expr : Expr → Exprs → Exprs

  pub data Pairs : Type 0 where
    no_pairs : Pairs
    pair : Text → Expr → Pairs → Pairs

-- The number of expressions.
abbrev pub count : Exprs → ℕ
count no_exprs = 0
count (expr first rest) = suc (count rest)

-- The expression is the bare name `loop`.
abbrev pub is_loop : Expr → Bool
is_loop (name x) = bytes_eq x (codes "loop")
is_loop e = false

-- ---- levels

-- Each form adds one to the levels of its parts.

abbrev mutual
  pub levels : Expr → ℕ
  levels (constant literal) = 1
  levels (name x) = 1
  levels (group inner) = suc (levels inner)
  levels (list_of items) = suc (exprs_levels items)
  levels (map_of entries) = suc (pairs_levels entries)
  levels (attribute value key) = suc (levels value)
  levels (item value index) = suc (max (levels value) (levels index))
  levels (call callee arguments keywords) =
      suc (max (levels callee) (max (exprs_levels arguments) (pairs_levels keywords)))
  levels (filter value filter_name arguments keywords) =
      suc (max (levels value) (max (exprs_levels arguments) (pairs_levels keywords)))
  levels (test value negated test_name arguments keywords) =
      suc (max (levels value) (max (exprs_levels arguments) (pairs_levels keywords)))
  levels (unary op operand) = suc (levels operand)
  levels (binary op left right) = suc (max (levels left) (levels right))
  levels (when condition value) = suc (max (levels condition) (levels value))
  levels (choice condition value other) = suc (max (levels condition) (max (levels value) (levels other)))

  -- The greatest number of levels among the expressions.
  pub exprs_levels : Exprs → ℕ
  exprs_levels no_exprs = 0
  exprs_levels (expr first rest) = max (levels first) (exprs_levels rest)

  pub pairs_levels : Pairs → ℕ
  pairs_levels no_pairs = 0
  pairs_levels (pair key value rest) = max (levels value) (pairs_levels rest)

-- ---- weights

-- The weight of a tree is a lower bound of the number of tokens in its source. A text literal
-- counts 2.

-- The weight of delimiters and the parts between them. The weight n of the parts counts a comma for
-- each one; the last comma is not needed.
abbrev pub enclosed : ℕ → ℕ
enclosed n = 1 + max 1 n

-- The weight of enclosed parts, or 0 if there are no parts.
abbrev pub perhaps_enclosed : ℕ → ℕ
perhaps_enclosed n = min 1 n + n

abbrev pub literal_weight : Literal → ℕ
literal_weight (number n) = 1
literal_weight (text x) = 2
literal_weight (truth b) = 1
literal_weight nothing = 1

abbrev pub is_weight : Bool → ℕ
is_weight false = 2
is_weight true = 3

abbrev pub operator_weight : BinaryOperator → ℕ
operator_weight o.NotIn = 2
operator_weight _ = 1

abbrev mutual
  pub weight : Expr → ℕ
  weight (constant literal) = literal_weight literal
  weight (name x) = 1
  weight (group inner) = 2 + weight inner
  weight (list_of items) = enclosed (exprs_weight items)
  weight (map_of entries) = enclosed (pairs_weight 3 entries)
  weight (attribute value key) = 2 + weight value
  weight (item value index) = 2 + weight value + weight index
  weight (call callee arguments keywords) = weight callee + enclosed (exprs_weight arguments + pairs_weight 2 keywords)
  weight (filter value filter_name arguments keywords) =
      2 + weight value + perhaps_enclosed (exprs_weight arguments + pairs_weight 2 keywords)
  -- A single argument needs no parentheses.
  weight (test value negated test_name arguments keywords) =
      weight value + is_weight negated + (exprs_weight arguments + pairs_weight 2 keywords - 1)
  weight (unary op operand) = 1 + weight operand
  weight (binary op left right) = weight left + operator_weight op + weight right
  weight (when condition value) = 1 + weight condition + weight value
  weight (choice condition value other) = 2 + weight condition + weight value + weight other

  -- Each expression counts a comma.
  pub exprs_weight : Exprs → ℕ
  exprs_weight no_exprs = 0
  exprs_weight (expr first rest) = 1 + weight first + exprs_weight rest

  -- Each pair counts its key and a comma.
  pub pairs_weight : ℕ → Pairs → ℕ
  pairs_weight key_weight no_pairs = 0
  pairs_weight key_weight (pair key value rest) = 1 + key_weight + weight value + pairs_weight key_weight rest
