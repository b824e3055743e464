-- The syntax trees of templates, as written: no name is resolved yet. Texts are UTF-8 bytes.
use Rattle.std.specs.Prelude.{ℕ, suc, ◌+◌, ◌*◌, max, List, [], ◌∷◌, length, Bool, true, false, Option, Some, None}
use Rattle.jt_ast.specs.Expressions.{Text, Literal, Expr, levels, weight, Exprs, exprs_levels, exprs_weight, Pairs}
use Rattle.jt_ast.specs.Expressions.{no_pairs, pair, pairs_levels, pairs_weight, literal_weight, perhaps_enclosed}

-- A parameter of a macro, with its default value.
pub record Parameter : Type 0 where
  pub name : Text
  pub default : Option Literal

abbrev pub is_given : {A : Type 0} → Option A → Bool
is_given None = false
is_given (Some a) = true

-- A filter of a filter tag.
pub record FilterCall : Type 0 where
  pub name : Text
  pub arguments : Exprs
  pub keywords : Pairs

-- The first number of a statement and of a branch is the line of its tag.
mutual
  pub data Stmt : Type 0 where
    data_of : Text → Stmt
    print : ℕ → Expr → Stmt
    -- The branches of `if` and `elif`, and the `else` part.
    choose : Branches → Body → Stmt
    -- The targets, the iterated expression, the condition, the body and the `else` part.
    for_each : ℕ → List Text → Expr → Option Expr → Body → Body → Stmt
    set : ℕ → List Text → Expr → Stmt
    set_block : ℕ → Text → Body → Stmt
    with_values : ℕ → Pairs → Body → Stmt
    filter_block : ℕ → List FilterCall → Body → Stmt
    autoescape : ℕ → Bool → Body → Stmt
    macro : ℕ → Text → List Parameter → Body → Stmt
    -- The template's name, whether it may be missing, and whether it sees the names at the tag.
    include : ℕ → Text → Bool → Bool → Stmt
    -- The name of the library and the name that it is bound to.
    import_as : ℕ → Text → Text → Stmt
    -- The name of the library, and the names of its macros, each with the name that it is bound to.
    import_from : ℕ → Text → List (Text × Text) → Stmt
    extends : ℕ → Text → Stmt
    -- The name, whether the block is scoped, whether it is required, and the body.
    block : ℕ → Text → Bool → Bool → Body → Stmt

  pub data Body : Type 0 where
    end : Body
    stmt : Stmt → Body → Body

  pub data Branches : Type 0 where
    no_branches : Branches
    branch : ℕ → Expr → Body → Branches → Branches

-- ---- levels

-- Each statement and each expression adds one to the levels of its parts. Data, `elif`, `else`,
-- defaults and the filters of a filter tag add none.

abbrev pub condition_levels : Option Expr → ℕ
condition_levels None = 0
condition_levels (Some c) = levels c

abbrev pub filter_call_levels : List FilterCall → ℕ
filter_call_levels [] = 0
filter_call_levels (f ∷ fs) =
    max (max (exprs_levels f.arguments) (pairs_levels f.keywords)) (filter_call_levels fs)

abbrev mutual
  pub stmt_levels : Stmt → ℕ
  stmt_levels (data_of text) = 0
  stmt_levels (print line value) = suc (levels value)
  stmt_levels (choose branches other) = suc (max (branch_levels branches) (body_levels other))
  stmt_levels (for_each line targets over condition body other) =
      suc (max (max (levels over) (condition_levels condition)) (max (body_levels body) (body_levels other)))
  stmt_levels (set line targets value) = suc (levels value)
  stmt_levels (set_block line target body) = suc (body_levels body)
  stmt_levels (with_values line values body) = suc (max (pairs_levels values) (body_levels body))
  stmt_levels (filter_block line filters body) = suc (max (filter_call_levels filters) (body_levels body))
  stmt_levels (autoescape line on body) = suc (body_levels body)
  stmt_levels (macro line macro_name parameters body) = suc (body_levels body)
  stmt_levels (include line template ignore_missing with_context) = 1
  stmt_levels (import_as line library alias) = 1
  stmt_levels (import_from line library macros) = 1
  stmt_levels (extends line parent) = 1
  stmt_levels (block line block_name scoped required body) = suc (body_levels body)

  pub body_levels : Body → ℕ
  body_levels end = 0
  body_levels (stmt first rest) = max (stmt_levels first) (body_levels rest)

  pub branch_levels : Branches → ℕ
  branch_levels no_branches = 0
  branch_levels (branch line condition body rest) =
      max (max (levels condition) (body_levels body)) (branch_levels rest)

-- ---- weights

-- The weight of a tree is a lower bound of the number of tokens in its source. The delimiters of a
-- tag count 4, and data counts 1.

abbrev pub condition_weight : Option Expr → ℕ
condition_weight None = 0
condition_weight (Some c) = 1 + weight c

-- Each filter counts its name and the sign before it; the first filter has no sign.
abbrev pub filter_call_weight : List FilterCall → ℕ
filter_call_weight [] = 0
filter_call_weight (f ∷ fs) =
    2
    + perhaps_enclosed (exprs_weight f.arguments + pairs_weight 2 f.keywords) + filter_call_weight fs

abbrev pub default_weight : Option Literal → ℕ
default_weight None = 0
default_weight (Some l) = 1 + literal_weight l

-- Each parameter counts a comma.
abbrev pub parameters_weight : List Parameter → ℕ
parameters_weight [] = 0
parameters_weight (p ∷ ps) = 2 + default_weight p.default + parameters_weight ps

abbrev mutual
  pub stmt_weight : Stmt → ℕ
  stmt_weight (data_of text) = 1
  stmt_weight (print line value) = 4 + weight value
  -- The weights of the `endif` tag, of the branches and of the `else` part.
  stmt_weight (choose branches other) = 5 + branch_weight branches + body_weight other
  -- The weights of `for` and `in`, of the targets with their commas, and of the `endfor` tag.
  stmt_weight (for_each line targets over condition body other) =
      10 + 2 * length targets + weight over + condition_weight condition + body_weight body + body_weight other
  stmt_weight (set line targets value) = 5 + 2 * length targets + weight value
  stmt_weight (set_block line target body) = 11 + body_weight body
  stmt_weight (with_values line values body) = 9 + pairs_weight 2 values + body_weight body
  stmt_weight (filter_block line filters body) = 9 + filter_call_weight filters + body_weight body
  stmt_weight (autoescape line on body) = 11 + body_weight body
  stmt_weight (macro line macro_name parameters body) = 12 + parameters_weight parameters + body_weight body
  stmt_weight (include line template ignore_missing with_context) = 7
  stmt_weight (import_as line library alias) = 9
  -- The weights of `from` and `import`, and of the macros with their commas.
  stmt_weight (import_from line library macros) = 7 + 2 * length macros
  stmt_weight (extends line parent) = 7
  stmt_weight (block line block_name scoped required body) = 11 + body_weight body

  pub body_weight : Body → ℕ
  body_weight end = 0
  body_weight (stmt first rest) = stmt_weight first + body_weight rest

  pub branch_weight : Branches → ℕ
  branch_weight no_branches = 0
  branch_weight (branch line condition body rest) = 5 + weight condition + body_weight body + branch_weight rest

-- ---- bindings

-- The number of names that a tree binds, repeated names included.

abbrev pub pairs_count : Pairs → ℕ
pairs_count no_pairs = 0
pairs_count (pair key value rest) = suc (pairs_count rest)

abbrev mutual
  pub stmt_bound : Stmt → ℕ
  stmt_bound (choose branches other) = branch_bound branches + body_bound other
  stmt_bound (for_each line targets over condition body other) = length targets + body_bound body + body_bound other
  stmt_bound (set line targets value) = length targets
  stmt_bound (set_block line target body) = 1 + body_bound body
  stmt_bound (with_values line values body) = pairs_count values + body_bound body
  stmt_bound (filter_block line filters body) = body_bound body
  stmt_bound (autoescape line on body) = body_bound body
  stmt_bound (macro line macro_name parameters body) = length parameters + body_bound body
  stmt_bound (block line block_name scoped required body) = body_bound body
  stmt_bound _ = 0

  pub body_bound : Body → ℕ
  body_bound end = 0
  body_bound (stmt first rest) = stmt_bound first + body_bound rest

  pub branch_bound : Branches → ℕ
  branch_bound no_branches = 0
  branch_bound (branch line condition body rest) = body_bound body + branch_bound rest
