-- The uses of a template: what it does at each of its places, in the order of the source, with the
-- line of the tag and the context. No rule is defined here.
use Rattle.std.specs.Prelude.{ℕ, Bool, true, false, if◌then◌else◌, List, [], ◌∷◌, ◌++◌, Option, Some, None}
use Rattle.jt_ast.specs.Expressions.{Expr, constant, name, group, list_of, map_of, attribute, item, call, filter, test}
use Rattle.jt_ast.specs.Expressions.{unary, binary, when, choice, Exprs, no_exprs, expr, Pairs, no_pairs, pair, Text}
pub use Rattle.jt_ast.specs.Expressions.{is_loop}
use Rattle.jt_ast.specs.Statements as trees
use Rattle.jt_ast.specs.Statements.{Parameter, FilterCall, Stmt, data_of, print, choose, for_each, set, set_block}
use Rattle.jt_ast.specs.Statements.{with_values, filter_block, autoescape, macro, include, import_as, import_from}
use Rattle.jt_ast.specs.Statements.{block, Body, end, stmt, Branches, no_branches, branch}
use Rattle.jt_uses.specs.declared.site.Place.{Place}
use Rattle.jt_uses.specs.declared.site.Enclosing.{Enclosing}

-- A use.
pub data Use : Type 0 where
  -- A read of a name as a value.
  reads : Text → Use
  -- A binding of a name by `set`, `for` or `with`, or as a parameter.
  binds : Text → Use
  -- A read of a field of `loop`.
  reads_loop_field : Text → Use
  -- A call of an expression, with positional and keyword arguments.
  calls : Expr → Exprs → Pairs → Use
  -- A filter, with the arguments after its input.
  filters : Text → Exprs → Pairs → Use
  -- A test, with the arguments after the tested value.
  tests : Text → Exprs → Pairs → Use
  -- A declaration of a macro, with its parameters and its body.
  declares_macro : Text → List Parameter → Body → Use
  -- A block: its name, whether it is scoped, whether it is required, and its body.
  declares_block : Text → Bool → Bool → Body → Use
  -- An include: the template's name, whether it may be missing, and whether it sees the names at
  -- the tag.
  includes : Text → Bool → Bool → Use
  -- An import of a library.
  imports : Text → Use
  -- A binding of the second name to the library of the first name.
  binds_library : Text → Text → Use
  -- A binding of the third name to the macro of the second name of the library of the first name.
  binds_macro : Text → Text → Text → Use
  -- An `extends` tag with the name of the parent.
  extends : Text → Use

pub record Site : Type 0 where
  pub place : Place
  pub made : Use

abbrev pub place_at : ℕ → Enclosing → Place
place_at n w = record { line = n; around = w }

-- The list of one use.
abbrev pub at : Place → Use → List Site
at p u = record { place = p; made = u } ∷ []

-- The bindings of names.
abbrev pub bound : List Text → Place → List Site
bound [] p = []
bound (x ∷ xs) p = record { place = p; made = binds x } ∷ bound xs p

-- The bindings of parameters.
abbrev pub parameters_bound : List Parameter → Place → List Site
parameters_bound [] p = []
parameters_bound (x ∷ xs) p = record { place = p; made = binds x.name } ∷ parameters_bound xs p

-- The bindings of the keys of pairs.
abbrev pub keys_bound : Pairs → Place → List Site
keys_bound no_pairs p = []
keys_bound (pair x e ps) p = record { place = p; made = binds x } ∷ keys_bound ps p

-- The bindings of the names that `from` binds to macros of a library.
abbrev pub macros_bound : Text → List (Text × Text) → Place → List Site
macros_bound n [] p = []
macros_bound n (x ∷ xs) p =
    record { place = p; made = binds_macro n x.0 x.1 } ∷ macros_bound n xs p

abbrev pub is_name : Expr → Bool
is_name (name x) = true
is_name e = false

-- True if the expression is a name or a field of a name. As a callee it does not count as a read.
abbrev pub is_called_by_name : Expr → Bool
is_called_by_name (name x) = true
is_called_by_name (attribute a k) = is_name a
is_called_by_name f = false

abbrev pub inside_callee : Enclosing → Enclosing
inside_callee w = record w { in_callee = true }

abbrev mutual
  pub expr_uses : Expr → Place → List Site
  expr_uses (constant l) p = []
  expr_uses (name x) p = at p (reads x)
  expr_uses (group a) p = expr_uses a p
  expr_uses (list_of ts) p = row_uses ts p
  expr_uses (map_of ps) p = pair_uses ps p
  expr_uses (attribute a k) p = if is_loop a then at p (reads_loop_field k) else expr_uses a p
  expr_uses (item a b) p = expr_uses a p ++ expr_uses b p
  expr_uses (call f ts ps) p =
      (if is_called_by_name f then [] else expr_uses f (place_at p.line (inside_callee p.around)))
      ++ (at p (calls f ts ps) ++ (row_uses ts p ++ pair_uses ps p))
  expr_uses (filter a x ts ps) p =
      at p (filters x ts ps) ++ (expr_uses a p ++ (row_uses ts p ++ pair_uses ps p))
  expr_uses (test a n x ts ps) p =
      at p (tests x ts ps) ++ (expr_uses a p ++ (row_uses ts p ++ pair_uses ps p))
  expr_uses (unary o a) p = expr_uses a p
  expr_uses (binary o a b) p = expr_uses a p ++ expr_uses b p
  expr_uses (when c a) p = expr_uses c p ++ expr_uses a p
  expr_uses (choice c a b) p = expr_uses c p ++ (expr_uses a p ++ expr_uses b p)

  pub row_uses : Exprs → Place → List Site
  row_uses no_exprs p = []
  row_uses (expr a ts) p = expr_uses a p ++ row_uses ts p

  pub pair_uses : Pairs → Place → List Site
  pair_uses no_pairs p = []
  pair_uses (pair k a ps) p = expr_uses a p ++ pair_uses ps p

-- The place of a loop's condition. The condition is outside this loop and outside every loop around
-- it.
abbrev pub before_loop : Place → Place
before_loop p = place_at p.line (record p.around { in_loop = false })

abbrev pub condition_uses : Option Expr → Place → List Site
condition_uses None p = []
condition_uses (Some c) p = expr_uses c (before_loop p)

-- The uses of one filter of a filter tag.
abbrev pub filter_call_use : FilterCall → Place → List Site
filter_call_use f p =
    at p (filters f.name f.arguments f.keywords)
    ++ (row_uses f.arguments p ++ pair_uses f.keywords p)

abbrev pub filter_call_uses : List FilterCall → Place → List Site
filter_call_uses [] p = []
filter_call_uses (f ∷ fs) p = filter_call_use f p ++ filter_call_uses fs p

-- The context of a use that is outside loops, blocks, callees and scopes of its template.
abbrev pub outside : Enclosing
outside = record { in_loop = false; in_block = false; in_callee = false; in_scope = false }

-- A scope begins with the targets of a loop, the keys of `with`, or parameters.
abbrev pub inside_scope : Enclosing → Enclosing
inside_scope w = record w { in_scope = true }

abbrev pub inside_loop : Enclosing → Enclosing
inside_loop w = record w { in_loop = true; in_scope = true }

abbrev pub inside_block : Enclosing → Enclosing
inside_block w = record w { in_loop = false; in_block = true; in_scope = true }

abbrev pub inside_macro : Enclosing → Enclosing
inside_macro w = record w { in_loop = false; in_block = false; in_scope = true }

abbrev mutual
  pub stmt_uses : Stmt → Enclosing → List Site
  stmt_uses (data_of t) w = []
  stmt_uses (print line e) w = expr_uses e (place_at line w)
  stmt_uses (choose bs other) w = branch_uses bs w ++ body_uses other w
  stmt_uses (for_each line xs e c body other) w =
      (expr_uses e (place_at line w)
      ++ (bound xs (place_at line (inside_scope w)) ++ condition_uses c (place_at line w)))
      ++ (body_uses body (inside_loop w) ++ body_uses other w)
  stmt_uses (set line xs e) w = expr_uses e (place_at line w) ++ bound xs (place_at line w)
  stmt_uses (set_block line x body) w = at (place_at line w) (binds x) ++ body_uses body (inside_scope w)
  stmt_uses (with_values line ps body) w =
      pair_uses ps (place_at line w)
      ++ (keys_bound ps (place_at line (inside_scope w)) ++ body_uses body (inside_scope w))
  stmt_uses (filter_block line fs body) w =
      filter_call_uses fs (place_at line w) ++ body_uses body (inside_scope w)
  stmt_uses (autoescape line on body) w = body_uses body (inside_scope w)
  stmt_uses (macro line x ps body) w =
      at (place_at line w) (declares_macro x ps body)
      ++ (parameters_bound ps (place_at line (inside_scope w)) ++ body_uses body (inside_macro w))
  stmt_uses (include line n ignore_missing with_context) w =
      at (place_at line w) (includes n ignore_missing with_context)
  stmt_uses (import_as line n x) w =
      at (place_at line w) (imports n) ++ at (place_at line w) (binds_library n x)
  stmt_uses (import_from line n xs) w =
      at (place_at line w) (imports n) ++ macros_bound n xs (place_at line w)
  stmt_uses (trees.extends line n) w = at (place_at line w) (extends n)
  stmt_uses (block line x scoped required body) w =
      at (place_at line w) (declares_block x scoped required body) ++ body_uses body (inside_block w)

  pub body_uses : Body → Enclosing → List Site
  body_uses end w = []
  body_uses (stmt s rest) w = stmt_uses s w ++ body_uses rest w

  pub branch_uses : Branches → Enclosing → List Site
  branch_uses no_branches w = []
  branch_uses (branch line c body rest) w =
      (expr_uses c (place_at line w) ++ body_uses body w) ++ branch_uses rest w
