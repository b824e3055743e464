-- Codes of syntax trees, from which it follows that two proofs of an equation of trees are equal. A type with ghost
-- fields on trees needs that; no contract depends on a code.
use Rattle.std.specs.Prelude.{◌≡◌, ℕ, Bool, List, [], ◌∷◌, Option, Some, None, refl}
use Rattle.std.proofs.Common.{ap, ◌∙◌}
use Rattle.std.specs.Coded.{Coded, code_by, coded_list, coded_option, codes}
use Rattle.jt_ast.specs.Expressions.{Text, Literal, Expr, constant, name, group, list_of, map_of, attribute, item, call}
use Rattle.jt_ast.specs.Expressions.{filter, test, unary, binary, when, choice, Exprs, no_exprs, expr, Pairs, no_pairs}
use Rattle.jt_ast.specs.Expressions.{pair}
use Rattle.jt_ast.specs.Statements.{Parameter, FilterCall, Stmt, data_of, print, choose, for_each, set, set_block}
use Rattle.jt_ast.specs.Statements.{with_values, filter_block, autoescape, macro, include, import_as, import_from}
use Rattle.jt_ast.specs.Statements.{extends, block, Body, end, stmt, Branches, no_branches, branch}
use Rattle.jt_ast.specs.declared.expression.UnaryOperator.{UnaryOperator}
use Rattle.jt_ast.specs.declared.expression.BinaryOperator.{BinaryOperator}
use Rattle.jt_chains.specs.Chain.{MacroBody, BlockBody, Definition}

-- ---- trees with labels, written as lists of labels, and read back with a stack

pub data Tree (L : Type 0) : Type 0 where
  leaf : Tree L
  node : L → Tree L → Tree L → Tree L → Tree L

module _ {L : Type 0} where
  -- The labels of a tree, each after its subtrees, before the rest.
  abbrev tokens : Tree L → List (Option L) → List (Option L)
  tokens leaf rest = None ∷ rest
  tokens (node l a b c) rest = tokens a (tokens b (tokens c (Some l ∷ rest)))

  abbrev step : Option L → List (Tree L) → List (Tree L)
  step None stack = leaf ∷ stack
  step (Some l) (c ∷ b ∷ a ∷ stack) = node l a b c ∷ stack
  step (Some l) stack = stack

  abbrev run : List (Option L) → List (Tree L) → List (Tree L)
  run [] stack = stack
  run (t ∷ ts) stack = run ts (step t stack)

  abbrev top : List (Tree L) → Tree L
  top [] = leaf
  top (t ∷ ts) = t

  run-tokens : (t : Tree L) (rest : List (Option L)) (stack : List (Tree L))
      → run (tokens t rest) stack ≡ run rest (t ∷ stack)
  run-tokens leaf rest stack = refl
  run-tokens (node l a b c) rest stack =
      run-tokens a _ stack ∙ run-tokens b _ (a ∷ stack) ∙ run-tokens c _ (b ∷ a ∷ stack)

  coded_tree : Coded L → Coded (Tree L)
  coded_tree c =
      code_by (List (Option L)) (coded_list (coded_option c)) (λ t. tokens t []) (λ ts. top (run ts []))
      (λ t. ap top (run-tokens t [] []))

-- ---- expressions

-- The form of an expression or of a list, without its parts.
pub data Form : Type 0 where
  constant_form : Literal → Form
  name_form : Text → Form
  group_form : Form
  list_form : Form
  map_form : Form
  attribute_form : Text → Form
  item_form : Form
  call_form : Form
  filter_form : Text → Form
  test_form : Bool → Text → Form
  unary_form : UnaryOperator → Form
  binary_form : BinaryOperator → Form
  when_form : Form
  choice_form : Form
  expr_form : Form
  pair_form : Text → Form

abbrev mutual
  to_expr : Expr → Tree Form
  to_expr (constant l) = node (constant_form l) leaf leaf leaf
  to_expr (name x) = node (name_form x) leaf leaf leaf
  to_expr (group e) = node group_form (to_expr e) leaf leaf
  to_expr (list_of es) = node list_form leaf (to_exprs es) leaf
  to_expr (map_of ps) = node map_form leaf leaf (to_pairs ps)
  to_expr (attribute e x) = node (attribute_form x) (to_expr e) leaf leaf
  to_expr (item e f) = node item_form (to_expr e) (to_expr f) leaf
  to_expr (call e es ps) = node call_form (to_expr e) (to_exprs es) (to_pairs ps)
  to_expr (filter e x es ps) = node (filter_form x) (to_expr e) (to_exprs es) (to_pairs ps)
  to_expr (test e on x es ps) = node (test_form on x) (to_expr e) (to_exprs es) (to_pairs ps)
  to_expr (unary o e) = node (unary_form o) (to_expr e) leaf leaf
  to_expr (binary o e f) = node (binary_form o) (to_expr e) (to_expr f) leaf
  to_expr (when e f) = node when_form (to_expr e) (to_expr f) leaf
  to_expr (choice e f g) = node choice_form (to_expr e) (to_expr f) (to_expr g)

  to_exprs : Exprs → Tree Form
  to_exprs no_exprs = leaf
  to_exprs (expr e es) = node expr_form (to_expr e) (to_exprs es) leaf

  to_pairs : Pairs → Tree Form
  to_pairs no_pairs = leaf
  to_pairs (pair x e ps) = node (pair_form x) (to_expr e) leaf (to_pairs ps)

abbrev expr_of : Form → Expr → Expr → Expr → Exprs → Pairs → Expr
expr_of (constant_form l) e f g es ps = constant l
expr_of (name_form x) e f g es ps = name x
expr_of group_form e f g es ps = group e
expr_of list_form e f g es ps = list_of es
expr_of map_form e f g es ps = map_of ps
expr_of (attribute_form x) e f g es ps = attribute e x
expr_of item_form e f g es ps = item e f
expr_of call_form e f g es ps = call e es ps
expr_of (filter_form x) e f g es ps = filter e x es ps
expr_of (test_form on x) e f g es ps = test e on x es ps
expr_of (unary_form o) e f g es ps = unary o e
expr_of (binary_form o) e f g es ps = binary o e f
expr_of when_form e f g es ps = when e f
expr_of choice_form e f g es ps = choice e f g
expr_of form e f g es ps = e

abbrev pairs_by : Form → Expr → Pairs → Pairs
pairs_by (pair_form x) e ps = pair x e ps
pairs_by form e ps = ps

abbrev mutual
  from_expr : Tree Form → Expr
  from_expr leaf = name []
  from_expr (node l a b c) = expr_of l (from_expr a) (from_expr b) (from_expr c) (from_exprs b) (from_pairs c)

  from_exprs : Tree Form → Exprs
  from_exprs leaf = no_exprs
  from_exprs (node l a b c) = expr (from_expr a) (from_exprs b)

  from_pairs : Tree Form → Pairs
  from_pairs leaf = no_pairs
  from_pairs (node l a b c) = pairs_by l (from_expr a) (from_pairs c)

mutual
  back_expr : (e : Expr) → from_expr (to_expr e) ≡ e
  back_expr (constant l) = refl
  back_expr (name x) = refl
  back_expr (group e) = rw (back_expr e)
  back_expr (list_of es) = rw (back_exprs es)
  back_expr (map_of ps) = rw (back_pairs ps)
  back_expr (attribute e x) = rw (back_expr e)
  back_expr (item e f) = rw (back_expr e, back_expr f)
  back_expr (call e es ps) = rw (back_expr e, back_exprs es, back_pairs ps)
  back_expr (filter e x es ps) = rw (back_expr e, back_exprs es, back_pairs ps)
  back_expr (test e on x es ps) = rw (back_expr e, back_exprs es, back_pairs ps)
  back_expr (unary o e) = rw (back_expr e)
  back_expr (binary o e f) = rw (back_expr e, back_expr f)
  back_expr (when e f) = rw (back_expr e, back_expr f)
  back_expr (choice e f g) = rw (back_expr e, back_expr f, back_expr g)

  back_exprs : (es : Exprs) → from_exprs (to_exprs es) ≡ es
  back_exprs no_exprs = refl
  back_exprs (expr e es) = rw (back_expr e, back_exprs es)

  back_pairs : (ps : Pairs) → from_pairs (to_pairs ps) ≡ ps
  back_pairs no_pairs = refl
  back_pairs (pair x e ps) = rw (back_expr e, back_pairs ps)

pub coded_literal : Coded Literal
coded_literal = hlevel codes

coded_form : Coded Form
coded_form = hlevel (codes, coded_literal)

coded_forms : Coded (Tree Form)
coded_forms = coded_tree coded_form

pub coded_expr : Coded Expr
coded_expr = code_by (Tree Form) coded_forms to_expr from_expr back_expr

pub coded_exprs : Coded Exprs
coded_exprs = code_by (Tree Form) coded_forms to_exprs from_exprs back_exprs

pub coded_pairs : Coded Pairs
coded_pairs = code_by (Tree Form) coded_forms to_pairs from_pairs back_pairs

-- ---- statements

-- The form of a statement or of a branch, without its bodies.
pub data StmtForm : Type 0 where
  data_form : Text → StmtForm
  print_form : ℕ → Expr → StmtForm
  choose_form : StmtForm
  for_form : ℕ → List Text → Expr → Option Expr → StmtForm
  set_form : ℕ → List Text → Expr → StmtForm
  set_block_form : ℕ → Text → StmtForm
  with_form : ℕ → Pairs → StmtForm
  filter_block_form : ℕ → List FilterCall → StmtForm
  autoescape_form : ℕ → Bool → StmtForm
  macro_form : ℕ → Text → List Parameter → StmtForm
  include_form : ℕ → Text → Bool → Bool → StmtForm
  import_form : ℕ → Text → Text → StmtForm
  from_form : ℕ → Text → List (Text × Text) → StmtForm
  extends_form : ℕ → Text → StmtForm
  block_form : ℕ → Text → Bool → Bool → StmtForm
  stmt_form : StmtForm
  branch_form : ℕ → Expr → StmtForm

abbrev mutual
  to_stmt : Stmt → Tree StmtForm
  to_stmt (data_of x) = node (data_form x) leaf leaf leaf
  to_stmt (print n e) = node (print_form n e) leaf leaf leaf
  to_stmt (choose branches other) = node choose_form (to_branches branches) leaf (to_body other)
  to_stmt (for_each n xs e c body other) = node (for_form n xs e c) leaf (to_body body) (to_body other)
  to_stmt (set n xs e) = node (set_form n xs e) leaf leaf leaf
  to_stmt (set_block n x body) = node (set_block_form n x) leaf (to_body body) leaf
  to_stmt (with_values n ps body) = node (with_form n ps) leaf (to_body body) leaf
  to_stmt (filter_block n fs body) = node (filter_block_form n fs) leaf (to_body body) leaf
  to_stmt (autoescape n on body) = node (autoescape_form n on) leaf (to_body body) leaf
  to_stmt (macro n x ps body) = node (macro_form n x ps) leaf (to_body body) leaf
  to_stmt (include n x i c) = node (include_form n x i c) leaf leaf leaf
  to_stmt (import_as n x y) = node (import_form n x y) leaf leaf leaf
  to_stmt (import_from n x ys) = node (from_form n x ys) leaf leaf leaf
  to_stmt (extends n x) = node (extends_form n x) leaf leaf leaf
  to_stmt (block n x scoped required body) = node (block_form n x scoped required) leaf (to_body body) leaf

  to_body : Body → Tree StmtForm
  to_body end = leaf
  to_body (stmt first rest) = node stmt_form (to_stmt first) (to_body rest) leaf

  to_branches : Branches → Tree StmtForm
  to_branches no_branches = leaf
  to_branches (branch n e body rest) = node (branch_form n e) (to_branches rest) (to_body body) leaf

abbrev stmt_of : StmtForm → Branches → Body → Body → Stmt
stmt_of (data_form x) bs body other = data_of x
stmt_of (print_form n e) bs body other = print n e
stmt_of choose_form bs body other = choose bs other
stmt_of (for_form n xs e c) bs body other = for_each n xs e c body other
stmt_of (set_form n xs e) bs body other = set n xs e
stmt_of (set_block_form n x) bs body other = set_block n x body
stmt_of (with_form n ps) bs body other = with_values n ps body
stmt_of (filter_block_form n fs) bs body other = filter_block n fs body
stmt_of (autoescape_form n on) bs body other = autoescape n on body
stmt_of (macro_form n x ps) bs body other = macro n x ps body
stmt_of (include_form n x i c) bs body other = include n x i c
stmt_of (import_form n x y) bs body other = import_as n x y
stmt_of (from_form n x ys) bs body other = import_from n x ys
stmt_of (extends_form n x) bs body other = extends n x
stmt_of (block_form n x scoped required) bs body other = block n x scoped required body
stmt_of form bs body other = data_of []

abbrev branch_by : StmtForm → Body → Branches → Branches
branch_by (branch_form n e) body rest = branch n e body rest
branch_by form body rest = rest

abbrev mutual
  from_stmt : Tree StmtForm → Stmt
  from_stmt leaf = data_of []
  from_stmt (node l a b c) = stmt_of l (from_branches a) (from_body b) (from_body c)

  from_body : Tree StmtForm → Body
  from_body leaf = end
  from_body (node l a b c) = stmt (from_stmt a) (from_body b)

  from_branches : Tree StmtForm → Branches
  from_branches leaf = no_branches
  from_branches (node l a b c) = branch_by l (from_body b) (from_branches a)

mutual
  back_stmt : (s : Stmt) → from_stmt (to_stmt s) ≡ s
  back_stmt (data_of x) = refl
  back_stmt (print n e) = refl
  back_stmt (choose branches other) = rw (back_branches branches, back_body other)
  back_stmt (for_each n xs e c body other) = rw (back_body body, back_body other)
  back_stmt (set n xs e) = refl
  back_stmt (set_block n x body) = rw (back_body body)
  back_stmt (with_values n ps body) = rw (back_body body)
  back_stmt (filter_block n fs body) = rw (back_body body)
  back_stmt (autoescape n on body) = rw (back_body body)
  back_stmt (macro n x ps body) = rw (back_body body)
  back_stmt (include n x i c) = refl
  back_stmt (import_as n x y) = refl
  back_stmt (import_from n x ys) = refl
  back_stmt (extends n x) = refl
  back_stmt (block n x scoped required body) = rw (back_body body)

  back_body : (b : Body) → from_body (to_body b) ≡ b
  back_body end = refl
  back_body (stmt first rest) = rw (back_stmt first, back_body rest)

  back_branches : (bs : Branches) → from_branches (to_branches bs) ≡ bs
  back_branches no_branches = refl
  back_branches (branch n e body rest) = rw (back_body body, back_branches rest)

coded_call : Coded FilterCall
coded_call = hlevel (codes, coded_exprs, coded_pairs)

pub coded_parameter : Coded Parameter
coded_parameter = hlevel (codes, coded_literal)

coded_stmt_form : Coded StmtForm
coded_stmt_form = hlevel (codes, coded_expr, coded_pairs, coded_call, coded_parameter)

pub coded_body : Coded Body
coded_body = code_by (Tree StmtForm) (coded_tree coded_stmt_form) to_body from_body back_body

-- ---- parts of chains

pub coded_macro : Coded MacroBody
coded_macro = hlevel (codes, coded_parameter, coded_body)

pub coded_block : Coded BlockBody
coded_block = hlevel (codes, coded_body)

pub coded_definition : Coded Definition
coded_definition = hlevel (codes, coded_macro)
