-- The property of templates that each test and filter is known. The parser ensures it.
use Rattle.std.specs.Prelude.{Option, Some, None, List, [], ◌∷◌}
use Rattle.std.specs.List.{AllByRecursion}
use Rattle.jt_ast.specs.Expressions.{Expr, constant, name, group, list_of, map_of, attribute, item, call, filter, test}
use Rattle.jt_ast.specs.Expressions.{unary, binary, when, choice, Exprs, no_exprs, expr, Pairs, no_pairs, pair}
use Rattle.jt_eval.specs.Tests.{test_named}
use Rattle.jt_ast.specs.Statements.{FilterCall, Stmt, data_of, print, choose, for_each, set, set_block, with_values}
use Rattle.jt_ast.specs.Statements.{filter_block, autoescape, macro, include, import_as, import_from, extends, block}
use Rattle.jt_ast.specs.Statements.{Body, end, stmt, Branches, no_branches, branch}
use Rattle.jt_chains.specs.Chain.{Namespace, Template, templates}
use Rattle.jt_eval.specs.Filters.{Filters}
use Rattle.jt_rules.specs.CompileEnv.{CompileEnv}

abbrev pub IsThere : {A : Type 0} → Option A → Type 0
IsThere None = ⊥
IsThere (Some t) = Unit {0}

module _ (fs : Filters) where
  abbrev mutual
    pub ExprKnown : Expr → Type 0
    ExprKnown (constant l) = Unit {0}
    ExprKnown (name x) = Unit {0}
    ExprKnown (group a) = ExprKnown a
    ExprKnown (list_of items) = RowKnown items
    ExprKnown (map_of pairs) = PairsKnown pairs
    ExprKnown (attribute a k) = ExprKnown a
    ExprKnown (item a b) = ExprKnown a × ExprKnown b
    ExprKnown (call a arguments pairs) = RowKnown arguments × PairsKnown pairs
    ExprKnown (filter a x arguments pairs) =
        IsThere (fs.named x arguments pairs) × ExprKnown a × RowKnown arguments × PairsKnown pairs
    ExprKnown (test a n x arguments pairs) =
        IsThere (test_named x) × ExprKnown a × RowKnown arguments × PairsKnown pairs
    ExprKnown (unary o a) = ExprKnown a
    ExprKnown (binary o a b) = ExprKnown a × ExprKnown b
    ExprKnown (when c a) = ExprKnown c × ExprKnown a
    ExprKnown (choice c a b) = ExprKnown c × ExprKnown a × ExprKnown b

    pub RowKnown : Exprs → Type 0
    RowKnown no_exprs = Unit {0}
    RowKnown (expr a rest) = ExprKnown a × RowKnown rest

    pub PairsKnown : Pairs → Type 0
    PairsKnown no_pairs = Unit {0}
    PairsKnown (pair k a pairs) = ExprKnown a × PairsKnown pairs

  abbrev pub ConditionKnown : Option Expr → Type 0
  ConditionKnown None = Unit {0}
  ConditionKnown (Some c) = ExprKnown c

  abbrev pub FilterCallKnown : List FilterCall → Type 0
  FilterCallKnown [] = Unit {0}
  FilterCallKnown (f ∷ fs') =
      IsThere (fs.named f.name f.arguments f.keywords)
      × RowKnown f.arguments
      × PairsKnown f.keywords
      × FilterCallKnown fs'

  abbrev mutual
    pub StmtKnown : Stmt → Type 0
    StmtKnown (data_of t) = Unit {0}
    StmtKnown (print line e) = ExprKnown e
    StmtKnown (choose bs other) = BranchesKnown bs × BodyKnown other
    StmtKnown (for_each line xs e c body other) =
        ExprKnown e × ConditionKnown c × BodyKnown body × BodyKnown other
    StmtKnown (set line xs e) = ExprKnown e
    StmtKnown (set_block line x body) = BodyKnown body
    StmtKnown (with_values line pairs body) = PairsKnown pairs × BodyKnown body
    StmtKnown (filter_block line fs' body) = FilterCallKnown fs' × BodyKnown body
    StmtKnown (autoescape line on body) = BodyKnown body
    StmtKnown (macro line x parameters body) = BodyKnown body
    StmtKnown (include line n ignore_missing with_context) = Unit {0}
    StmtKnown (import_as line n x) = Unit {0}
    StmtKnown (import_from line n xs) = Unit {0}
    StmtKnown (extends line n) = Unit {0}
    StmtKnown (block line x scoped required body) = BodyKnown body

    pub BodyKnown : Body → Type 0
    BodyKnown end = Unit {0}
    BodyKnown (stmt s rest) = StmtKnown s × BodyKnown rest

    pub BranchesKnown : Branches → Type 0
    BranchesKnown no_branches = Unit {0}
    BranchesKnown (branch line c body rest) = ExprKnown c × BodyKnown body × BranchesKnown rest

-- Holds if each filter and test of the templates is known.
abbrev pub TemplatesKnown : Filters → List Template → Type 0
TemplatesKnown fs = AllByRecursion (λ t. BodyKnown fs t.body)

abbrev pub ChainsKnown : CompileEnv → List Namespace → Type 0
ChainsKnown cenv = AllByRecursion (λ h. TemplatesKnown cenv.filters (templates cenv.sources h))
