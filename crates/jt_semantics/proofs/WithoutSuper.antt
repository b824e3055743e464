-- If `super()` is not called and the uses of a tree keep the rules in a block, they keep them outside
-- blocks.
use Rattle.std.proofs.Common.{◌≡◌, ℕ, Bool, false, if◌then◌else◌, List, [], ◌∷◌, ◌++◌, Option, Some, None}
use Rattle.std.proofs.Common.{arith, rules}
use Rattle.std.proofs.lemmas.Bool.{or_parts}
use Rattle.std.specs.Prelude.{◌||◌, codes}
use Rattle.std.specs.Option.{is_some, option_or}
use Rattle.std.specs.Str.{bytes_eq}
use Rattle.jt_ast.specs.Expressions as written
use Rattle.jt_ast.specs.Expressions.{Expr, constant, name, group, list_of, attribute, item, unary, binary, when, choice}
use Rattle.jt_ast.specs.Expressions.{Exprs, no_exprs, expr, no_pairs, pair, Text}
use Rattle.jt_ast.specs.Statements.{Parameter, FilterCall, Stmt, data_of, print, choose, for_each, set, set_block}
use Rattle.jt_ast.specs.Statements.{with_values}
use Rattle.jt_ast.specs.Statements.{filter_block, autoescape, macro, include, import_as, import_from, extends, block}
use Rattle.jt_ast.specs.Statements.{Body, end, stmt, Branches, no_branches, branch}
use Rattle.jt_chains.specs.Chain.{Namespace, MacroBody, Definition, given, Callee, a_super, named_alone, named_in}
use Rattle.jt_chains.specs.Chain.{of_library, in_library, callee, is_loop}
use Rattle.jt_chains.specs.Supers.{is_super, has_super, row_super, pairs_super, condition_super, filter_call_super}
use Rattle.jt_chains.specs.Supers.{line_if, stmt_super_line, calls_super, super_line, branches_super_line}
use Rattle.jt_rules.specs.CompileEnv.{CompileEnv}
use Rattle.jt_rules.specs.Rules.{MisusesLoop, CannotBeCalled}
use Rattle.jt_uses.specs.Uses.{Use, Site, reads, binds, reads_loop_field, calls, filters, tests, declares_macro}
use Rattle.jt_uses.specs.Uses.{declares_block, includes, imports, binds_library, binds_macro, at, bound, place_at}
use Rattle.jt_uses.specs.Uses.{parameters_bound, keys_bound, macros_bound, is_called_by_name, inside_scope}
use Rattle.jt_uses.specs.Uses.{before_loop}
use Rattle.jt_uses.specs.Uses.{inside_callee, inside_loop, expr_uses, row_uses, pair_uses, condition_uses}
use Rattle.jt_uses.specs.Uses.{filter_call_uses, stmt_uses, body_uses, branch_uses}
use Rattle.jt_uses.specs.Uses as uses
use Rattle.jt_uses.specs.declared.site.Place.{Place}
use Rattle.jt_uses.specs.declared.site.Enclosing.{Enclosing}
use Rattle.jt_semantics.proofs.KeptUses.{AllKeep, front, back, joined}

pub left_false : (a b : Bool) → (a || b) ≡ false → a ≡ false
left_false a b e = (or_parts a b e).0

pub right_false : (a b : Bool) → (a || b) ≡ false → b ≡ false
right_false a b e = (or_parts a b e).1

-- Of two lines there is neither.
neither : (o p : Option ℕ) → is_some (option_or o p) ≡ false → (is_some o ≡ false) × (is_some p ≡ false)
neither None p e = search (arith, rules)
neither (Some n) p e = search (arith, rules)

no_line : (c : Bool) (n : ℕ) → is_some (line_if c n) ≡ false → c ≡ false
no_line c n e = search (arith, rules)

-- The context outside blocks with the loop of this context.
abbrev pub out_of : Enclosing → Enclosing
out_of w = record w { in_block = false }

abbrev pub out_at : Place → Place
out_at p = place_at p.line (out_of p.around)

module _ (cenv : CompileEnv) (h : Namespace) where
  -- ---- No callee is `super` if its expression is not

  alone_no_super : (o : Option Definition) (x : Text) → bytes_eq x (codes "super") ≡ false
      → named_alone cenv.sources o x ≡ a_super → ⊥
  alone_no_super o x e is = search (arith, rules)

  offered_no_super : (n : Text) (o : Option MacroBody) → of_library cenv.sources n o ≡ a_super → ⊥
  offered_no_super n o e = search (arith, rules)

  library_no_super : (o : Option Definition) (x : Text) → in_library cenv.sources o x ≡ a_super → ⊥
  library_no_super o x e = search (arith, rules, offered_no_super)

  member_no_super : (o : Option Definition) (of x : Text) → named_in cenv.sources o of x ≡ a_super → ⊥
  member_no_super o of x e = search (arith, rules, library_no_super)

  no_super : (f : Expr) → is_super f ≡ false → callee cenv.sources (given cenv.sources h) f ≡ a_super → ⊥
  no_super f s e = search (arith, rules, alone_no_super, member_no_super)

  callable_outside : (c : Callee) (w : Enclosing) → (c ≡ a_super → ⊥) → CannotBeCalled cenv h c (out_of w)
      → CannotBeCalled cenv h c w
  callable_outside c w n p = search (arith, rules)

  misused_inside : (f : Expr) (w : Enclosing) → MisusesLoop f (out_of w) → MisusesLoop f w
  misused_inside f w p = search (arith, rules)

  -- ---- Uses that keep the rules wherever others do

  -- Holds if the second uses keep the rules whenever the first ones do.
  pub record Follow (xs ys : List Site) : Type 0 where
    pub kept : AllKeep cenv h xs → AllKeep cenv h ys

  both : {xs ys us vs : List Site} → Follow xs us → Follow ys vs → Follow (xs ++ ys) (us ++ vs)
  both {xs} {ys} {us} {vs} e f = search (arith, rules, joined, front, back)

  either : {xs ys us vs : List Site} (b : Bool) → Follow xs us → Follow ys vs
      → Follow (if b then xs else ys) (if b then us else vs)
  either b e f = search (arith, rules)

  same : {xs : List Site} → Follow xs xs
  same = record { kept = λ k. k }

  -- A use that is no call keeps the rules outside blocks.
  abbrev IsNoCall : Use → Type 0
  IsNoCall (calls f ts ps) = ⊥
  IsNoCall u = Unit {0}

  one : (u : Use) (p : Place) → IsNoCall u → Follow (at p u) (at (out_at p) u)
  one u p n = search (arith, rules)

  called : (f : Expr) (ts : Exprs) (ps : written.Pairs) (p : Place) → is_super f ≡ false
      → Follow (at p (calls f ts ps)) (at (out_at p) (calls f ts ps))
  called f ts ps p s = search (arith, rules, misused_inside, callable_outside, no_super)

  names_without : (xs : List Text) (p : Place) → Follow (bound xs p) (bound xs (out_at p))
  names_without [] p = same
  names_without (x ∷ xs) p = both (one (binds x) p tt) (names_without xs p)

  parameters_without : (xs : List Parameter) (p : Place)
      → Follow (parameters_bound xs p) (parameters_bound xs (out_at p))
  parameters_without [] p = same
  parameters_without (x ∷ xs) p = both (one (binds x.name) p tt) (parameters_without xs p)

  keys_without : (ps : written.Pairs) (p : Place) → Follow (keys_bound ps p) (keys_bound ps (out_at p))
  keys_without no_pairs p = same
  keys_without (pair x e ps) p = both (one (binds x) p tt) (keys_without ps p)

  macros_without : (n : Text) (xs : List (Text × Text)) (p : Place)
      → Follow (macros_bound n xs p) (macros_bound n xs (out_at p))
  macros_without n [] p = same
  macros_without n (x ∷ xs) p = both (one (binds_macro n x.0 x.1) p tt) (macros_without n xs p)

  -- ---- Expressions

  mutual
    expr_without : (e : Expr) (p : Place) → has_super e ≡ false
        → Follow (expr_uses e p) (expr_uses e (out_at p))
    expr_without (constant l) p s = same
    expr_without (name x) p s = one (reads x) p tt
    expr_without (group a) p s = expr_without a p s
    expr_without (list_of ts) p s = row_without ts p s
    expr_without (written.map_of ps) p s = pairs_without ps p s
    expr_without (attribute a k) p s = either (is_loop a) (one (reads_loop_field k) p tt) (expr_without a p s)
    expr_without (item a b) p s =
        search (arith, rules, both, left_false, right_false, expr_without a p, expr_without b p)
    expr_without (written.call f ts ps) p s =
        let s1 = right_false (is_super f) (has_super f || (row_super ts || pairs_super ps)) s in
        let s2 = right_false (has_super f) (row_super ts || pairs_super ps) s1 in
        both
        (either (is_called_by_name f) same
        (expr_without f (place_at p.line (inside_callee p.around))
        (left_false (has_super f) (row_super ts || pairs_super ps) s1)))
        (both (called f ts ps p (left_false (is_super f) (has_super f || (row_super ts || pairs_super ps)) s))
        (both (row_without ts p (left_false (row_super ts) (pairs_super ps) s2))
        (pairs_without ps p (right_false (row_super ts) (pairs_super ps) s2))))
    expr_without (written.filter a x ts ps) p s =
        let s1 = right_false (has_super a) (row_super ts || pairs_super ps) s in
        both (one (filters x ts ps) p tt)
        (both (expr_without a p (left_false (has_super a) (row_super ts || pairs_super ps) s))
        (both (row_without ts p (left_false (row_super ts) (pairs_super ps) s1))
        (pairs_without ps p (right_false (row_super ts) (pairs_super ps) s1))))
    expr_without (written.test a n x ts ps) p s =
        let s1 = right_false (has_super a) (row_super ts || pairs_super ps) s in
        both (one (tests x ts ps) p tt)
        (both (expr_without a p (left_false (has_super a) (row_super ts || pairs_super ps) s))
        (both (row_without ts p (left_false (row_super ts) (pairs_super ps) s1))
        (pairs_without ps p (right_false (row_super ts) (pairs_super ps) s1))))
    expr_without (unary o a) p s = expr_without a p s
    expr_without (binary o a b) p s =
        search (arith, rules, both, left_false, right_false, expr_without a p, expr_without b p)
    expr_without (when c a) p s =
        search (arith, rules, both, left_false, right_false, expr_without c p, expr_without a p)
    expr_without (choice c a b) p s =
        search (arith, rules, right_false, both, left_false, expr_without c p, expr_without a p, expr_without b p)

    row_without : (ts : Exprs) (p : Place) → row_super ts ≡ false
        → Follow (row_uses ts p) (row_uses ts (out_at p))
    row_without no_exprs p s = same
    row_without (expr a ts) p s =
        search (arith, rules, both, left_false, right_false, expr_without a p, row_without ts p)

    pairs_without : (ps : written.Pairs) (p : Place) → pairs_super ps ≡ false
        → Follow (pair_uses ps p) (pair_uses ps (out_at p))
    pairs_without no_pairs p s = same
    pairs_without (pair k a ps) p s =
        search (arith, rules, both, left_false, right_false, expr_without a p, pairs_without ps p)

  -- ---- Statements

  condition_without : (c : Option Expr) (p : Place) → condition_super c ≡ false
      → Follow (condition_uses c p) (condition_uses c (out_at p))
  condition_without None p s = same
  condition_without (Some c) p s = expr_without c (before_loop p) s

  filter_call_without : (fs : List FilterCall) (p : Place) → filter_call_super fs ≡ false
      → Follow (filter_call_uses fs p) (filter_call_uses fs (out_at p))
  filter_call_without [] p s = same
  filter_call_without (f ∷ fs) p s =
      let later = pairs_super f.keywords || filter_call_super fs in
      let s1 = right_false (row_super f.arguments) later s in
      both
      (both (one (filters f.name f.arguments f.keywords) p tt)
      (both (row_without f.arguments p (left_false (row_super f.arguments) later s))
      (pairs_without f.keywords p (left_false (pairs_super f.keywords) (filter_call_super fs) s1))))
      (filter_call_without fs p (right_false (pairs_super f.keywords) (filter_call_super fs) s1))

  mutual
    stmt_without : (t : Stmt) (w : Enclosing) → is_some (stmt_super_line t) ≡ false
        → Follow (stmt_uses t w) (stmt_uses t (out_of w))
    stmt_without (data_of x) w s = same
    stmt_without (print line e) w s = expr_without e (place_at line w) (no_line _ line s)
    stmt_without (choose bs other) w s =
        let n = neither (branches_super_line bs) (super_line other) s in
        both (branches_without bs w n.0) (body_without other w n.1)
    stmt_without (for_each line xs e c body other) w s =
        let n = neither (line_if (has_super e || condition_super c) line) _ s in
        let m = neither (super_line body) (super_line other) n.1 in
        let head = or_parts (has_super e) (condition_super c) (no_line _ line n.0) in
        let p = place_at line w in
        both
        (both (expr_without e p head.0)
        (both (names_without xs (place_at line (inside_scope w))) (condition_without c p head.1)))
        (both (body_without body (inside_loop w) m.0) (body_without other w m.1))
    stmt_without (set line xs e) w s =
        both (expr_without e (place_at line w) (no_line _ line s)) (names_without xs (place_at line w))
    stmt_without (set_block line x body) w s =
        both (one (binds x) (place_at line w) tt) (body_without body (inside_scope w) s)
    stmt_without (with_values line ps body) w s =
        let n = neither (line_if (pairs_super ps) line) (super_line body) s in
        both (pairs_without ps (place_at line w) (no_line _ line n.0))
        (both (keys_without ps (place_at line (inside_scope w))) (body_without body (inside_scope w) n.1))
    stmt_without (filter_block line fs body) w s =
        let n = neither (line_if (filter_call_super fs) line) (super_line body) s in
        both (filter_call_without fs (place_at line w) (no_line _ line n.0)) (body_without body (inside_scope w) n.1)
    stmt_without (autoescape line on body) w s = body_without body (inside_scope w) s
    stmt_without (macro line x ps body) w s =
        both (one (declares_macro x ps body) (place_at line w) tt)
        (both (parameters_without ps (place_at line (inside_scope w))) same)
    stmt_without (include line n missing with_context) w s = one (includes n missing with_context) (place_at line w) tt
    stmt_without (import_as line n new) w s =
        both (one (imports n) (place_at line w) tt) (one (binds_library n new) (place_at line w) tt)
    stmt_without (import_from line n news) w s =
        both (one (imports n) (place_at line w) tt) (macros_without n news (place_at line w))
    stmt_without (extends line n) w s = one (uses.extends n) (place_at line w) tt
    stmt_without (block line x scoped required body) w s =
        both (one (declares_block x scoped required body) (place_at line w) tt) same

    pub body_without : (b : Body) (w : Enclosing) → calls_super b ≡ false
        → Follow (body_uses b w) (body_uses b (out_of w))
    body_without end w s = same
    body_without (stmt t rest) w s =
        let n = neither (stmt_super_line t) (super_line rest) s in
        both (stmt_without t w n.0) (body_without rest w n.1)

    branches_without : (bs : Branches) (w : Enclosing) → is_some (branches_super_line bs) ≡ false
        → Follow (branch_uses bs w) (branch_uses bs (out_of w))
    branches_without no_branches w s = same
    branches_without (branch line c body rest) w s =
        let n = neither (line_if (has_super c) line) _ s in
        let m = neither (super_line body) (branches_super_line rest) n.1 in
        both (both (expr_without c (place_at line w) (no_line _ line n.0)) (body_without body w m.0))
        (branches_without rest w m.1)
