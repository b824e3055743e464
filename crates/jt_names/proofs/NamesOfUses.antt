-- The names that the uses of a body read or bind, and those that they bind in scopes, are those of the body, up to
-- their order; the uses bind as many names as the body; and they include the templates of its include tags, in order.
use Rattle.jt_uses.specs.Uses as uses
use uses.{reads, binds, outside, place_at, expr_uses, row_uses, pair_uses, stmt_uses, branch_uses, filter_call_uses}
use uses.{bound, keys_bound, parameters_bound, macros_bound, condition_uses, inside_callee, before_loop, Use, body_uses}
use uses.{Site}
use Rattle.jt_uses.proofs.ExpressionsBindNothing as below
use below.{Passes}
use Rattle.jt_chains.specs.Uses
use Uses.{expr_names, row_names, pair_names, condition_names, filter_call_names, stmt_names, branch_names}
use Uses.{scope_names_by, scope_names_under, scope_names_in, keywords, body_names, set_by, set_in, set_under}
use Rattle.std.proofs.lemmas.Bool.Decides.{nat_tests}
use Rattle.jt_ast.specs.Expressions
use Expressions.{Expr, group, list_of, map_of, attribute, item, call, filter, test, unary, binary, when, choice, Exprs}
use Expressions.{no_exprs, expr, Pairs, no_pairs, pair}
use Rattle.jt_ast.specs.Statements
use Statements.{Parameter, FilterCall, Stmt, print, choose, for_each, set, set_block, with_values, filter_block}
use Statements.{autoescape, macro, import_from, block, stmt, Branches, no_branches, branch, pairs_count, stmt_bound}
use Statements.{branch_bound, Body, end, body_bound}
use Rattle.jt_uses.specs.declared.site.Place.{Place}
use Rattle.jt_names.specs.declared.own.NamesOf.TheVariants.{Template, Scopes}
use Rattle.jt_uses.specs.declared.site.Enclosing.{Enclosing}
use Rattle.jt_names.proofs.SortedNames.{inserted_alike, ascending_inserted}
use Rattle.jt_chains.specs.declared.chain.Chain.{Chain}
use Rattle.std.specs.Option.{option_map_or}
use Rattle.jt_names.specs.declared.own.NamesOf.{NamesOf}
use Rattle.jt_names.proofs.Vocabulary
use Vocabulary.{TemplateFacts, filter_map-append, needs_by, needs_in, needs_under, is_loop, nat_lt, cons_option, among}
use Vocabulary.{used, name_used, names_by, ◌≡◌, Bool, true, false, if◌then◌else◌, ℕ, ◌+◌, List, [], ◌∷◌, ◌++◌, length}
use Vocabulary.{map, refl, sym, ap, ◌∙◌, Option, Some, None, arith, rules, filter_map, bytes_eq, Text, all_inserted}
use Vocabulary.{sites_view, texts, body_at, its_templates, IsKnownTemplate, name_included}

-- ---- sums of weights

-- The sum of the weights of items.
abbrev weight : {A : Type 0} → (A → ℕ) → List A → ℕ
weight f [] = 0
weight f (x ∷ xs) = f x + weight f xs

weight-append : {A : Type 0} (f : A → ℕ) (xs ys : List A) → weight f (xs ++ ys) ≡ weight f xs + weight f ys
weight-append f [] ys = omega arith
weight-append f (x ∷ xs) ys = omega (arith, weight-append f xs ys)

weightless : (xs : List Text) → weight (λ x. 0) xs ≡ 0
weightless [] = refl
weightless (x ∷ xs) = omega (arith, weightless xs)

-- A read weighs r outside callees, and a binding weighs one more than b, which depends on whether it is in a scope.
abbrev pub weight_of : (Text → ℕ) → (Bool → Text → ℕ) → Use → Enclosing → ℕ
weight_of r b (reads x) w = if w.in_callee then 0 else r x
weight_of r b (binds x) w = 1 + b w.in_scope x
weight_of r b u w = 0

module _ (r : Text → ℕ) (b : Bool → Text → ℕ) where
  abbrev heavy : List Site → ℕ
  heavy = weight (λ s. weight_of r b s.made s.place.around)

  -- The weight of names that are read there.
  abbrev read_weight : Enclosing → List Text → ℕ
  read_weight w = weight (λ x. if w.in_callee then 0 else r x)

  -- The uses weigh what these names weigh as reads, or as bindings.
  abbrev Reads : List Site → Place → List Text → Type 0
  Reads ss p xs = heavy ss ≡ read_weight p.around xs

  abbrev Binds : List Site → Place → List Text → ℕ → Type 0
  Binds ss p xs n = heavy ss ≡ weight (b p.around.in_scope) xs + n

  skipped : (b : Bool) (ss : List Site) → heavy ss ≡ 0 → heavy (if b then [] else ss) ≡ 0
  skipped true ss e = refl
  skipped false ss e = e

  field_or : (b : Bool) (p : Place) (k : Text) (ss : List Site) (xs : List Text)
      → Reads ss p xs → Reads (if b then uses.at p (uses.reads_loop_field k) else ss) p (if b then [] else xs)
  field_or true p k ss xs e = omega arith
  field_or false p k ss xs e = e

  mutual
    expr_weighs : (e : Expr) (p : Place) → Reads (expr_uses e p) p (expr_names e)
    expr_weighs (group a) p = expr_weighs a p
    expr_weighs (list_of ts) p = row_weighs ts p
    expr_weighs (map_of ps) p = pairs_weigh ps p
    expr_weighs (attribute a k) p =
        field_or (is_loop a) p k (expr_uses a p) (expr_names a) (expr_weighs a p)
    expr_weighs (item a b) p = grind (arith, weight-append, expr_weighs a, expr_weighs b)
    expr_weighs (call f ts ps) p =
        let q = place_at p.line (inside_callee p.around) in
        let callee = skipped (uses.is_called_by_name f) (expr_uses f q)
        (expr_weighs f q ∙ weightless (expr_names f)) in
        simp weight-append (omega (arith, callee, row_weighs ts p, pairs_weigh ps p))
    expr_weighs (filter a x ts ps) p = grind (arith, weight-append, expr_weighs a, row_weighs ts, pairs_weigh ps)
    expr_weighs (test a n x ts ps) p = grind (arith, weight-append, expr_weighs a, row_weighs ts, pairs_weigh ps)
    expr_weighs (unary o a) p = expr_weighs a p
    expr_weighs (binary o a b) p = grind (arith, weight-append, expr_weighs a, expr_weighs b)
    expr_weighs (when c a) p = grind (arith, weight-append, expr_weighs c, expr_weighs a)
    expr_weighs (choice c a b) p = grind (arith, weight-append, expr_weighs c, expr_weighs a, expr_weighs b)
    expr_weighs a p = omega arith

    row_weighs : (ts : Exprs) (p : Place) → Reads (row_uses ts p) p (row_names ts)
    row_weighs no_exprs p = refl
    row_weighs (expr a ts) p = grind (arith, weight-append, expr_weighs a, row_weighs ts)

    pairs_weigh : (ps : Pairs) (p : Place) → Reads (pair_uses ps p) p (pair_names ps)
    pairs_weigh no_pairs p = refl
    pairs_weigh (pair k a ps) p = grind (arith, weight-append, expr_weighs a, pairs_weigh ps)

  condition_weighs : (c : Option Expr) (p : Place) → Reads (condition_uses c p) p (condition_names c)
  condition_weighs None p = refl
  condition_weighs (Some c) p = expr_weighs c (before_loop p)

  filters_weigh : (fs : List FilterCall) (p : Place) → Reads (filter_call_uses fs p) p (filter_call_names fs)
  filters_weigh [] p = refl
  filters_weigh (f ∷ fs) p = grind (arith, weight-append, row_weighs, pairs_weigh, filters_weigh fs p)

  bound_weigh : (xs : List Text) (p : Place) → Binds (bound xs p) p xs (length xs)
  bound_weigh [] p = refl
  bound_weigh (x ∷ xs) p = omega (arith, bound_weigh xs p)

  parameters_weigh : (ps : List Parameter) (p : Place)
      → Binds (parameters_bound ps p) p (map (λ q. q.name) ps) (length ps)
  parameters_weigh [] p = refl
  parameters_weigh (x ∷ xs) p = omega (arith, parameters_weigh xs p)

  keys_weigh : (ps : Pairs) (p : Place) → Binds (keys_bound ps p) p (keywords ps) (pairs_count ps)
  keys_weigh no_pairs p = refl
  keys_weigh (pair x a ps) p = omega (arith, keys_weigh ps p)

  macros_weigh : (n : Text) (xs : List (Text × Text)) (p : Place) → heavy (macros_bound n xs p) ≡ 0
  macros_weigh n [] p = refl
  macros_weigh n (x ∷ xs) p = omega (arith, macros_weigh n xs p)

  -- The uses weigh what the names weigh as reads, but for those that are set in the scope around them or in scopes,
  -- which weigh what bindings weigh there. n names are bound.
  abbrev Weighs : List Site → Enclosing → List Text → List Text → List Text → ℕ → Type 0
  Weighs ss w names sets scopes n =
      heavy ss + read_weight w sets + read_weight w scopes
      ≡ read_weight w names + weight (b w.in_scope) sets + weight (b true) scopes + n

  mutual
    stmt_weighs : (s : Stmt) (w : Enclosing)
        → Weighs (stmt_uses s w) w (stmt_names s) (set_by s) (scope_names_by s) (stmt_bound s)
    stmt_weighs (print line e) w = grind (arith, expr_weighs)
    stmt_weighs (choose bs others) w = grind (arith, weight-append, branches_weigh bs, body_weighs others)
    stmt_weighs (for_each line xs e c body others) w =
        grind (arith, weight-append, expr_weighs, bound_weigh, condition_weighs, body_weighs body, body_weighs others)
    stmt_weighs (set line xs e) w = grind (arith, weight-append, expr_weighs, bound_weigh)
    stmt_weighs (set_block line x body) w = grind (arith, weight-append, body_weighs body)
    stmt_weighs (with_values line ps body) w = grind (arith, keys_weigh, body_weighs body, weight-append, pairs_weigh)
    stmt_weighs (filter_block line fs body) w = grind (arith, body_weighs body, weight-append, filters_weigh)
    stmt_weighs (autoescape line on body) w = grind (arith, weight-append, body_weighs body)
    stmt_weighs (macro line x ps body) w = grind (arith, parameters_weigh, weight-append, body_weighs body)
    stmt_weighs (import_from line n xs) w = grind (arith, macros_weigh)
    stmt_weighs (block line x scoped required body) w = grind (arith, weight-append, body_weighs body)
    stmt_weighs s w = omega arith

    body_weighs : (b : Body) (w : Enclosing)
        → Weighs (body_uses b w) w (body_names b) (set_in b) (scope_names_in b) (body_bound b)
    body_weighs end w = refl
    body_weighs (stmt s rest) w = grind (arith, weight-append, stmt_weighs s, body_weighs rest)

    branches_weigh : (bs : Branches) (w : Enclosing)
        → Weighs (branch_uses bs w) w (branch_names bs) (set_under bs) (scope_names_under bs) (branch_bound bs)
    branches_weigh no_branches w = refl
    branches_weigh (branch line c body rest) w =
        grind (arith, weight-append, expr_weighs, body_weighs body, branches_weigh rest)

-- The number of names that uses bind.
abbrev pub bindings : List Site → ℕ
bindings = heavy (λ x. 0) (λ c x. 0)

pub bindings_counted : (b : Body) → bindings (body_uses b outside) ≡ body_bound b
bindings_counted b = search (arith, rules, body_weighs, weightless)

-- ---- the texts of names

-- One for the text q, and nothing for another one.
abbrev one : Text → Text → ℕ
one q x = if bytes_eq x q then 1 else 0

counted : (q : Text) (xs : List Text) → among q xs ≡ nat_lt 0 (weight (one q) xs)
counted q [] = search (arith, rules, nat_tests)
counted q (x ∷ xs) = search (arith, rules, nat_tests, counted q xs)

module _ (of : NamesOf) (q : Text) where
  -- What a read and a binding weigh: one if they count and have the text q, and nothing otherwise.
  abbrev read_by : Text → ℕ
  read_by x = option_map_or (one q) (used of (reads x) outside) 0

  abbrev bound_by : Bool → Text → ℕ
  bound_by in_scope x = option_map_or (one q) (used of (binds x) (record outside { in_scope = in_scope })) 0

  use_weighs : (u : Use) (w : Enclosing) (xs : List Text)
      → weight (one q) (cons_option (used of u w) xs) + weight_of (λ x. 0) (λ c x. 0) u w
      ≡ weight_of read_by bound_by u w + weight (one q) xs
  use_weighs u w xs = search (arith, rules)

  uses_weigh : (ss : List Site)
      → weight (one q) (filter_map (name_used of) ss) + bindings ss ≡ heavy read_by bound_by ss
  uses_weigh [] = refl
  uses_weigh (s ∷ ss) = search (arith, rules, use_weighs, uses_weigh ss)

pub names_inserted : (of : NamesOf) (b : Body) (ns : List Text)
    → all_inserted (filter_map (name_used of) (body_uses b outside)) ns ≡ all_inserted (names_by of b) ns
names_inserted of b ns =
    inserted_alike (filter_map (name_used of) (body_uses b outside)) (names_by of b) ns
    (λ q. counted q _ ∙ ap (nat_lt 0) (by of q) ∙ sym (counted q (names_by of b)))
  where
    by : (n : NamesOf) (q : Text)
        → weight (one q) (filter_map (name_used n) (body_uses b outside)) ≡ weight (one q) (names_by n b)
    by Template q = search (arith, rules, body_weighs, uses_weigh, bindings_counted)
    by Scopes q = search (arith, rules, body_weighs, uses_weigh, bindings_counted, weightless)

-- The facts of a template have the names of its body.
module _ (f : TemplateFacts) (c : Chain) (i : ℕ) (ns : List Text) (known : IsKnownTemplate c i f) where
  abbrev its_body : Body
  its_body = body_at (its_templates c) i

  pub known_scopes : all_inserted (filter_map (name_used Scopes) (sites_view f.uses.items)) ns
      ≡ all_inserted (scope_names_in its_body) ns
  known_scopes = rw (known.uses, names_inserted Scopes)

  pub known_names : all_inserted (texts f.names.items) ns ≡ all_inserted (body_names its_body) ns
  known_names = rw (known.names, ascending_inserted)

-- ---- the included templates

-- Expressions include nothing.
passed : Passes name_included
passed = search rules

abbrev names_in : List Site → List Text
names_in = filter_map name_included

expr_none : (e : Expr) (p : Place) → names_in (expr_uses e p) ≡ []
expr_none e p = (below.expr_none name_included passed e p).is

bound_none : (xs : List Text) (p : Place) → names_in (bound xs p) ≡ []
bound_none [] p = refl
bound_none (x ∷ xs) p = bound_none xs p

parameters_none : (ps : List Parameter) (p : Place) → names_in (parameters_bound ps p) ≡ []
parameters_none [] p = refl
parameters_none (x ∷ xs) p = parameters_none xs p

keys_none : (ps : Pairs) (p : Place) → names_in (keys_bound ps p) ≡ []
keys_none no_pairs p = refl
keys_none (pair x e ps) p = keys_none ps p

macros_none : (n : Text) (xs : List (Text × Text)) (p : Place) → names_in (macros_bound n xs p) ≡ []
macros_none n [] p = refl
macros_none n (x ∷ xs) p = macros_none n xs p

mutual
  stmt_includes : (s : Stmt) (w : Enclosing) → names_in (stmt_uses s w) ≡ needs_by true s
  stmt_includes (print line e) w = expr_none e _
  stmt_includes (choose bs other) w = simp (filter_map-append, branches_include bs, names_of_includes other)
  stmt_includes (for_each line xs e c body other) w =
      let condition = λ (p : Place). (below.condition_none name_included passed c p).is in
      simp (filter_map-append, expr_none, bound_none, condition, names_of_includes body, names_of_includes other)
  stmt_includes (set line xs e) w = simp (filter_map-append, expr_none, bound_none)
  stmt_includes (set_block line x body) w = names_of_includes body _
  stmt_includes (with_values line ps body) w =
      let pairs = λ (p : Place). (below.pairs_none name_included passed ps p).is in
      simp (filter_map-append, pairs, keys_none, names_of_includes body)
  stmt_includes (filter_block line fs body) w =
      let filters = λ (p : Place). (below.filter_calls_none name_included passed fs p).is in
      simp (filter_map-append, filters, names_of_includes body)
  stmt_includes (autoescape line on body) w = names_of_includes body _
  stmt_includes (macro line x ps body) w = simp (filter_map-append, parameters_none, names_of_includes body)
  stmt_includes (import_from line n xs) w = macros_none n xs _
  stmt_includes (block line x scoped required body) w = names_of_includes body _
  stmt_includes s w = refl

  pub names_of_includes : (b : Body) (w : Enclosing) → names_in (body_uses b w) ≡ needs_in true b
  names_of_includes end w = refl
  names_of_includes (stmt s rest) w = simp (filter_map-append, stmt_includes s, names_of_includes rest)

  branches_include : (bs : Branches) (w : Enclosing) → names_in (branch_uses bs w) ≡ needs_under true bs
  branches_include no_branches w = refl
  branches_include (branch line c body rest) w =
      simp (filter_map-append, expr_none, names_of_includes body, branches_include rest)
