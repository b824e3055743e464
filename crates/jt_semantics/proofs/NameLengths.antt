-- No name of a program and no text of its pool is longer than the trees of its chains.
use Rattle.std.proofs.Common.{◌≡◌, ℕ, suc, ◌≤◌, Bool, List, [], ◌∷◌, ◌++◌, length, map}
use Rattle.std.proofs.Common.{Option, Some, sym, subst, arith, inl, inr, rules}
use Rattle.std.specs.Prelude.{flat_map, filter}
use Rattle.std.specs.List.{AllByRecursion as Each}
use Rattle.std.specs.Str.{bytes_eq}
use Rattle.jt_value.specs.Tree.{Tree}
use Rattle.jt_ast.specs.Expressions as written
use Rattle.jt_ast.specs.Expressions.{Expr, constant, name, group, list_of, map_of, attribute, item, call, test, unary}
use Rattle.jt_ast.specs.Expressions.{binary, when, choice, Exprs, no_exprs, expr, Pairs, no_pairs, pair, Text}
use Rattle.jt_ast.specs.Sizes.{literal_bytes, expr_bytes, exprs_bytes, pairs_bytes, texts_bytes, condition_bytes}
use Rattle.jt_ast.specs.Sizes.{filter_call_bytes, default_bytes, parameters_bytes, stmt_bytes, body_bytes, branch_bytes}
use Rattle.jt_ast.specs.Statements.{Parameter, FilterCall, Stmt, print, choose, for_each, set, set_block, with_values}
use Rattle.jt_ast.specs.Statements.{filter_block, autoescape, macro, block, Body, end, stmt, Branches, no_branches}
use Rattle.jt_ast.specs.Statements.{branch}
use Rattle.jt_chains.specs.Chain.{Namespace, Template, templates, BlockBody, blocks_of, blocks_in}
use Rattle.jt_chains.specs.Chain.{blocks_under, MacroBody, macros_in, macros}
use Rattle.jt_chains.specs.Uses.{keywords, set_in, expr_names, row_names, pair_names, condition_names}
use Rattle.jt_chains.specs.Uses.{filter_call_names, stmt_names, body_names, branch_names, own_names}
use Rattle.jt_eval.specs.Filters.{default_value}
use Rattle.jt_eval.specs.Values.{literal}
use Rattle.jt_ir.specs.Slots.{Routine}
use Rattle.jt_ir.specs.Pool.{Constant, body_values, routines_values}
use Rattle.jt_ids.specs.declared.filter_id.FilterId.{FilterId}
use Rattle.jt_chains.specs.View.{Seen, sources_of}
use Rattle.jt_eval.specs.TheFilters.{the_filters, filter_parameters}
use Rattle.jt_rules.specs.CompileEnv.{CompileEnv, cenv_of}
use Rattle.jt_semantics.specs.Bytes.{value_bytes, IsShort}
use Rattle.jt_semantics.specs.Layout.{names, counted_from, block_parameters, defaults_of}
use Rattle.jt_semantics.specs.Programs.{program, routines, entry_routines, chain_routines, body_routines}
use Rattle.jt_semantics.specs.Resolve.{Part, bound_all, resolved_body, top_senv}
use Rattle.jt_semantics.specs.Resolve.{resolved_chain, scoped, macro_routine}
use Rattle.jt_semantics.proofs.Among.{Among, AllAmong, among_left, among_right, each_among, all_among}
use Rattle.jt_semantics.proofs.ValueBounds.{literal_is, most, Bare, ArePlain, chain_within, routine_within}
use Rattle.jt_semantics.proofs.TreesHaveParts.{AreShort}
use Rattle.jt_semantics.proofs.NameCounts.{names_from, filters_few}
use Rattle.jt_semantics.proofs.EachElement.{each_front, each_back, each_append}

-- ---- Values

abbrev Shorts : ℕ → List Tree → Type 0
Shorts n vs = Each (λ v. value_bytes v ≤ n) vs

literal_short : (n : ℕ) (l : written.Literal) → literal_bytes l ≤ n → value_bytes (literal l) ≤ n
literal_short n l h = omega (arith, literal_is l)

each_short : (n : ℕ) (vs : List Tree) → most value_bytes vs ≤ n → Shorts n vs
each_short n [] h = tt
each_short n (v ∷ vs) h = (omega arith, each_short n vs (omega arith))

split : (n : ℕ) (xs ys : List Tree) → Shorts n (xs ++ ys) → Shorts n xs × Shorts n ys
split n xs ys a = search (arith, rules, each_front, each_back)

-- ---- The bodies of a template are no longer than it

abbrev BlocksShort : ℕ → List BlockBody → Type 0
BlocksShort n bs = Each (λ b. body_bytes b.body ≤ n) bs

module _ (t : Text) (n : ℕ) where
  mutual
    stmt_blocks : (s : Stmt) (on : Bool) → stmt_bytes s ≤ n → BlocksShort n (blocks_of t s on)
    stmt_blocks (block line x scoped required body) on h = (omega (arith, h), body_blocks body on (omega (arith, h)))
    stmt_blocks (choose bs other) on h = search (arith, rules, each_append, branch_blocks bs on, body_blocks other on)
    stmt_blocks (for_each line xs e c body other) on h =
        search (arith, rules, each_append, body_blocks body on, body_blocks other on)
    stmt_blocks (set_block line x body) on h = body_blocks body on (omega (arith, h))
    stmt_blocks (with_values line ps body) on h = body_blocks body on (omega (arith, h))
    stmt_blocks (filter_block line fs body) on h = body_blocks body on (omega (arith, h))
    stmt_blocks (autoescape line now body) on h = body_blocks body now (omega (arith, h))
    stmt_blocks (macro line x ps body) on h = body_blocks body on (omega (arith, h))
    stmt_blocks s on h = tt

    body_blocks : (b : Body) (on : Bool) → body_bytes b ≤ n → BlocksShort n (blocks_in t b on)
    body_blocks end on h = tt
    body_blocks (stmt s rest) on h = search (arith, rules, each_append, stmt_blocks s on, body_blocks rest on)

    branch_blocks : (bs : Branches) (on : Bool) → branch_bytes bs ≤ n → BlocksShort n (blocks_under t bs on)
    branch_blocks no_branches on h = tt
    branch_blocks (branch line c body rest) on h =
        search (arith, rules, each_append, body_blocks body on, branch_blocks rest on)

  abbrev MacroShort : MacroBody → Type 0
  MacroShort m = (body_bytes m.body ≤ n) × (parameters_bytes m.parameters ≤ n)

  top_macros : (b : Body) → body_bytes b ≤ n → Each MacroShort (macros_in t b)
  top_macros end h = tt
  top_macros (stmt (macro line x ps body) rest) h = search (arith, rules, top_macros rest)
  top_macros (stmt s rest) h = top_macros rest (omega (arith, h))

chain_blocks : (n : ℕ) (on : Bool) (ts : List Template) → AreShort n ts
    → BlocksShort n (flat_map (λ t. blocks_in t.name t.body on) ts)
chain_blocks n on [] h = tt
chain_blocks n on (t ∷ ts) h =
    each_append (λ b. body_bytes b.body ≤ n) (blocks_in t.name t.body on)
    (flat_map (λ u. blocks_in u.name u.body on) ts)
    (body_blocks t.name n t.body on h.0) (chain_blocks n on ts h.1)

chain_macros : (n : ℕ) (ts : List Template) → AreShort n ts
    → Each (λ m. (body_bytes m.body ≤ n) × (parameters_bytes m.parameters ≤ n))
    (flat_map (λ t. macros_in t.name t.body) ts)
chain_macros n [] h = tt
chain_macros n (t ∷ ts) h =
    each_append (λ m. (body_bytes m.body ≤ n) × (parameters_bytes m.parameters ≤ n)) (macros_in t.name t.body)
    (flat_map (λ u. macros_in u.name u.body) ts) (top_macros t.name n t.body h.0) (chain_macros n ts h.1)

-- ---- The values of a chain's routines

-- Holds if the defaults of the filters' parameters have no texts.
abbrev pub Plain : CompileEnv → Type 0
Plain cenv = (i : ℕ) → ArePlain value_bytes (cenv.filters.parameters i)

values_append : (n : ℕ) (a b : List (Routine Constant)) → Shorts n (routines_values a) → Shorts n (routines_values b)
    → Shorts n (routines_values (a ++ b))
values_append n [] b h g = g
values_append n (r ∷ a) b h g =
    let p = split n (body_values r.body) (routines_values a) h in
    each_append (λ v. value_bytes v ≤ n) (body_values r.body) (routines_values (a ++ b)) p.0 (values_append n a b p.1 g)

module _ (cenv : CompileEnv) (order : List Namespace) (n : ℕ) (k : Plain cenv) (h : Namespace) where
  chain_short : (ts : List Template) → AreShort n ts → Shorts n (body_values (resolved_chain cenv order h ts))
  chain_short ts g =
      each_short n (body_values (resolved_chain cenv order h ts))
      (chain_within value_bytes n cenv order k (literal_short n) h ts g).1

  macros_short : (ms : List MacroBody)
      → Each (λ m. (body_bytes m.body ≤ n) × (parameters_bytes m.parameters ≤ n)) ms
      → Shorts n (routines_values (map (macro_routine cenv order h) ms))
  macros_short [] g = tt
  macros_short (m ∷ ms) g =
      let xs = map (λ (p : Parameter). p.name) m.parameters in
      let sp = top_senv cenv order h m.template in
      let c = routine_within value_bytes n cenv order k (literal_short n) xs m.body sp g.0.0 in
      let r = macro_routine cenv order h m in
      each_append (λ v. value_bytes v ≤ n) (body_values r.body) (routines_values (map (macro_routine cenv order h) ms))
      (each_short n (body_values r.body) c.1) (macros_short ms g.1)

  blocks_short : (i : ℕ) (bs : List BlockBody) → BlocksShort n bs
      → Shorts n (routines_values (body_routines cenv order h (counted_from i bs)))
  blocks_short i [] g = tt
  blocks_short i (b ∷ bs) g =
      let part : Part =
      record { name = b.name; behind = filter (λ c. bytes_eq c.1.name b.name) (counted_from (suc i) bs) } in
      let xs = block_parameters cenv order h b.name in
      let sp = record (top_senv cenv order h b.template) { escaping = b.escaping; part = Some part } in
      let r = scoped (set_in b.body) (bound_all xs sp) (resolved_body cenv order b.body) in
      let c = routine_within value_bytes n cenv order k (literal_short n) xs b.body sp g.0 in
      each_append (λ v. value_bytes v ≤ n) (body_values r)
      (routines_values (body_routines cenv order h (counted_from (suc i) bs)))
      (each_short n (body_values r) c.1) (blocks_short (suc i) bs g.1)

  entry_short : (g : Namespace) → Shorts n (body_values (resolved_chain cenv order g (templates cenv.sources g)))
      → Shorts n (routines_values (entry_routines cenv order g))
  entry_short g c = search (arith, rules, each_append)

  in_chain : AreShort n (templates cenv.sources h) → Shorts n (routines_values (chain_routines cenv order h))
  in_chain g =
      search
      (arith, rules, values_append, entry_short, chain_short, macros_short, chain_macros, blocks_short, chain_blocks)

-- ---- The defaults of macros

default_is : (d : Option written.Literal) → value_bytes (default_value d) ≡ default_bytes d
default_is d = search (arith, rules, literal_is)

parameters_short : (n : ℕ) (ps : List Parameter) → parameters_bytes ps ≤ n
    → Shorts n (map (λ p. default_value p.default) ps)
parameters_short n [] h = tt
parameters_short n (p ∷ ps) h = search (arith, rules, default_is, parameters_short n ps)

defaults_short : (n : ℕ) (ms : List MacroBody)
    → Each (λ m. (body_bytes m.body ≤ n) × (parameters_bytes m.parameters ≤ n)) ms → Shorts n (defaults_of ms)
defaults_short n [] h = tt
defaults_short n (m ∷ ms) h =
    each_append (λ v. value_bytes v ≤ n) (map (λ p. default_value p.default) m.parameters) (defaults_of ms)
    (parameters_short n m.parameters h.0.1) (defaults_short n ms h.1)

-- ---- Names

abbrev Names : ℕ → List Text → Type 0
Names n xs = Each (λ x. length x ≤ n) xs

names_append : (n : ℕ) (xs ys : List Text) → Names n xs → Names n ys → Names n (xs ++ ys)
names_append n xs ys = each_append (λ x. length x ≤ n) xs ys

module _ (n : ℕ) where
  mutual
    expr_short : (e : Expr) → expr_bytes e ≤ n → Names n (expr_names e)
    expr_short (constant l) h = tt
    expr_short (name x) h = (h, tt)
    expr_short (group a) h = expr_short a h
    expr_short (list_of ts) h = row_short ts h
    expr_short (map_of ps) h = pairs_short ps h
    expr_short (attribute a k) h = search (arith, rules, expr_short a (omega (arith, h)))
    expr_short (item a b) h = search (arith, rules, names_append, expr_short a, expr_short b)
    expr_short (call a ts ps) h = search (arith, rules, names_append, row_short ts, pairs_short ps)
    expr_short (written.filter a x ts ps) h =
        search (arith, rules, names_append, expr_short a, row_short ts, pairs_short ps)
    expr_short (test a m x ts ps) h = search (arith, rules, names_append, expr_short a, row_short ts, pairs_short ps)
    expr_short (unary o a) h = expr_short a h
    expr_short (binary o a b) h = search (arith, rules, names_append, expr_short a, expr_short b)
    expr_short (when c a) h = search (arith, rules, names_append, expr_short c, expr_short a)
    expr_short (choice c a b) h = search (arith, rules, names_append, expr_short c, expr_short a, expr_short b)

    row_short : (ts : Exprs) → exprs_bytes ts ≤ n → Names n (row_names ts)
    row_short no_exprs h = tt
    row_short (expr a ts) h = search (arith, rules, names_append, expr_short a, row_short ts)

    pairs_short : (ps : Pairs) → pairs_bytes ps ≤ n → Names n (pair_names ps)
    pairs_short no_pairs h = tt
    pairs_short (pair k a ps) h = search (arith, rules, names_append, expr_short a, pairs_short ps)

  keys_short : (ps : Pairs) → pairs_bytes ps ≤ n → Names n (keywords ps)
  keys_short no_pairs h = tt
  keys_short (pair k a ps) h = (omega (arith, h), keys_short ps (omega (arith, h)))

  texts_short : (xs : List Text) → texts_bytes xs ≤ n → Names n xs
  texts_short [] h = tt
  texts_short (x ∷ xs) h = (omega (arith, h), texts_short xs (omega (arith, h)))

  condition_short : (c : Option Expr) → condition_bytes c ≤ n → Names n (condition_names c)
  condition_short c h = search (arith, rules, expr_short)

  filter_call_short : (fs : List FilterCall) → filter_call_bytes fs ≤ n → Names n (filter_call_names fs)
  filter_call_short [] h = tt
  filter_call_short (f ∷ fs) h = search (arith, rules, names_append, row_short, pairs_short, filter_call_short fs)

  given_short : (ps : List Parameter) → parameters_bytes ps ≤ n → Names n (map (λ p. p.name) ps)
  given_short [] h = tt
  given_short (p ∷ ps) h = (omega (arith, h), given_short ps (omega (arith, h)))

  mutual
    stmt_short : (s : Stmt) → stmt_bytes s ≤ n → Names n (stmt_names s)
    stmt_short (print line e) h = expr_short e h
    stmt_short (choose bs other) h = search (arith, rules, names_append, branches_short bs, body_short other)
    stmt_short (for_each line xs e c body other) h =
        search (
          arith,
          rules,
          names_append,
          expr_short e (omega (arith, h)),
          texts_short xs (omega (arith, h)),
          condition_short c (omega (arith, h)),
          body_short body (omega (arith, h)),
          body_short other (omega (arith, h)),
        )
    stmt_short (set line xs e) h = search (arith, rules, names_append, expr_short, texts_short)
    stmt_short (set_block line x body) h = (omega (arith, h), body_short body (omega (arith, h)))
    stmt_short (with_values line ps body) h =
        search (arith, rules, names_append, pairs_short, keys_short, body_short body)
    stmt_short (filter_block line fs body) h = search (arith, rules, names_append, filter_call_short, body_short body)
    stmt_short (autoescape line on body) h = body_short body h
    stmt_short (macro line x ps body) h = search (arith, rules, names_append, given_short, body_short body)
    stmt_short (block line x scoped required body) h = body_short body (omega (arith, h))
    stmt_short s h = tt

    body_short : (b : Body) → body_bytes b ≤ n → Names n (body_names b)
    body_short end h = tt
    body_short (stmt s rest) h = search (arith, rules, names_append, stmt_short s, body_short rest)

    branches_short : (bs : Branches) → branch_bytes bs ≤ n → Names n (branch_names bs)
    branches_short no_branches h = tt
    branches_short (branch line c body rest) h =
        search (arith, rules, names_append, expr_short, body_short body, branches_short rest)

  own_short : (ts : List Template) → AreShort n ts → Names n (flat_map (λ t. body_names t.body) ts)
  own_short [] h = tt
  own_short (t ∷ ts) h =
      names_append n (body_names t.body) (flat_map (λ u. body_names u.body) ts) (body_short t.body h.0)
      (own_short ts h.1)

-- Names that are among short names are short.
among_short : (n : ℕ) (xs ns : List Text) → Names n ns → AllAmong xs ns → Names n xs
among_short n [] ns h a = tt
among_short n (x ∷ xs) ns h a = (at ns h a.0, among_short n xs ns h a.1)
  where
    at : (ns : List Text) → Names n ns → Among x ns → length x ≤ n
    at [] h i = absurd i
    at (y ∷ ys) h (inl e) = subst (λ z. length z ≤ n) e h.0
    at (y ∷ ys) h (inr i) = at ys h.1 i

-- ---- The program

module _ (cenv : CompileEnv) (n : ℕ) where
  abbrev pub ChainsShort : List Namespace → Type 0
  ChainsShort hs = Each (λ h. AreShort n (templates cenv.sources h)) hs

  module _ (order : List Namespace) (k : Plain cenv) where
    chains_values : (hs : List Namespace) → ChainsShort hs
        → Shorts n (routines_values (flat_map (chain_routines cenv order) hs))
    chains_values [] h = tt
    chains_values (g ∷ hs) h =
        values_append n (chain_routines cenv order g) (flat_map (chain_routines cenv order) hs)
        (in_chain cenv order n k g h.0) (chains_values hs h.1)

  chains_defaults : (hs : List Namespace) → ChainsShort hs
      → Shorts n (flat_map (λ h. defaults_of (macros cenv.sources h)) hs)
  chains_defaults [] h = tt
  chains_defaults (g ∷ hs) h =
      each_append (λ v. value_bytes v ≤ n) (defaults_of (macros cenv.sources g))
      (flat_map (λ h. defaults_of (macros cenv.sources h)) hs)
      (defaults_short n (macros cenv.sources g) (chain_macros n (templates cenv.sources g) h.0))
      (chains_defaults hs h.1)

  chains_names : (hs : List Namespace) → ChainsShort hs → Names n (flat_map (own_names cenv.sources) hs)
  chains_names [] h = tt
  chains_names (g ∷ hs) h =
      names_append n (own_names cenv.sources g) (flat_map (own_names cenv.sources) hs)
      (own_short n (templates cenv.sources g) h.0) (chains_names hs h.1)

-- The names of each chain are among the names of all chains.
own_among : (cenv : CompileEnv) (hs : List Namespace) (ns : List Text)
    → ((zs : List Text) → AllAmong zs (flat_map (own_names cenv.sources) hs) → AllAmong zs ns)
    → Each (λ h. AllAmong (own_names cenv.sources h) ns) hs
own_among cenv [] ns f = tt
own_among cenv (h ∷ hs) ns f =
    search (arith, rules, all_among, among_left, own_among cenv hs ns, among_right, each_among)

pub program_short : (cenv : CompileEnv) (entry : Namespace) (rest : List Namespace) (n : ℕ) → Plain cenv
    → ChainsShort cenv n (entry ∷ rest) → IsShort n (program cenv (entry ∷ rest) entry)
program_short cenv entry rest n k h =
    let order = entry ∷ rest in
    let all = flat_map (own_names cenv.sources) order in
    record {
      names =
          among_short n (names cenv order entry) all (chains_names cenv n order h)
          (names_from cenv all order (own_among cenv order all (λ zs a. a)) entry);
      pool = (
        omega arith,
        each_append (λ v. value_bytes v ≤ n) (flat_map (λ g. defaults_of (macros cenv.sources g)) order)
            (routines_values (routines cenv order)) (chains_defaults cenv n order h)
            (chains_values cenv n order k order h),
      );
    }

-- ---- The filters of the language

defaults_bare : (i : FilterId) → Bare value_bytes (filter_parameters i)
defaults_bare i = search (arith, rules)

filters_bare : (n : ℕ) → Bare value_bytes (the_filters.parameters n)
unfolding the_filters
filters_bare n = search (arith, rules, defaults_bare)

pub chain_is_short : (c : Seen) (entry : Namespace) (rest : List Namespace) (n : ℕ) → c.order ≡ entry ∷ rest
    → Each (λ h. Each (λ t. body_bytes t.body ≤ n) (templates (sources_of c) h)) c.order
    → IsShort n (program (cenv_of c) c.order entry)
chain_is_short c entry rest n e h =
    subst (λ hs. IsShort n (program (cenv_of c) hs entry)) (sym e)
    (program_short (cenv_of c) entry rest n (λ i. record { few = filters_few i; bare = filters_bare i })
    (subst (λ hs. Each (λ h. Each (λ t. body_bytes t.body ≤ n) (templates (sources_of c) h)) hs) e
    h))
