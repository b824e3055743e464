-- The weight of each body without the names that are bound in it, each with the token after it.
-- These names pay for the parameters that a call loads, and for the values that several targets
-- take.
use Rattle.std.proofs.Common.{◌≡◌, ℕ, suc, ◌+◌, ◌*◌, ◌≤◌, Bool, List, [], ◌∷◌, ◌++◌, length, arith, refl, length-append}
use Rattle.std.proofs.Common.{rules}
use Rattle.std.proofs.lemmas.List.{length-map}
use Rattle.std.specs.Prelude.{flat_map}
use Rattle.std.specs.List.{AllByRecursion as Each}
use Rattle.jt_ast.specs.Expressions.{Pairs, no_pairs, pair, weight, pairs_weight, Text}
use Rattle.jt_ast.specs.Texts.{inserted, all_inserted, ascending}
use Rattle.jt_ast.specs.Statements.{Parameter, parameters_weight, condition_weight, filter_call_weight, Stmt, data_of}
use Rattle.jt_ast.specs.Statements.{print, choose, for_each, set, set_block, with_values, filter_block, autoescape}
use Rattle.jt_ast.specs.Statements.{macro, include, import_as, import_from, extends, block, stmt_weight, stmt_bound}
use Rattle.jt_ast.specs.Statements.{Body, end, stmt, body_weight, body_bound, Branches, no_branches, branch}
use Rattle.jt_ast.specs.Statements.{branch_weight, branch_bound, pairs_count}
use Rattle.jt_chains.specs.Chain.{Template, BlockBody, blocks_of, blocks_in, blocks_under, MacroBody, macros_in}
use Rattle.jt_chains.specs.Weights.{templates_weight}
use Rattle.jt_chains.specs.Uses.{keywords, set_by, set_in, set_under, scope_names_by, scope_names_in, scope_names_under}
use Rattle.jt_semantics.proofs.EachElement.{each_append, each_map}

abbrev mutual
  pub stmt_free : Stmt → ℕ
  stmt_free (data_of t) = 1
  stmt_free (print line e) = 4 + weight e
  stmt_free (choose bs other) = 5 + branch_free bs + body_free other
  stmt_free (for_each line xs e c body other) = 10 + weight e + condition_weight c + body_free body + body_free other
  stmt_free (set line xs e) = 5 + weight e
  stmt_free (set_block line x body) = 9 + body_free body
  stmt_free (with_values line ps body) = 9 + pairs_weight 0 ps + body_free body
  stmt_free (filter_block line fs body) = 9 + filter_call_weight fs + body_free body
  stmt_free (autoescape line on body) = 11 + body_free body
  stmt_free (macro line x ps body) = 0
  stmt_free (include line n ignore_missing with_context) = 7
  stmt_free (import_as line n new) = 9
  stmt_free (import_from line n news) = 7 + 2 * length news
  stmt_free (extends line n) = 7
  stmt_free (block line x scoped required body) = 9

  pub body_free : Body → ℕ
  body_free end = 0
  body_free (stmt s rest) = stmt_free s + body_free rest

  pub branch_free : Branches → ℕ
  branch_free no_branches = 0
  branch_free (branch line c body rest) = 5 + weight c + body_free body + branch_free rest

-- ---- The names that a body binds, without the bodies of its blocks and macros

abbrev mutual
  pub stmt_binds : Stmt → ℕ
  stmt_binds (choose bs other) = branch_binds bs + body_binds other
  stmt_binds (for_each line xs e c body other) = length xs + body_binds body + body_binds other
  stmt_binds (set line xs e) = length xs
  stmt_binds (set_block line x body) = 1 + body_binds body
  stmt_binds (with_values line ps body) = pairs_count ps + body_binds body
  stmt_binds (filter_block line fs body) = body_binds body
  stmt_binds (autoescape line on body) = body_binds body
  stmt_binds s = 0

  pub body_binds : Body → ℕ
  body_binds end = 0
  body_binds (stmt s rest) = stmt_binds s + body_binds rest

  pub branch_binds : Branches → ℕ
  branch_binds no_branches = 0
  branch_binds (branch line c body rest) = body_binds body + branch_binds rest

-- ---- The own weight of a body: a macro has weight 0 in it, and a block the weight of its tag

abbrev pub stmt_own : Stmt → ℕ
stmt_own s = stmt_free s + 2 * stmt_binds s

abbrev pub body_own : Body → ℕ
body_own b = body_free b + 2 * body_binds b

abbrev pub branch_own : Branches → ℕ
branch_own bs = branch_free bs + 2 * branch_binds bs

pub pairs_bound : (ps : Pairs) → pairs_weight 2 ps ≡ pairs_weight 0 ps + 2 * pairs_count ps
pairs_bound no_pairs = omega arith
pairs_bound (pair x e ps) = omega (arith, pairs_bound ps)

pub parameters_bound : (ps : List Parameter) → 2 * length ps ≤ parameters_weight ps
parameters_bound [] = omega arith
parameters_bound (p ∷ ps) = omega (arith, parameters_bound ps)

-- ---- A body weighs at least its weight without bound names and that of the names

mutual
  stmt_paid : (s : Stmt) → stmt_free s + 2 * stmt_bound s ≤ stmt_weight s
  stmt_paid (choose bs other) = omega (arith, branch_paid bs, body_paid other)
  stmt_paid (for_each line xs e c body other) = omega (arith, body_paid body, body_paid other)
  stmt_paid (set_block line x body) = omega (arith, body_paid body)
  stmt_paid (with_values line ps body) = omega (arith, pairs_bound ps, body_paid body)
  stmt_paid (filter_block line fs body) = omega (arith, body_paid body)
  stmt_paid (autoescape line on body) = omega (arith, body_paid body)
  stmt_paid (macro line x ps body) = omega (arith, parameters_bound ps, body_paid body)
  stmt_paid (block line x scoped required body) = omega (arith, body_paid body)
  stmt_paid s = omega arith

  pub body_paid : (b : Body) → body_free b + 2 * body_bound b ≤ body_weight b
  body_paid end = omega arith
  body_paid (stmt s rest) = omega (arith, stmt_paid s, body_paid rest)

  branch_paid : (bs : Branches) → branch_free bs + 2 * branch_bound bs ≤ branch_weight bs
  branch_paid no_branches = omega arith
  branch_paid (branch line c body rest) = omega (arith, body_paid body, branch_paid rest)

-- ---- A part of a whole: its weight without bound names leaves enough for all names that are bound

pub record Paid (w n : ℕ) (b : Body) : Type 0 where
  pub free : body_free b + 2 * n ≤ w
  pub bound : body_bound b ≤ n

pub record PaidMacro (w n : ℕ) (m : MacroBody) : Type 0 where
  pub body : Paid w n m.body
  pub parameters : length m.parameters ≤ n

abbrev pub AllPaid : ℕ → ℕ → List BlockBody → Type 0
AllPaid w n bs = Each (λ b. Paid w n b.body) bs

abbrev pub MacrosPaid : ℕ → ℕ → List MacroBody → Type 0
MacrosPaid w n ms = Each (PaidMacro w n) ms

paid_more : (w n v m : ℕ) → n ≤ m → w + 2 * m ≤ v + 2 * n → (b : Body) → Paid w n b → Paid v m b
paid_more w n v m l e b p = search (arith, rules)

pub all_more : (w n v m : ℕ) → n ≤ m → w + 2 * m ≤ v + 2 * n → (bs : List BlockBody) → AllPaid w n bs → AllPaid v m bs
all_more w n v m l e bs = each_map (λ b. Paid w n b.body) (λ b. Paid v m b.body) bs (λ b. paid_more w n v m l e b.body)

pub macros_more : (w n v m : ℕ) → n ≤ m → w + 2 * m ≤ v + 2 * n → (ms : List MacroBody) → MacrosPaid w n ms
    → MacrosPaid v m ms
macros_more w n v m l e ms = search (arith, rules, each_map, paid_more)

-- If two parts are paid for by their own weights, both are paid for by the weight of the whole.
pub both_paid : (w n v m z k : ℕ) → 2 * n ≤ w → 2 * m ≤ v → w + v + 2 * k ≤ z + 2 * n + 2 * m → n + m ≤ k
    → (bs cs : List BlockBody) → AllPaid w n bs → AllPaid v m cs → AllPaid z k (bs ++ cs)
both_paid w n v m z k p q e l bs cs b c = search (arith, rules, each_append, all_more)

pub both_macros : (w n v m z k : ℕ) → 2 * n ≤ w → 2 * m ≤ v → w + v + 2 * k ≤ z + 2 * n + 2 * m → n + m ≤ k
    → (bs cs : List MacroBody) → MacrosPaid w n bs → MacrosPaid v m cs → MacrosPaid z k (bs ++ cs)
both_macros w n v m z k p q e l bs cs b c = search (arith, rules, each_append, macros_more)

module _ (t : Text) where
  mutual
    stmt_blocks : (s : Stmt) (on : Bool) → AllPaid (stmt_weight s) (stmt_bound s) (blocks_of t s on)
    stmt_blocks (block line x scoped required body) on = search (arith, rules, body_paid, all_more, body_blocks body on)
    stmt_blocks (choose bs other) on =
        both_paid (branch_weight bs) (branch_bound bs) (body_weight other) (body_bound other)
        (5 + branch_weight bs + body_weight other) (branch_bound bs + body_bound other) (omega (arith, branch_paid bs))
        (omega (arith, body_paid other)) (omega arith) (omega arith)
        (blocks_under t bs on) (blocks_in t other on) (branch_blocks bs on) (body_blocks other on)
    stmt_blocks (for_each line xs e c body other) on =
        both_paid (body_weight body) (body_bound body) (body_weight other) (body_bound other)
        (10 + 2 * length xs + weight e + condition_weight c + body_weight body + body_weight other)
        (length xs + body_bound body + body_bound other)
        (omega (arith, body_paid body)) (omega (arith, body_paid other)) (omega arith) (omega arith)
        (blocks_in t body on) (blocks_in t other on) (body_blocks body on) (body_blocks other on)
    stmt_blocks (set_block line x body) on = search (arith, rules, all_more, body_blocks body on)
    stmt_blocks (with_values line ps body) on = search (arith, rules, pairs_bound, all_more, body_blocks body on)
    stmt_blocks (filter_block line fs body) on = search (arith, rules, all_more, body_blocks body on)
    stmt_blocks (autoescape line now body) on = search (arith, rules, all_more, body_blocks body now)
    stmt_blocks (macro line x ps body) on = search (arith, rules, parameters_bound, all_more, body_blocks body on)
    stmt_blocks s on = tt

    pub body_blocks : (b : Body) (on : Bool) → AllPaid (body_weight b) (body_bound b) (blocks_in t b on)
    body_blocks end on = tt
    body_blocks (stmt s rest) on =
        both_paid (stmt_weight s) (stmt_bound s) (body_weight rest) (body_bound rest) (stmt_weight s + body_weight rest)
        (stmt_bound s + body_bound rest) (omega (arith, stmt_paid s)) (omega (arith, body_paid rest)) (omega arith)
        (omega arith)
        (blocks_of t s on) (blocks_in t rest on) (stmt_blocks s on) (body_blocks rest on)

    branch_blocks : (bs : Branches) (on : Bool) → AllPaid (branch_weight bs) (branch_bound bs) (blocks_under t bs on)
    branch_blocks no_branches on = tt
    branch_blocks (branch line c body rest) on =
        both_paid (body_weight body) (body_bound body) (branch_weight rest) (branch_bound rest)
        (5 + weight c + body_weight body + branch_weight rest) (body_bound body + branch_bound rest)
        (omega (arith, body_paid body)) (omega (arith, branch_paid rest)) (omega arith) (omega arith)
        (blocks_in t body on) (blocks_under t rest on) (body_blocks body on) (branch_blocks rest on)

  behind : (s : Stmt) (rest : Body) → MacrosPaid (body_weight rest) (body_bound rest) (macros_in t rest)
      → MacrosPaid (stmt_weight s + body_weight rest) (stmt_bound s + body_bound rest) (macros_in t rest)
  behind s rest p = search (arith, rules, macros_more, stmt_paid s)

  pub top_macros : (b : Body) → MacrosPaid (body_weight b) (body_bound b) (macros_in t b)
  top_macros end = tt
  top_macros (stmt (macro line x ps body) rest) =
      search (
        arith,
        rules,
        body_paid body,
        parameters_bound ps,
        body_paid rest,
        behind (macro line x ps body) rest,
        top_macros rest,
      )
  top_macros (stmt s rest) = behind s rest (top_macros rest)

-- ---- All templates of a chain

abbrev pub templates_bound : List Template → ℕ
templates_bound [] = 0
templates_bound (t ∷ ts) = body_bound t.body + templates_bound ts

pub templates_pay : (ts : List Template) → 2 * templates_bound ts ≤ templates_weight ts
templates_pay [] = omega arith
templates_pay (t ∷ ts) = omega (arith, body_paid t.body, templates_pay ts)

pub chain_blocks : (on : Bool) (ts : List Template)
    → AllPaid (templates_weight ts) (templates_bound ts) (flat_map (λ t. blocks_in t.name t.body on) ts)
chain_blocks on [] = tt
chain_blocks on (t ∷ ts) =
    both_paid (body_weight t.body) (body_bound t.body) (templates_weight ts) (templates_bound ts)
    (body_weight t.body + templates_weight ts) (body_bound t.body + templates_bound ts)
    (omega (arith, body_paid t.body)) (templates_pay ts) (omega arith) (omega arith)
    (blocks_in t.name t.body on) (flat_map (λ u. blocks_in u.name u.body on) ts) (body_blocks t.name t.body on)
    (chain_blocks on ts)

pub chain_macros : (ts : List Template)
    → MacrosPaid (templates_weight ts) (templates_bound ts) (flat_map (λ t. macros_in t.name t.body) ts)
chain_macros [] = tt
chain_macros (t ∷ ts) =
    both_macros (body_weight t.body) (body_bound t.body) (templates_weight ts) (templates_bound ts)
    (body_weight t.body + templates_weight ts) (body_bound t.body + templates_bound ts)
    (omega (arith, body_paid t.body)) (templates_pay ts) (omega arith) (omega arith)
    (macros_in t.name t.body) (flat_map (λ u. macros_in u.name u.body) ts) (top_macros t.name t.body) (chain_macros ts)

-- ---- The names that scopes bind are no more than the bound names

keywords_count : (ps : Pairs) → length (keywords ps) ≡ pairs_count ps
keywords_count no_pairs = refl
keywords_count (pair x e ps) = omega (arith, keywords_count ps)

mutual
  stmt_scopes : (s : Stmt) → length (set_by s) + length (scope_names_by s) ≤ stmt_bound s
  stmt_scopes (choose bs other) = search (arith, rules, length-append, branch_scopes bs, body_scopes other)
  stmt_scopes (for_each line xs e c body other) =
      search (arith, rules, length-append, body_scopes body, body_scopes other)
  stmt_scopes (set_block line x body) = search (arith, rules, body_scopes body, length-append)
  stmt_scopes (with_values line ps body) = search (arith, rules, keywords_count, length-append, body_scopes body)
  stmt_scopes (filter_block line fs body) = search (arith, rules, body_scopes body, length-append)
  stmt_scopes (autoescape line on body) = search (arith, rules, body_scopes body, length-append)
  stmt_scopes (block line x scoped required body) = search (arith, rules, body_scopes body, length-append)
  stmt_scopes (macro line x ps body) = search (arith, rules, length-map, length-append, body_scopes body)
  stmt_scopes s = omega arith

  body_scopes : (b : Body) → length (set_in b) + length (scope_names_in b) ≤ body_bound b
  body_scopes end = omega arith
  body_scopes (stmt s rest) = search (arith, rules, length-append, stmt_scopes s, body_scopes rest)

  branch_scopes : (bs : Branches) → length (set_under bs) + length (scope_names_under bs) ≤ branch_bound bs
  branch_scopes no_branches = omega arith
  branch_scopes (branch line c body rest) = search (arith, rules, length-append, body_scopes body, branch_scopes rest)

templates_scopes : (ts : List Template) → length (flat_map (λ t. scope_names_in t.body) ts) ≤ templates_bound ts
templates_scopes [] = omega arith
templates_scopes (t ∷ ts) =
    omega (
      arith,
      body_scopes t.body,
      templates_scopes ts,
      length-append (scope_names_in t.body) (flat_map (λ u. scope_names_in u.body) ts),
    )

inserted_len : (x : Text) (ns : List Text) → length (inserted x ns) ≤ suc (length ns)
inserted_len x [] = omega arith
inserted_len x (y ∷ ys) = search (arith, rules, inserted_len x ys)

all_len : (xs ns : List Text) → length (all_inserted xs ns) ≤ length xs + length ns
all_len [] ns = omega arith
all_len (x ∷ xs) ns = omega (arith, all_len xs (inserted x ns), inserted_len x ns)

pub scopes_few : (ts : List Template)
    → length (ascending (flat_map (λ t. scope_names_in t.body) ts)) ≤ templates_bound ts
scopes_few ts = omega (arith, all_len (flat_map (λ t. scope_names_in t.body) ts) [], templates_scopes ts)
