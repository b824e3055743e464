-- The names that scopes bind, and the blocks whose tags have `scoped`, in the order of the tree.
use Rattle.std.proofs.Common.{◌≡◌, true, false, List, [], ◌∷◌, ◌++◌, refl, ap, ◌⊎◌, inl, inr}
use Rattle.std.proofs.Common.{arith, rules}
use Rattle.std.specs.Prelude.{flat_map}
use Rattle.jt_ast.specs.Texts.{inserted, all_inserted, ascending}
use Rattle.jt_ast.specs.Expressions.{Text}
use Rattle.jt_ast.specs.Statements.{Stmt, choose, for_each, set_block, with_values, filter_block, autoescape, macro}
use Rattle.jt_ast.specs.Statements.{block, Body, end, stmt, Branches, no_branches, branch}
use Rattle.jt_chains.specs.Chain.{Namespace, Template, templates}
use Rattle.jt_chains.specs.Uses.{stmt_names, body_names, branch_names, set_in}
use Rattle.jt_chains.specs.Uses.{scope_names_by, scope_names_in, scope_names_under, scope_names}
use Rattle.jt_rules.specs.CompileEnv.{CompileEnv}
use Rattle.jt_semantics.proofs.EnvLookup.{same_text, is_same, no_both}
use Rattle.jt_semantics.proofs.StatementCorrect.{Scoping, a_tag, a_name, named, scoped_by, scoped_in, scoped_under}
use Rattle.jt_semantics.proofs.StatementCorrect.{in_among}
use Rattle.jt_semantics.proofs.Among.{Among, AllAmong, all_ascending, among_front, among_back, each_among, among_both}
use Rattle.jt_semantics.proofs.Among.{all_among}

-- ---- The names alone

abbrev pub names_of : List Scoping → List Text
names_of [] = []
names_of (a_tag x ∷ ss) = names_of ss
names_of (a_name x ∷ ss) = x ∷ names_of ss

names_behind : (xs : List Text) (ss : List Scoping) → names_of (named xs ++ ss) ≡ xs ++ names_of ss
names_behind [] ss = refl
names_behind (x ∷ xs) ss = ap (λ ys. x ∷ ys) (names_behind xs ss)

names_append : (ss ts : List Scoping) → names_of (ss ++ ts) ≡ names_of ss ++ names_of ts
names_append [] ts = refl
names_append (a_tag x ∷ ss) ts = names_append ss ts
names_append (a_name x ∷ ss) ts = ap (λ ys. x ∷ ys) (names_append ss ts)

mutual
  stmt_scopes : (s : Stmt) → names_of (scoped_by s) ≡ scope_names_by s
  stmt_scopes (block line x true required body) = scope_scopes body
  stmt_scopes (block line x false required body) = scope_scopes body
  stmt_scopes (choose bs other) =
      search (arith, rules, names_append, scoped_under, scoped_in, branches_scopes bs, body_scopes other)
  stmt_scopes (for_each line xs e c body other) =
      search (arith, rules, names_behind, named, scoped_in, names_append, body_scopes body, body_scopes other)
  stmt_scopes (set_block line x body) = scope_scopes body
  stmt_scopes (with_values line ps body) = search (arith, rules, names_behind, named, scoped_in, scope_scopes body)
  stmt_scopes (filter_block line fs body) = scope_scopes body
  stmt_scopes (autoescape line on body) = scope_scopes body
  stmt_scopes (macro line x ps body) = search (arith, rules, names_behind, named, scoped_in, scope_scopes body)
  stmt_scopes s = refl

  scope_scopes : (body : Body) → names_of (named (set_in body) ++ scoped_in body) ≡ set_in body ++ scope_names_in body
  scope_scopes end = refl
  scope_scopes (stmt s rest) =
      search (arith, rules, names_behind, scoped_by, scoped_in, names_append, stmt_scopes s, body_scopes rest)

  body_scopes : (body : Body) → names_of (scoped_in body) ≡ scope_names_in body
  body_scopes end = refl
  body_scopes (stmt s rest) = search (arith, rules, names_append, scoped_by, scoped_in, stmt_scopes s, body_scopes rest)

  branches_scopes : (bs : Branches) → names_of (scoped_under bs) ≡ scope_names_under bs
  branches_scopes no_branches = refl
  branches_scopes (branch line c body rest) =
      search (arith, rules, names_append, scoped_in, scoped_under, body_scopes body, branches_scopes rest)

templates_scopes : (ts : List Template)
    → names_of (flat_map (λ t. scoped_in t.body) ts) ≡ flat_map (λ t. scope_names_in t.body) ts
templates_scopes [] = refl
templates_scopes (t ∷ ts) = search (arith, rules, names_append, scoped_in, body_scopes, templates_scopes ts)

-- The scopes of a chain bind exactly the names that its templates bind in scopes.
pub scopes_bound : (cenv : CompileEnv) (h : Namespace)
    → AllAmong (names_of (flat_map (λ t. scoped_in t.body) (templates cenv.sources h))) (scope_names cenv.sources h)
scopes_bound cenv h = search (arith, rules, templates_scopes, all_ascending)

-- ---- The names that scopes bind are among the names of the templates

mutual
  stmt_binds : (s : Stmt) (ns : List Text) → AllAmong (stmt_names s) ns → AllAmong (scope_names_by s) ns
  stmt_binds (block line x scoped required body) ns a = scope_binds body ns a
  stmt_binds (choose bs other) ns a =
      search (arith, rules, among_both, among_front, among_back, branches_bind bs ns, body_binds other ns)
  stmt_binds (for_each line xs e c body other) ns a =
      search (arith, rules, among_back, among_front, among_both, in_among, body_binds body ns, body_binds other ns)
  stmt_binds (set_block line x body) ns a = scope_binds body ns a.1
  stmt_binds (with_values line ps body) ns a =
      search (arith, rules, among_back, among_both, among_front, scope_binds body ns)
  stmt_binds (filter_block line fs body) ns a = search (arith, rules, scope_binds body ns, among_front)
  stmt_binds (autoescape line on body) ns a = scope_binds body ns a
  stmt_binds (macro line x ps body) ns a =
      search (arith, rules, among_both, among_front, among_back, scope_binds body ns)
  stmt_binds s ns a = tt

  scope_binds : (body : Body) (ns : List Text) → AllAmong (body_names body) ns
      → AllAmong (set_in body ++ scope_names_in body) ns
  scope_binds end ns a = tt
  scope_binds (stmt s rest) ns a =
      search (arith, rules, among_both, in_among, among_front, among_back, stmt_binds s ns, body_binds rest ns)

  body_binds : (body : Body) (ns : List Text) → AllAmong (body_names body) ns → AllAmong (scope_names_in body) ns
  body_binds end ns a = tt
  body_binds (stmt s rest) ns a =
      search (arith, rules, among_both, among_front, among_back, stmt_binds s ns, body_binds rest ns)

  branches_bind : (bs : Branches) (ns : List Text) → AllAmong (branch_names bs) ns → AllAmong (scope_names_under bs) ns
  branches_bind no_branches ns a = tt
  branches_bind (branch line c body rest) ns a =
      search (arith, rules, among_back, among_both, body_binds body ns, among_front, branches_bind rest ns)

pub templates_bind : (ts : List Template) (ns : List Text) → AllAmong (flat_map (λ t. body_names t.body) ts) ns
    → AllAmong (flat_map (λ t. scope_names_in t.body) ts) ns
templates_bind [] ns a = tt
templates_bind (t ∷ ts) ns a =
    search (arith, rules, among_both, body_binds, among_front, among_back, templates_bind ts ns)

-- ---- The names in order are among the names before they were ordered

inserted_from : (x z : Text) (ns : List Text) → Among z (inserted x ns) → (x ≡ z) ⊎ Among z ns
inserted_from x z [] (inl e) = inl e
inserted_from x z [] (inr i) = absurd i
inserted_from x z (y ∷ ys) i = search (arith, rules, inserted_from x z ys)

all_from : (xs : List Text) (z : Text) (ns : List Text) → Among z (all_inserted xs ns) → Among z xs ⊎ Among z ns
all_from [] z ns i = inr i
all_from (x ∷ xs) z ns i = search (arith, rules, all_from xs z (inserted x ns) i, inserted_from)

pub ascending_from : (xs : List Text) (z : Text) → Among z (ascending xs) → Among z xs
ascending_from xs z i = search (arith, rules, all_from xs z [] i)

pub ascending_among : (xs ns : List Text) → AllAmong xs ns → AllAmong (ascending xs) ns
ascending_among xs ns a = all_among (ascending xs) ns (λ y i. each_among xs ns a y (ascending_from xs y i))

-- A name is among these names or it is not.
pub among_or_not : (x : Text) (xs : List Text) → Among x xs ⊎ (Among x xs → ⊥)
among_or_not x [] = inr (λ i. i)
among_or_not x (y ∷ ys) = search (arith, rules, among_or_not x ys, same_text y x, no_both, is_same y x)
