-- Includes that are collected by one function, in terms of those collected by another one.
use Rattle.jt_ast.specs.Statements
use Statements.{Stmt, macro, Body, end, stmt, choose, for_each, set_block, with_values, filter_block, autoescape, block}
use Statements.{Branches, no_branches, branch}
use Rattle.std.proofs.lemmas.Grind.{flat_map-append}
use Rattle.std.specs.Prelude.{flat_map}
use Rattle.jt_chains.specs.Includes.{includes_by, includes_in, includes_under, need, needs_in}
use Rattle.jt_chains.proofs.Vocabulary
use Vocabulary.{◌≡◌, Bool, List, [], ◌∷◌, ◌++◌, refl, arith, rules, append-nil, Template, include_need, Need, needed}

-- The names of includes are the needed ones.
module _ (all : Bool) where
  pub needed-append : (ns ms : List Need) → needed all (ns ++ ms) ≡ needed all ns ++ needed all ms
  needed-append = flat_map-append (λ n. need all n.name n.ignoring)

  mutual
    by_statement : (s : Stmt) → needed all (includes_by include_need s) ≡ includes_by (need all) s
    by_statement (choose bs other) = rw (needed-append, by_branches bs, by_body other)
    by_statement (for_each line xs e c body other) = rw (needed-append, by_body body, by_body other)
    by_statement (set_block line x body) = by_body body
    by_statement (with_values line ps body) = by_body body
    by_statement (filter_block line fs body) = by_body body
    by_statement (autoescape line on body) = by_body body
    by_statement (macro line x ps body) = by_body body
    by_statement (block line x scoped required body) = by_body body
    by_statement s = search (arith, rules, append-nil)

    pub by_body : (b : Body) → needed all (includes_in include_need b) ≡ needs_in all b
    by_body end = refl
    by_body (stmt s rest) = rw (needed-append, by_statement s, by_body rest)

    by_branches : (bs : Branches) → needed all (includes_under include_need bs) ≡ includes_under (need all) bs
    by_branches no_branches = refl
    by_branches (branch line c body rest) = rw (needed-append, by_body body, by_branches rest)

  pub by_templates : (ts : List Template)
      → needed all (flat_map (λ t. includes_in include_need t.body) ts) ≡ flat_map (λ t. needs_in all t.body) ts
  by_templates [] = refl
  by_templates (t ∷ ts) = rw (needed-append, by_body t.body, by_templates ts)
