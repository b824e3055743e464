use Rattle.jt_names.proofs.facts.ChainFacts.count_in_library.Goals as goal
use Rattle.std.proofs.lemmas.Option.{slice_get_past}
use Rattle.jt_chains.specs.Chain.{a_library, holds_macros, Template, sources_in}
use Rattle.jt_chains.specs.Indices.{index_of}
use Rattle.jt_chains.specs.Uses.{own_names, body_names}
use Rattle.jt_names.proofs.{file_at, named, arith, rules, tests, length-map, its_templates, List, Text, ℕ, ◌≡◌}
use Rattle.jt_names.proofs.{if◌then◌else◌, body_at, length, ascending, append-nil}

-- The facts of a library's template have the number of its names, and another template has no names as a library.
library_counted : (ts : List Template) (n : Text) (i : ℕ) → i ≡ index_of ts n
    → (if holds_macros (body_at ts i) then length (ascending (body_names (body_at ts i))) else 0)
    ≡ length (ascending (own_names (sources_in ts) (a_library n)))
library_counted ts n i e = rw (e, named ts n) (search (arith, rules, append-nil))

pub index-requires : goal.index-requires
index-requires c = grind (arith, length-map, tests)

pub returns-in-Some : goal.returns-in-Some
returns-in-Some c =
    let counted = library_counted (its_templates c.args.self.now.chain.now) _ _ c.file_named-index.ensures in
    let facts = c.args.self.now.known.templates.each c.file_named-index.result c.index.result.now
    (grind (arith, length-map, tests)) c.index.ensures in
    let names = facts.names in
    grind (arith, length-map, tests, file_at)

pub returns-in_default : goal.returns-in_default
returns-in_default c =
    let counted = library_counted (its_templates c.args.self.now.chain.now) _ _ c.file_named-index.ensures in
    grind (arith, length-map, tests, file_at)

pub returns-in_default-2 : goal.returns-in_default-2
returns-in_default-2 c =
    let counted = library_counted (its_templates c.args.self.now.chain.now) _ _ c.file_named-index.ensures in
    search (arith, rules, length-map, slice_get_past, counted)
