use Rattle.std.proofs.Common.{◌≡◌, ◌++◌, drop}
use Rattle.jt_ast.specs.Texts.{texts}
use Rattle.jt_chains.specs.View.{Seen, chain_view}
use Rattle.jt_codegen.specs.Needs.{missing_in}
use Rattle.jt_codegen.proofs.NeededTemplates.{from}
use Rattle.jt_codegen.proofs.needs.missing_names.Given as goal

abbrev pub invariant-loop-namespace : goal.invariant-loop-namespace
invariant-loop-namespace l =
    texts l.found.items ++ missing_in (from (chain_view l.facts.chain.now) l.namespace)
    ≡ missing_in (chain_view l.facts.chain.now)
