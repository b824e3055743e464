use Rattle.std.proofs.Common.{ap, ◌∙◌, arith}
use Rattle.std.proofs.lemmas.List.{length-map}
use Rattle.jt_ast.specs.Texts.{texts}
use Rattle.jt_chains.specs.View.{chain_view}
use Rattle.jt_codegen.proofs.NeededTemplates.{one_more}
use Rattle.jt_names.proofs.FactsByIndex.{known_at}
use Rattle.jt_codegen.proofs.needs.missing_names.Goals as goal

pub index-known-requires : goal.index-known-requires
index-known-requires c = omega (arith, c.args.facts.now.known.all)

pub loop-namespace-preserved : goal.loop-namespace-preserved
loop-namespace-preserved c =
    let known =
    known_at c.args.facts.now c.loop-namespace.namespace c.index-known.result.now (omega arith) c.index-known.ensures in
    one_more (chain_view c.args.facts.now.chain.now) c.loop-namespace.namespace (texts c.loop-namespace.found.items)
    (texts c.add_missing.new.found.items) (texts c.deref.result.now) (simp length-map (omega arith))
    (ap texts c.deref.ensures.value ∙ known.all_includes) c.in_ok-add_missing.ensures c.loop-namespace.invariant
