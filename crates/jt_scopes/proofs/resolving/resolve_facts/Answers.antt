use Rattle.jt_chains.specs.View.{chain_view}
use Rattle.jt_ir.specs.View.{program_of}
use Rattle.jt_scopes.proofs.ProgramCorrect.{meant}
use Rattle.jt_scopes.proofs.resolving.resolve_facts.Goals as goal

pub returns-clause-means : goal.returns-clause-means
returns-clause-means c =
    meant c.program_laws.ensures (chain_view c.args.facts.now.chain.now) (program_of c.in_ok-resolved.field-0)
    c.in_ok-resolved.ensures
