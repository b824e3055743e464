use Rattle.jt_codegen.specs.internal.Asked.{asked_of}
use Rattle.jt_codegen.proofs.Findings.{chain_found}
use Rattle.jt_codegen.proofs.explaining.explain_refused.Goals as goal

pub returns : goal.returns
returns g c =
    let asked = asked_of (g.L.Library.sources c.args.library.now) c.args.entry.now c.args.options in
    chain_found asked.given asked.entry asked.options c.args.found.error c.requires.finding.broken c.requires.only
    c.in_ok-found.found c.in_ok-found.ensures

pub chain_finding-requires : goal.chain_finding-requires
chain_finding-requires g c = c.requires.finding.says
