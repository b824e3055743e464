use Rattle.jt_codegen.specs.internal.Asked.{asked_of}
use Rattle.jt_codegen.proofs.Findings.{faults_asked}
use Rattle.jt_codegen.proofs.linking.linked_chain.Goals as goal

pub returns-clause-refused : goal.returns-clause-refused
returns-clause-refused g c =
    faults_asked (asked_of (g.L.Library.sources c.args.library.now) c.args.entry.now c.args.options) c.link.result
    c.link.ensures.refused c.link.ensures.only
