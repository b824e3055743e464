use Rattle.jt_codegen.specs.internal.Asked.{asked_of}
use Rattle.jt_codegen.proofs.explaining.explain_linked.Goals as goal

pub explain_facts-requires : goal.explain_facts-requires
explain_facts-requires g c =
    let asked = asked_of (g.L.Library.sources c.args.library.now) c.args.entry.now c.args.options in
    record { of = (asked, c.in-Ok.ensures.kept asked c.requires) }

pub returns-in-Ok : goal.returns-in-Ok
returns-in-Ok g c =
    let asked = asked_of (g.L.Library.sources c.args.library.now) c.args.entry.now c.args.options in
    c.explain_facts.ensures asked (c.in-Ok.ensures.kept asked c.requires)

pub explain_refused-requires : goal.explain_refused-requires
explain_refused-requires g c =
    c.in-Err.ensures.refused (asked_of (g.L.Library.sources c.args.library.now) c.args.entry.now c.args.options)
    c.requires
