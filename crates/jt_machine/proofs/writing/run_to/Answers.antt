use Rattle.jt_value.specs.ContextView.{pairs_of}
use Rattle.jt_machine.proofs.writing.run_to.Goals as goal

pub returns-clause-safe : goal.returns-clause-safe
returns-clause-safe g c =
    (c.code_laws.ensures.runs c.args.verified.now c.image.ensures.whole c.image.ensures.typed).safe

pub returns-clause-alike : goal.returns-clause-alike
returns-clause-alike g c = c.code_laws.ensures.alike c.args.verified.now (pairs_of c.args.context.now)
