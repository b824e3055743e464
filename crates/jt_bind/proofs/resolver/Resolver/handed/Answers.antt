use Rattle.jt_bind.proofs.resolver.Resolver.handed.Goals as goal

pub returns-else-with_context : goal.returns-else-with_context
returns-else-with_context c = rw c.if-with_context.false c.reading-else-with_context.ensures
