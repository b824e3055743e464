use Rattle.std.proofs.Common.{ap, ◌∙◌}
use Rattle.std.specs.Option.{is_some}
use Rattle.jt_expr.specs.Named.{is_test}
use Rattle.jt_codegen.proofs.unknown.is_test.Goals as goal

pub returns : goal.returns
unfolding is_test
returns c = c.is_some.ensures ∙ ap is_some c.by_name.ensures.value
