use Rattle.std.proofs.Common.{◌≡◌, drop}
use Rattle.jt_parse.specs.Tags.{defaults_last, defaults_from}
use Rattle.jt_ast.specs.StatementView.{parameters_view}
use Rattle.jt_parse.proofs.tags.defaults_are_last.Given as goal

abbrev pub invariant-loop-parameter : goal.invariant-loop-parameter
invariant-loop-parameter l =
    defaults_last (parameters_view l.parameters)
    ≡ defaults_from l.defaults (parameters_view (drop l.parameter-index l.parameters))
