use Rattle.std.proofs.Common.{ap, ◌∙◌}
use Rattle.jt_ids.specs.FilterTable.{filter_meant}
use Rattle.jt_ast.specs.Written.{filter_written}
use Rattle.jt_ast.proofs.written.filter_of.Goals as goal

pub returns : goal.returns
unfolding filter_written
returns c = c.named.ensures ∙ ap (filter_meant c.args.name.now) c.only_name.ensures
