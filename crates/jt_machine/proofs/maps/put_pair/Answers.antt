use Rattle.std.proofs.Common.{ap, ◌∙◌}
use Rattle.jt_value.specs.View.{entries_view}
use Rattle.jt_machine.proofs.MapEntries.{inserted}
use Rattle.jt_machine.proofs.maps.put_pair.Goals as goal

pub returns : goal.returns
returns c =
    ap entries_view c.in_ok-_earlier.ensures.entries
    ∙ inserted c.args.key c.args.value c.args.entries.now.entries
