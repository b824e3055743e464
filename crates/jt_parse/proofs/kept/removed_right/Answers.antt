use Rattle.std.proofs.Common.{sym, subst}
use Rattle.std.specs.Str.{chars}
use Rattle.jt_scan.specs.Cut.{EndsWith}
use Rattle.jt_parse.proofs.TrimmedEnds.{empty_end}
use Rattle.jt_parse.proofs.kept.removed_right.Goals as goal

pub returns-else-starts-clause-end : goal.returns-else-starts-clause-end
returns-else-starts-clause-end c =
    subst (EndsWith (chars c.args.text.now)) (sym c.no_end.ensures) (empty_end (chars c.args.text.now))

pub returns-in_default-clause-end : goal.returns-in_default-clause-end
returns-in_default-clause-end c =
    subst (EndsWith (chars c.args.text.now)) (sym c.no_end-in_default.ensures) (empty_end (chars c.args.text.now))
