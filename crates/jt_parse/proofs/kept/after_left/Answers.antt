use Rattle.std.proofs.Common.{sym, subst}
use Rattle.std.specs.Str.{chars}
use Rattle.jt_scan.specs.Cut.{EndsWith}
use Rattle.jt_parse.proofs.TrimmedEnds.{space_end, lf_end}
use Rattle.jt_parse.proofs.kept.after_left.Goals as goal

pub returns-then-options-clause-end : goal.returns-then-options-clause-end
returns-then-options-clause-end c =
    subst (EndsWith (chars c.args.text.now)) (sym c.after_lf.ensures) (lf_end (chars c.args.text.now))

pub returns-in-Block-Minus-clause-end : goal.returns-in-Block-Minus-clause-end
returns-in-Block-Minus-clause-end c =
    subst (EndsWith (chars c.args.text.now)) (sym c.behind_space.ensures) (space_end (chars c.args.text.now))
