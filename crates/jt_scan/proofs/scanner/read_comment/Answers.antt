use Rattle.std.specs.Str.{chars}
use Rattle.jt_scan.proofs.TokenLoop.{comment_open}
use Rattle.jt_scan.proofs.scanner.read_comment.Goals as goal

pub returns-in-None : goal.returns-in-None
returns-in-None c =
    comment_open c.args.line (chars c.args.text.now) (chars c.split_comment.result.0.now)
    (chars c.split_comment.result.1.now) c.split_comment.ensures c.in-None.ensures
