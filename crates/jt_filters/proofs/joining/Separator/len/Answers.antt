use Rattle.std.proofs.Common.{true}
use Rattle.jt_escape.specs.Joining.{piece}
use Rattle.jt_filters.specs.internal.Operands.{tree_of}
use Rattle.jt_filters.proofs.JoinLengths.{counted_length}
use Rattle.jt_filters.proofs.joining.Separator.len.Goals as goal

pub returns-in-Some : goal.returns-in-Some
returns-in-Some c =
    rw c.if-escaping.true
    (counted_length (piece true (tree_of c.args.self.operand)) c.in-Some.len
    (rw c.in-Some.is at c.args.self.counted))
