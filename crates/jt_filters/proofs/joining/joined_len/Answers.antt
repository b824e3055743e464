use Rattle.std.proofs.Common.{arith}
use Rattle.jt_filters.proofs.JoinLengths.{joined_lengths}
use Rattle.jt_filters.proofs.joining.joined_len.Goals as goal

pub returns-in_ok-piece_len-in-Some : goal.returns-in_ok-piece_len-in-Some
returns-in_ok-piece_len-in-Some c = grind (arith, joined_lengths)
