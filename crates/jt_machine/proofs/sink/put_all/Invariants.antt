use Rattle.jt_machine.proofs.Vocabulary.{TookTo}
use Rattle.std.proofs.Common.{◌≡◌, false, length}
use Rattle.jt_machine.proofs.sink.put_all.Given as goal

abbrev pub invariant-pieces : goal.invariant-pieces
invariant-pieces g l = record {
  took : TookTo l.rest l.fn.bytes (g.W.Sink.taken l.fn.sink) (g.W.Sink.taken l.sink);
  works : g.W.Sink.failed l.sink ≡ false;
}

abbrev pub decreases-pieces : goal.decreases-pieces
decreases-pieces g l = length l.rest
