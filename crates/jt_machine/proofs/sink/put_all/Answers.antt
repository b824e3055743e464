use Rattle.jt_machine.proofs.Vocabulary.{nat_tests}
use Rattle.std.proofs.Common.{◌≡◌, ◌∙◌, length, sym, arith}
use Rattle.jt_machine.proofs.SinkWrites.{none_taken, goes_on, front_taken, all_taken}
use Rattle.jt_machine.proofs.DrainedOutput.{on_err}
use Rattle.jt_machine.proofs.sink.put_all.Goals as goal

pub pieces-init : goal.pieces-init
pieces-init g c = record {
  took = none_taken c.args.bytes.now (g.W.Sink.taken c.args.sink.now);
  works = sym c.has_failed.ensures ∙ c.if-has_failed.false;
}

pub pieces-preserved : goal.pieces-preserved
pieces-preserved g c = record {
  took =
      goes_on c.in_ok-count.count c.pieces.rest.now c.args.bytes.now (g.W.Sink.taken c.args.sink.now)
      (g.W.Sink.taken c.pieces.sink) (g.W.Sink.taken c.put.new.self) c.pieces.invariant.took c.in_ok-count.ensures.took;
  works = c.in_ok-count.ensures.works;
}

pub returns-then-has_failed-clause-front : goal.returns-then-has_failed-clause-front
returns-then-has_failed-clause-front g c =
    (c.args.bytes.now, none_taken c.args.bytes.now (g.W.Sink.taken c.args.sink.now))

pub returns-in_err-count-clause-front : goal.returns-in_err-count-clause-front
returns-in_err-count-clause-front g c =
    on_err c.from_residual.result (front_taken c.pieces.rest.now c.args.bytes.now (g.W.Sink.taken c.args.sink.now)
    (g.W.Sink.taken c.pieces.sink) (g.W.Sink.taken c.put.new.self) c.pieces.invariant.took
    c.in_err-count.ensures.nothing)

pub returns-clause-all : goal.returns-clause-all
returns-clause-all g c =
    let le : length c.pieces.rest.now ≡ 0 = grind (arith, nat_tests) in
    all_taken c.pieces.rest.now c.args.bytes.now (g.W.Sink.taken c.args.sink.now) (g.W.Sink.taken c.pieces.sink)
    c.pieces.invariant.took le
