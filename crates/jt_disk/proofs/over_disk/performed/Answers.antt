use Rattle.std.proofs.Common.{arith}
use Rattle.clap.specs.Walk.{texts}
use Rattle.clap.specs.Words.{subcommand_of}
use Rattle.jt_args.specs.Line.{program_app}
use Rattle.jt_program.specs.Commands.{out_of}
use Rattle.jt_disk.proofs.Images.{is_left, same_file}
use Rattle.jt_disk.proofs.over_disk.performed.Goals as goal

pub returns-clause-compiled : goal.returns-clause-compiled
returns-clause-compiled g c done =
    let ends = c.perform.ensures.ends (λ e. absurd (omega (arith, done, e))) (λ e. absurd (omega (arith, done, e))) in
    (is_left c.args.disk.now c.perform.new.files (subcommand_of program_app (texts c.args.words.now))
    (g.W.Sink.taken c.args.out.now) (g.W.Sink.taken c.perform.new.out)
    (g.W.Sink.failed c.perform.new.out) c.perform.result (ends.0, ends.1, ends.2, ends.3) done).0

pub returns-clause-upgraded : goal.returns-clause-upgraded
returns-clause-upgraded g c done =
    let ends = c.perform.ensures.ends (λ e. absurd (omega (arith, done, e))) (λ e. absurd (omega (arith, done, e))) in
    (is_left c.args.disk.now c.perform.new.files (subcommand_of program_app (texts c.args.words.now))
    (g.W.Sink.taken c.args.out.now) (g.W.Sink.taken c.perform.new.out)
    (g.W.Sink.failed c.perform.new.out) c.perform.result (ends.0, ends.1, ends.2, ends.3) done).1

pub returns-clause-others : goal.returns-clause-others
returns-clause-others g c path other =
    same_file c.args.disk.now c.perform.new.files (out_of (subcommand_of program_app (texts c.args.words.now))) path
    c.perform.ensures.only other
