use Rattle.std.proofs.Common.{rules}
use Rattle.std.specs.Str.{chars}
use Rattle.jt_parse.specs.internal.SideView.{test_of}
use Rattle.jt_parse.proofs.TrimmedEnds.{run_none, run_passes, run_breaks, run_value, run_starts, turned, unturned}
use Rattle.jt_parse.proofs.kept.ending.Goals as goal

pub text-init : goal.text-init
text-init c = (search rules, search rules, run_none (test_of c.args.space) c.args.start (chars c.args.text.now))

pub text-preserved-then-not-passes : goal.text-preserved-then-not-passes
text-preserved-then-not-passes c = (
  search rules,
  search rules,
  run_breaks (test_of c.args.space) c.args.start (chars c.args.text.now) c.text.starts (chars c.text.run.now)
      (chars c.text.rest.now) c.in-Some.c (chars c.in-Some.more.now) _ c.text.invariant.2 c.in-Some.ensures
      (unturned _ _ c.passes.ensures c.if-not-passes.true) (search rules),
)

pub text-preserved : goal.text-preserved
text-preserved c = (
  search rules,
  search rules,
  run_passes (test_of c.args.space) c.args.start (chars c.args.text.now) c.text.starts (chars c.text.run.now)
      (chars c.text.rest.now) c.in-Some.c (chars c.in-Some.more.now) c.text.invariant.2 c.in-Some.ensures
      (turned _ _ c.passes.ensures c.if-not-passes.false),
)

pub returns-clause-value : goal.returns-clause-value
returns-clause-value c =
    run_value (test_of c.args.space) c.args.start (chars c.args.text.now) c.text.starts (chars c.text.run.now)
    (chars c.text.rest.now) c.text.invariant.2 c.in_default.ensures

pub returns-clause-starts : goal.returns-clause-starts
returns-clause-starts c =
    run_starts (test_of c.args.space) c.args.start (chars c.args.text.now) c.text.starts (chars c.text.run.now)
    (chars c.text.rest.now) c.text.invariant.2 c.in_default.ensures
