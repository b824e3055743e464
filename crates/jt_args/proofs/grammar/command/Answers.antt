use Rattle.std.proofs.Common.{rules}
use Rattle.jt_args.specs.internal.Grammar.{app_for}
use Rattle.jt_args.proofs.Adding.{argument_added, arguments_done}
use Rattle.jt_args.proofs.grammar.command.Goals as goal

pub loop-wanted-init : goal.loop-wanted-init
loop-wanted-init c = search rules

pub loop-wanted-preserved : goal.loop-wanted-preserved
loop-wanted-preserved c =
    argument_added (app_for c.args.form.now) c.loop-wanted.command c.in_ok-command.command c.arg.result
    c.args.form.now.arguments.now c.loop-wanted.wanted-index _
    c.loop-wanted-test.true c.arg.ensures.rule c.arg.ensures.local c.in_ok-command.ensures c.loop-wanted.invariant

pub returns : goal.returns
returns c =
    arguments_done (app_for c.args.form.now) c.loop-wanted.command c.args.form.now.arguments.now
    c.loop-wanted.wanted-index
    c.loop-wanted.auto.wanted-index-end c.loop-wanted-test.false c.loop-wanted.invariant
