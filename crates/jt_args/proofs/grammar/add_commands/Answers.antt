use Rattle.std.proofs.Common.{refl, arith, rules}
use Rattle.clap.specs.Words.{app_of}
use Rattle.jt_args.specs.internal.Grammar.{with_commands}
use Rattle.jt_args.proofs.Adding.{command_added, commands_done}
use Rattle.jt_args.proofs.grammar.add_commands.Goals as goal

pub loop-form-init : goal.loop-form-init
loop-form-init c = refl

pub loop-form-preserved : goal.loop-form-preserved
loop-form-preserved c =
    command_added (with_commands (app_of c.args.program) c.args.forms.now) c.loop-form.program c.in_ok-command.field-0
    c.in_ok-program.program c.args.forms.now c.loop-form.form-index _
    c.loop-form-test.true c.in_ok-command.ensures c.in_ok-program.ensures c.loop-form.invariant

pub returns : goal.returns
returns c = search (arith, rules, commands_done)
