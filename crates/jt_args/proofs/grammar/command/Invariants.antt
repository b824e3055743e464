use Rattle.std.proofs.Common.{◌≡◌, false, drop}
use Rattle.clap.specs.Words.{app_of}
use Rattle.clap.specs.declared.builder.Command.TheViews.{out-Command as fields_of}
use Rattle.jt_args.specs.internal.Grammar.{app_for, with_arguments}
use Rattle.jt_args.proofs.grammar.command.Given as goal

-- With the remaining arguments, the command is the wanted one.
abbrev pub invariant-loop-wanted : goal.invariant-loop-wanted
invariant-loop-wanted l =
    (with_arguments (app_of l.command) (drop l.wanted-index l.form.arguments.now) ≡ app_for l.form)
    × ((fields_of l.command).has_globals ≡ false)
