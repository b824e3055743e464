use Rattle.std.proofs.Common.{◌≡◌, drop}
use Rattle.clap.specs.Words.{app_of}
use Rattle.jt_args.specs.internal.Grammar.{with_commands}
use Rattle.jt_args.proofs.grammar.add_commands.Given as goal

-- With the remaining commands, the program is the wanted one.
abbrev pub invariant-loop-form : goal.invariant-loop-form
invariant-loop-form l =
    with_commands (app_of l.program) (drop l.form-index l.forms) ≡ with_commands (app_of l.initial.program) l.forms
