use Rattle.std.proofs.Common.{codes, rules, true, arith}
use Rattle.clap.specs.Words.{App, new_app, with_subcommand}
use Rattle.jt_args.specs.Line.{check_app, compile_app, explain_app, needs_app, render_app, run_app, show_app, turns_app}
use Rattle.jt_args.specs.Line.{upgrade_app}
use Rattle.jt_args.proofs.grammar.program.Goals as goal

-- The program without its commands.
abbrev bare : App
bare = let a = new_app (codes "jt") in record a {
  top =
      record
      a.top { no_binary_name = true; has_version = true; disable_help_subcommand = true; subcommand_required = true };
}

-- A program with the commands of the table added.
abbrev with_all : App → App
with_all a =
    with_subcommand (with_subcommand (with_subcommand (with_subcommand (with_subcommand
    (with_subcommand (with_subcommand (with_subcommand (with_subcommand a compile_app.top) explain_app.top)
    check_app.top)
    show_app.top)
    run_app.top)
    render_app.top)
    turns_app.top)
    upgrade_app.top)
    needs_app.top

pub returns : goal.returns
returns c = search (arith, rules)
