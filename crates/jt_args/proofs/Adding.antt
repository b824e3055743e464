-- Loops that add arguments to a command and commands to a program.
use Rattle.std.proofs.Common.{◌≡◌, ◌∙◌, ◌<◌, ◌≤◌, ◌+◌, ℕ, Bool, true, false, List, [], ◌∷◌, add-one, ap, drop, get_or}
use Rattle.std.proofs.Common.{length, refl, arith, sym, rules}
use Rattle.std.specs.Prelude.{◌||◌}
use Rattle.std.proofs.Math.Seq.{drop-cons, drop-length}
use Rattle.clap.specs.Words.{AddsArg, AddsSubcommand, App, app_of, rule_of}
use Rattle.clap.specs.declared.builder.Arg.{Arg}
use Rattle.clap.specs.declared.builder.Command.{Command}
use Rattle.clap.specs.declared.builder.Command.TheViews.{out-Command as fields_of}
use Rattle.jt_args.specs.declared.grammar.Argument.{Argument}
use Rattle.jt_args.specs.declared.grammar.CommandForm.{CommandForm}
use Rattle.jt_args.specs.internal.Grammar.{app_for, rule_for, with_arguments, with_commands}

or_false : (b : Bool) → (b || false) ≡ b
or_false true = refl
or_false false = refl

none_left : {A : Type 0} (xs : List A) (i : ℕ) → i ≤ length xs → length xs ≤ i → drop i xs ≡ []
none_left xs i most least =
    let all : i ≡ length xs = omega (arith, most, least) in
    ap (λ (n : ℕ). drop n xs) all ∙ drop-length xs

one_less : {A : Type 0} (xs : List A) (i : ℕ) (d : A) → i < length xs → drop i xs ≡ get_or xs i d ∷ drop (i + 1) xs
one_less xs i d below = rw add-one (drop-cons xs i d below)

-- After one argument is added, adding the remaining ones still makes the target.
pub argument_added : (target : App) (old new : Command) (made : Arg) (xs : List Argument) (i : ℕ) (d : Argument)
    → i < length xs → rule_of made ≡ rule_for (get_or xs i d) → made.global ≡ false → AddsArg old made new
    → (with_arguments (app_of old) (drop i xs) ≡ target) × ((fields_of old).has_globals ≡ false)
    → (with_arguments (app_of new) (drop (i + 1) xs) ≡ target) × ((fields_of new).has_globals ≡ false)
argument_added target old new made xs i d below rule local added before = search (arith, rules, one_less, or_false)

pub arguments_done : (target : App) (made : Command) (xs : List Argument) (i : ℕ) → i ≤ length xs → length xs ≤ i
    → (with_arguments (app_of made) (drop i xs) ≡ target) × ((fields_of made).has_globals ≡ false)
    → (app_of made ≡ target) × ((fields_of made).has_globals ≡ false)
arguments_done target made xs i most least before =
    (sym (ap (λ ys. with_arguments (app_of made) ys) (none_left xs i most least)) ∙ before.0, before.1)

-- After one command is added, adding the remaining ones still makes the target.
pub command_added : (target : App) (old part new : Command) (xs : List CommandForm) (i : ℕ) (d : CommandForm)
    → i < length xs → (app_of part ≡ app_for (get_or xs i d)) × ((fields_of part).has_globals ≡ false)
    → AddsSubcommand old part new
    → with_commands (app_of old) (drop i xs) ≡ target → with_commands (app_of new) (drop (i + 1) xs) ≡ target
command_added target old part new xs i d below made added before = search (arith, rules, one_less)

pub commands_done : (target : App) (made : Command) (xs : List CommandForm) (i : ℕ) → i ≤ length xs → length xs ≤ i
    → with_commands (app_of made) (drop i xs) ≡ target → app_of made ≡ target
commands_done target made xs i most least before =
    sym (ap (λ ys. with_commands (app_of made) ys) (none_left xs i most least)) ∙ before
