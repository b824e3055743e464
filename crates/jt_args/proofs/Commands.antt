-- A line that the program takes names one of its commands.
use Rattle.std.proofs.Common.{◌≡◌, Bool, true, false, not, List, [], ◌∷◌, Option, Some, None, ap, refl, is_some}
use Rattle.std.proofs.Common.{option_map, find, cond, ◌&&◌, ◌⊎◌, inl, inr, arith, rules}
use Rattle.clap.specs.Words.{App, Kinds, Shape, Text, subcommand_of, built, is_simple_and_free, is_simple}
use Rattle.clap.specs.Faults.{level_fault, entered_fault}
use Rattle.clap.specs.Kinds.{check_kinds, or_else}
use Rattle.clap.specs.Simple.{built_leaf, inherited, marked_built, with_leaf_noted, argument_words, entered, label_of}
use Rattle.clap.specs.Simple.{names_of, rows_at}
use Rattle.clap.specs.Walk.{Names, answers_to, nothing_held, stop_after, Held}
use Rattle.clap.proofs.OnLiterals.{clap_on_literals}
use Rattle.jt_args.specs.Line.{program_app, compile_app, explain_app, check_app, show_app, run_app, render_app}
use Rattle.jt_args.specs.Line.{needs_app, turns_app, upgrade_app, IsClear, IsKnown}
use Rattle.jt_args.proofs.Passed.{neither}

-- A command is required, so a line without a fault has one.
has_command : (help given wanted has : Bool) → check_kinds (not has && (help && given)) (not has && true) wanted ≡ []
    → has ≡ true
has_command help given wanted has a4 = search (arith, rules)

-- The name is that of one of the commands.
abbrev IsOneOf : Option Text → List Shape → Type 0
IsOneOf name [] = ⊥
IsOneOf name (s ∷ rest) = (name ≡ Some s.name) ⊎ IsOneOf name rest

-- If a command was found, it is one of `shapes`.
named_in : (shapes : List Shape) (name : Text) (words : List Text) (o : Option Shape)
    → o ≡ find (λ x. answers_to name (label_of x)) shapes
    → is_some (option_map (λ x. rows_at x words) o) ≡ true
    → IsOneOf (option_map (λ p. p.0) (option_map (λ x. rows_at x words) o)) shapes
named_in shapes name words None f e = absurd (cc)
named_in [] name words (Some x) f e = absurd (cc)
named_in (s ∷ rest) name words (Some x) f e =
    found (answers_to name (label_of s)) f (λ d. named_in rest name words (Some x) d e) where
      found : (b : Bool) → Some x ≡ cond b (Some s) (find (λ x. answers_to name (label_of x)) rest)
          → (Some x ≡ find (λ x. answers_to name (label_of x)) rest → IsOneOf (Some x.name) rest)
          → IsOneOf (Some x.name) (s ∷ rest)
      found true d below = inl (ap (option_map (λ y. y.name)) d)
      found false d below = inr (below d)

met : (a : App) (shapes : List Shape) (stop : Option (Text × List Text)) → a.subs ≡ shapes
    → is_some (entered a stop) ≡ true
    → IsOneOf (option_map (λ p. p.0) (entered a stop)) shapes
met a shapes None e h = absurd (cc)
met a shapes (Some p) e h =
    named_in shapes p.0 p.1 (find (λ x. answers_to p.0 (label_of x)) a.subs)
    (ap (find (λ x. answers_to p.0 (label_of x))) e) h

pub is_clear : is_simple_and_free program_app ≡ true
unfolding clap_on_literals
is_clear = refl

pub is_read : is_simple program_app ≡ true
unfolding clap_on_literals
is_read = refl

last_clear : (a b c d e : Kinds) → or_else a (or_else b (or_else c (or_else d e))) ≡ [] → e ≡ []
last_clear a b c d e h = (neither d e (neither c _ (neither b _ (neither a _ h).1).1).1).1

-- A command, as clap builds it.
abbrev built_sub : App → Shape
built_sub a = built_leaf (inherited (with_leaf_noted (marked_built program_app.top)) a.top)

abbrev shapes : List Shape
shapes =
    built_sub compile_app ∷ built_sub explain_app ∷ built_sub check_app ∷ built_sub show_app ∷ built_sub run_app
    ∷ built_sub render_app ∷ built_sub turns_app ∷ built_sub upgrade_app
    ∷ built_sub needs_app ∷ []

all_built : (built program_app).subs ≡ shapes
unfolding clap_on_literals
all_built = refl

level_clear : (s : Shape) (names : Names) (h : Held) (words : List Text) (has : Bool) (below : Kinds)
    → s.subcommand_required ≡ true
    → level_fault s names h words has below ≡ [] → has ≡ true
level_clear s names h words has below want e = search (arith, rules, last_clear, has_command)

wants_command : (built program_app).top.subcommand_required ≡ true
unfolding clap_on_literals
wants_command = refl

-- One of nine propositions holds, since the tenth case is impossible.
of_nine : (A B C D E F G H I : Type 0) → A ⊎ (B ⊎ (C ⊎ (D ⊎ (E ⊎ (F ⊎ (G ⊎ (H ⊎ (I ⊎ ⊥))))))))
    → A ⊎ (B ⊎ (C ⊎ (D ⊎ (E ⊎ (F ⊎ (G ⊎ (H ⊎ I)))))))
of_nine a0 a1 a2 a3 a4 a5 a6 a7 a8 a9 = search (arith, rules)

pub named : (words : List Text) → IsClear words → IsKnown (option_map (λ p. p.0) (subcommand_of program_app words))
named words e =
    let a : App = built program_app in
    let line : List Text = argument_words program_app words in
    let stop : Option (Text × List Text) = stop_after a.top.rules (names_of a) line in
    of_nine _ _ _ _ _ _ _ _ _ (met a shapes stop all_built
    (level_clear a.top (names_of a) nothing_held line (is_some (entered a stop)) (entered_fault a stop) wants_command
    e))
