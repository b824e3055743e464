-- The options and flags of a line that the program takes have texts that their parsers accept.
use Rattle.std.proofs.Common.{◌≡◌, ◌&&◌, ◌||◌, ◌==◌, ◌<◌, ◌≤◌, ◌^◌, ℕ, Bool, true, false, not, codes, List, [], ◌∷◌}
use Rattle.std.proofs.Common.{Option, Some, None, ap₂, arith, refl, subst, sym}
use Rattle.std.specs.Prelude.{IfSome, find, option_map, pos}
use Rattle.std.specs.List.{AllByRecursion, list_all}
use Rattle.std.specs.Option.{option_map_or}
use Rattle.std.specs.Str.{bytes_eq}
use Rattle.std.specs.Str.Parse.{digits_value, without_leading_plus}
use Rattle.std.proofs.lemmas.Bool.{eqb-true, not-true, true≢false}
use Rattle.clap.specs.Facts.{parser_of_value}
use Rattle.clap.specs.Faults.{entered_fault, level_fault}
use Rattle.clap.specs.Kinds.{Kinds}
use Rattle.clap.specs.Simple.{argument_words, entered, label_of, names_of, rows_at}
use Rattle.clap.specs.Walk.{Held, Names, answers_to, nothing_held, stop_after}
use Rattle.clap.specs.Words.{App, Row, Rule, Shape, Text, built, fault_of, one_of, subcommand_of}
use Rattle.clap.specs.declared.builder.ValueParser.{ValueParser}
use Rattle.clap.specs.declared.builder.ValueParser.TheVariants as parser
use Rattle.clap.proofs.OnLiterals.{clap_on_literals}
use Rattle.clap.proofs.WalkLemmas.{both}
use Rattle.jt_args.specs.Line.{program_app, HasNumbers, HasReport, HasSlice, HasSwitches, IsClear, IsNumber}
use Rattle.jt_args.specs.Line.{IsSwitch}
use Rattle.jt_args.proofs.Passed.{HasParser, IsRead, found, found_pass, neither, one_read}
use Rattle.jt_args.proofs.Texts.{long_text, short_text, slice_text, switch_text}

-- ---- tests for the parsers of the program's arguments

is_switch : ValueParser → Bool
is_switch parser.Bool = true
is_switch _ = false

is_long : ValueParser → Bool
is_long (parser.Unsigned low high) = (low == 0) && (high == 18446744073709551615)
is_long _ = false

is_short : ℕ → ValueParser → Bool
is_short most (parser.Signed (pos low) (pos high)) = (low == 0) && (high == most)
is_short most _ = false

is_slice : ValueParser → Bool
is_slice (parser.Signed (pos low) (pos high)) = (low == 1) && (high == 1000000)
is_slice _ = false

-- Only this parser passes the test.
abbrev Finds : (ValueParser → Bool) → ValueParser → Type 0
Finds test p = (q : ValueParser) → test q ≡ true → q ≡ p

finds_switch : Finds is_switch parser.Bool
unfolding is_switch
finds_switch parser.Bool e = refl
finds_switch _ e = absurd (true≢false (sym e))

finds_long : Finds is_long (parser.Unsigned 0 18446744073709551615)
unfolding is_long
finds_long (parser.Unsigned low high) e =
    let h = both _ _ e in
    ap₂ parser.Unsigned (eqb-true _ _ h.0) (eqb-true _ _ h.1)
finds_long _ e = absurd (true≢false (sym e))

finds_short : (most : ℕ) → Finds (is_short most) (parser.Signed (pos 0) (pos most))
unfolding is_short
finds_short most (parser.Signed (pos low) (pos high)) e =
    let h = both _ _ e in
    ap₂ (λ a b. parser.Signed (pos a) (pos b)) (eqb-true _ _ h.0) (eqb-true _ _ h.1)
finds_short most _ e = absurd (true≢false (sym e))

finds_slice : Finds is_slice (parser.Signed (pos 1) (pos 1000000))
unfolding is_slice
finds_slice (parser.Signed (pos low) (pos high)) e =
    let h = both _ _ e in
    ap₂ (λ a b. parser.Signed (pos a) (pos b)) (eqb-true _ _ h.0) (eqb-true _ _ h.1)
finds_slice _ e = absurd (true≢false (sym e))

-- If an argument has this id, its parser passes the test and its values are case-sensitive.
abbrev is_checked : Text → (ValueParser → Bool) → Rule → Bool
is_checked id test a = not (bytes_eq a.id id) || (test (parser_of_value a.parser) && not a.ignore_case)

abbrev are_checked : Text → (ValueParser → Bool) → List Shape → Bool
are_checked id test = list_all (λ s. list_all (is_checked id test) s.rules)

each : {X : Type 0} (test : X → Bool) (P : X → Type 0) → ((x : X) → test x ≡ true → P x) → (xs : List X)
    → list_all test xs ≡ true → AllByRecursion P xs
each test P holds [] e = tt
each test P holds (x ∷ xs) e = (holds x (both _ _ e).0, each test P holds xs (both _ _ e).1)

below_clear : (s : Shape) (names : Names) (h : Held) (words : List Text) (has : Bool) (below : Kinds)
    → level_fault s names h words has below ≡ [] → below ≡ []
below_clear s names h words has below e = (neither _ _ (neither _ _ e).1).0

module _ (id : Text) (p : ValueParser) (test : ValueParser → Bool) (finds : Finds test p) where
  has_parser : (a : Rule) → is_checked id test a ≡ true → HasParser id p a
  has_parser a e own = go (bytes_eq a.id id) own e
    where
      go : (b : Bool) → b ≡ true → (not b || (test (parser_of_value a.parser) && not a.ignore_case)) ≡ true
          → (parser_of_value a.parser ≡ p) × (a.ignore_case ≡ false)
      go false h f = absurd (true≢false (sym h))
      go true h f = (finds (parser_of_value a.parser) (both _ _ f).0, not-true a.ignore_case (both _ _ f).1)

  -- In a command that was entered, the text of the argument is one that the parser accepts.
  entered_read : (a : App) (stop : Option (Text × List Text)) → are_checked id test a.subs ≡ true
      → entered_fault a stop ≡ []
      → IfSome (entered a stop) (λ c. IfSome (one_of id c.1) (IsRead id p))
  entered_read a None checked e = tt
  entered_read a (Some q) checked e = go (find (λ s. answers_to q.0 (label_of s)) a.subs) (found HasAll _ a.subs all) e
    where
      HasAll : Shape → Type 0
      HasAll s = AllByRecursion (HasParser id p) s.rules

      all : AllByRecursion HasAll a.subs
      all = each _ HasAll (λ s h. each (is_checked id test) (HasParser id p) has_parser s.rules h) a.subs checked

      go : (o : Option Shape) → IfSome o (λ s. (answers_to q.0 (label_of s) ≡ true) × HasAll s)
          → option_map_or (λ s. level_fault s [] nothing_held q.1 false []) o [] ≡ []
          → IfSome (option_map (λ s. rows_at s q.1) o) (λ c. IfSome (one_of id c.1) (IsRead id p))
      go None h f = tt
      go (Some s) h f = one_read id p _ (found_pass id p s h.1 [] q.1 false [] f)

  pub read_of : (a : App) (words : List Text) → are_checked id test (built a).subs ≡ true → fault_of a words ≡ []
      → IfSome (subcommand_of a words) (λ c. IfSome (one_of id c.1) (IsRead id p))
  read_of a words checked e =
      let b : App = built a in
      let line : List Text = argument_words a words in
      let stop : Option (Text × List Text) = stop_after b.top.rules (names_of b) line in
      entered_read b stop checked (below_clear b.top (names_of b) nothing_held line _ (entered_fault b stop) e)

-- ---- the arguments of the program

-- P holds of the text of one argument, if the command that the line names has such a row.
abbrev Reads : Text → (Text → Type 0) → List Text → Type 0
Reads id P words = IfSome (subcommand_of program_app words) (λ c. IfSome (one_of id c.1) P)

reads : (id : Text) (p : ValueParser) (P : Text → Type 0) (words : List Text)
    → ((text : Text) → IsRead id p text → P text)
    → IfSome (subcommand_of program_app words) (λ c. IfSome (one_of id c.1) (IsRead id p)) → Reads id P words
reads id p P words says h = rows (subcommand_of program_app words) h
  where
    text : (o : Option Text) → IfSome o (IsRead id p) → IfSome o P
    text None k = tt
    text (Some t) k = says t k

    rows : (o : Option (Text × List Row)) → IfSome o (λ c. IfSome (one_of id c.1) (IsRead id p))
        → IfSome o (λ c. IfSome (one_of id c.1) P)
    rows None k = tt
    rows (Some c) k = text (one_of id c.1) k

switch : (id : Text) (words : List Text) → are_checked id is_switch (built program_app).subs ≡ true → IsClear words
    → Reads id IsSwitch words
switch id words checked e =
    reads id parser.Bool IsSwitch words (λ text r. subst IsSwitch (sym r.1) (switch_text r.0 r.2))
    (read_of id parser.Bool is_switch finds_switch program_app words checked e)

long : (id : Text) (words : List Text) → are_checked id is_long (built program_app).subs ≡ true → IsClear words
    → Reads id (IsNumber 64) words
long id words checked e =
    let p : ValueParser = parser.Unsigned 0 18446744073709551615 in
    reads id p (IsNumber 64) words (λ text r. subst (IsNumber 64) (sym r.1) (long_text r.0 r.2))
    (read_of id p is_long finds_long program_app words checked e)

short : (bits most : ℕ) (id : Text) (words : List Text) → most < 2 ^ bits
    → are_checked id (is_short most) (built program_app).subs ≡ true → IsClear words
    → Reads id (IsNumber bits) words
short bits most id words fits checked e =
    let p : ValueParser = parser.Signed (pos 0) (pos most) in
    reads id p (IsNumber bits) words (λ text r. subst (IsNumber bits) (sym r.1) (short_text bits most r.0 fits r.2))
    (read_of id p (is_short most) (finds_short most) program_app words checked e)

sliced : are_checked (codes "slice") is_slice (built program_app).subs ≡ true
unfolding clap_on_literals is_slice
sliced = refl

-- The text of the option for the number of instructions in a turn.
abbrev IsSliced : Text → Type 0
IsSliced text = IsNumber 32 text
    × (1 ≤ digits_value 10 (without_leading_plus text)) × (digits_value 10 (without_leading_plus text) ≤ 1000000)

slice : (words : List Text) → IsClear words → Reads (codes "slice") IsSliced words
slice words e =
    let p : ValueParser = parser.Signed (pos 1) (pos 1000000) in
    reads (codes "slice") p IsSliced words (λ text r. subst IsSliced (sym r.1) (slice_text r.0 r.2))
    (read_of (codes "slice") p is_slice finds_slice program_app words sliced e)

fuel : are_checked (codes "fuel") is_long (built program_app).subs ≡ true
unfolding clap_on_literals is_long
fuel = refl

depth : are_checked (codes "depth") (is_short 4294967295) (built program_app).subs ≡ true
unfolding clap_on_literals is_short
depth = refl

output : are_checked (codes "output") is_long (built program_app).subs ≡ true
unfolding clap_on_literals is_long
output = refl

size : are_checked (codes "size") (is_short 4294967295) (built program_app).subs ≡ true
unfolding clap_on_literals is_short
size = refl

nesting : are_checked (codes "nesting") (is_short 255) (built program_app).subs ≡ true
unfolding clap_on_literals is_short
nesting = refl

trim : are_checked (codes "trim-blocks") is_switch (built program_app).subs ≡ true
unfolding clap_on_literals is_switch
trim = refl

strip : are_checked (codes "lstrip-blocks") is_switch (built program_app).subs ≡ true
unfolding clap_on_literals is_switch
strip = refl

newline : are_checked (codes "keep-trailing-newline") is_switch (built program_app).subs ≡ true
unfolding clap_on_literals is_switch
newline = refl

plain : are_checked (codes "no-autoescape") is_switch (built program_app).subs ≡ true
unfolding clap_on_literals is_switch
plain = refl

strictly : are_checked (codes "strict") is_switch (built program_app).subs ≡ true
unfolding clap_on_literals is_switch
strictly = refl

report : are_checked (codes "report") is_switch (built program_app).subs ≡ true
unfolding clap_on_literals is_switch
report = refl

-- Each option of the command that the line gives has a text of its kind.
abbrev pub HaveAll : Option (Text × List Row) → Type 0
HaveAll o = IfSome o (λ c. HasNumbers c.1) × IfSome o (λ c. HasSwitches c.1) × IfSome o (λ c. HasSlice c.1)
    × IfSome o (λ c. HasReport c.1)

pub checked : (words : List Text) → IsClear words → HaveAll (subcommand_of program_app words)
checked words e =
    go (subcommand_of program_app words) (long (codes "fuel") words fuel e)
    (short 32 4294967295 (codes "depth") words (omega arith) depth e)
    (long (codes "output") words output e) (short 32 4294967295 (codes "size") words (omega arith) size e)
    (short 8 255 (codes "nesting") words (omega arith) nesting e)
    (switch (codes "trim-blocks") words trim e) (switch (codes "lstrip-blocks") words strip e)
    (switch (codes "keep-trailing-newline") words newline e)
    (switch (codes "no-autoescape") words plain e) (switch (codes "strict") words strictly e) (slice words e)
    (switch (codes "report") words report e)
  where
    go : (o : Option (Text × List Row))
        → IfSome o (λ c. IfSome (one_of (codes "fuel") c.1) (IsNumber 64))
        → IfSome o (λ c. IfSome (one_of (codes "depth") c.1) (IsNumber 32))
        → IfSome o (λ c. IfSome (one_of (codes "output") c.1) (IsNumber 64))
        → IfSome o (λ c. IfSome (one_of (codes "size") c.1) (IsNumber 32))
        → IfSome o (λ c. IfSome (one_of (codes "nesting") c.1) (IsNumber 8))
        → IfSome o (λ c. IfSome (one_of (codes "trim-blocks") c.1) IsSwitch)
        → IfSome o (λ c. IfSome (one_of (codes "lstrip-blocks") c.1) IsSwitch)
        → IfSome o (λ c. IfSome (one_of (codes "keep-trailing-newline") c.1) IsSwitch)
        → IfSome o (λ c. IfSome (one_of (codes "no-autoescape") c.1) IsSwitch)
        → IfSome o (λ c. IfSome (one_of (codes "strict") c.1) IsSwitch)
        → IfSome o (λ c. IfSome (one_of (codes "slice") c.1) IsSliced)
        → IfSome o (λ c. IfSome (one_of (codes "report") c.1) IsSwitch)
        → HaveAll o
    go None f d o s n t l k a u i r = (tt, tt, tt, tt)
    go (Some c) f d o s n t l k a u i r = ((f, d, o, s, n), (t, l, k, a, u), i, r)
