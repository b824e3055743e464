-- Each value of one argument, in the rows of a line that a command takes, passed its parser.
use Rattle.std.proofs.Common.{◌≡◌, ℕ, Bool, true, false, cond, ◌&&◌, ◌||◌, List, [], ◌∷◌, ◌++◌, length, min, ◌+◌, drop}
use Rattle.std.proofs.Common.{Option, Some, None, ap, refl, subst, is_some, fold, zero, suc, arith}
use Rattle.std.specs.Prelude.{IfSome, encode_utf8, find, option_and_then, option_map, slice_get}
use Rattle.std.specs.List.{AllByRecursion}
use Rattle.std.specs.Option.{option_map_or}
use Rattle.std.specs.Str.{bytes_eq, chars}
use Rattle.std.proofs.lemmas.Bool.{ne_eqb}
use Rattle.std.proofs.lemmas.Slice.Eq.{bytes_eq-Decides}
use Rattle.clap.specs.Facts.{parser_of_value}
use Rattle.clap.specs.Faults.{action_fault, bundle_fault, bundle_step_fault, defaults_fault, flag_word_fault}
use Rattle.clap.specs.Faults.{flags_fault, given_default_fault, level_fault, long_fault, option_fault, other_fault}
use Rattle.clap.specs.Faults.{positional_fault, react_fault, settle_fault, short_fault, step_fault, turn_fault}
use Rattle.clap.specs.Faults.{use_fault, values_fault, walk_fault, word_fault}
use Rattle.clap.specs.Kinds.{Kinds, or_else, request_kinds, values_kinds}
use Rattle.clap.specs.Lexer.{long_of, short_of}
use Rattle.clap.specs.Matches.{count_text}
use Rattle.clap.specs.Simple.{Shape}
use Rattle.clap.specs.Values.{read_as, reading_of, refused_kind}
use Rattle.clap.specs.ValueTests.{accepts}
use Rattle.clap.specs.Walk.{Held, Names, Outcome, Row, Rule, Step, Text, Waiting, Walk, action_of, after_flag}
use Rattle.clap.specs.Walk.{after_step, arg_by_id, arg_by_index, arg_by_long, arg_by_short, at_row, attached_value}
use Rattle.clap.specs.Walk.{bundle, bundle_met, bundle_step, count_of, default_rows, done, flag_met, has_row, idle}
use Rattle.clap.specs.Walk.{is_empty, is_pending, long_met, long_or_other, more_values, new_count, next, nothing_held}
use Rattle.clap.specs.Walk.{one_of, option, option_met, option_word, plain, plain_word, positional, pushed, reacted}
use Rattle.clap.specs.Walk.{reading_by, refused, row_text, rows_after, settled, settled_rows, short_met, short_or_plain}
use Rattle.clap.specs.Walk.{subcommand, subcommand_met, subcommand_or_other, takes_several, takes_values, to_positional}
use Rattle.clap.specs.Walk.{trailing, used, used_as, used_by_id, value, values_or_missing, waits, walk, walk_from}
use Rattle.clap.specs.Walk.{walked, walked_from, with_count, with_default, with_values, without, word_met}
use Rattle.clap.specs.declared.builder.ArgAction.{ArgAction}
use Rattle.clap.specs.declared.builder.ArgAction.TheVariants.{Set, Append, SetTrue, SetFalse, Count}
use Rattle.clap.specs.declared.builder.ValueParser.{ValueParser}
use Rattle.clap.specs.declared.builder.value_parser.Reading.{Reading}
use Rattle.clap.specs.declared.error.kind.ErrorKind.{ErrorKind}
use Rattle.clap.specs.declared.error.kind.ErrorKind.TheVariants.{TooManyValues}
use Rattle.clap.specs.declared.parser.matches.ValueSource.{ValueSource}
use Rattle.clap.specs.declared.parser.matches.ValueSource.TheVariants.{DefaultValue, CommandLine}

-- ---- lists

-- If two steps together have no fault, neither of them has one.
pub neither : (a b : Kinds) → or_else a b ≡ [] → (a ≡ []) × (b ≡ [])
neither [] b e = (refl, e)
neither (k ∷ ks) b e = absurd (cc)

pub found : {X : Type 0} (P : X → Type 0) (test : X → Bool) (xs : List X) → AllByRecursion P xs
    → IfSome (find test xs) (λ x. (test x ≡ true) × P x)
found P test [] h = tt
found P test (x ∷ xs) h = go (test x) refl (found P test xs h.1)
  where
    go : (b : Bool) → test x ≡ b → IfSome (find test xs) (λ y. (test y ≡ true) × P y)
        → IfSome (cond b (Some x) (find test xs)) (λ y. (test y ≡ true) × P y)
    go true e below = (e, h.0)
    go false e below = below

joined : {X : Type 0} (P : X → Type 0) (xs ys : List X) → AllByRecursion P xs → AllByRecursion P ys
    → AllByRecursion P (xs ++ ys)
joined P [] ys h k = k
joined P (x ∷ xs) ys h k = (h.0, joined P xs ys h.1 k)

not_empty : {X : Type 0} (x : X) (xs : List X) → is_empty (x ∷ xs) ≡ false
not_empty x xs = ne_eqb _ _ (λ e. omega arith)

-- ---- values

-- The parser accepts each of the texts.
abbrev Taken : Bool → ValueParser → List Text → Type 0
Taken ignore_case p = AllByRecursion (λ t. accepts ignore_case p t ≡ true)

taken : (ignore_case : Bool) (p : ValueParser) (values : List Text) → values_kinds ignore_case p values ≡ []
    → Taken ignore_case p values
taken ignore_case p [] e = tt
taken ignore_case p (v ∷ vs) e =
    (go (accepts ignore_case p v) (refused_kind p) (neither _ _ e).0, taken ignore_case p vs (neither _ _ e).1)
  where
    go : (b : Bool) (k : ErrorKind) → cond b [] (k ∷ []) ≡ [] → b ≡ true
    go true k h = refl
    go false k h = absurd (cc)

module _ (id : Text) (p : ValueParser) where
  -- If an argument has this id, it has this parser, and its values are case-sensitive.
  abbrev pub HasParser : Rule → Type 0
  HasParser a = bytes_eq a.id id ≡ true → (parser_of_value a.parser ≡ p) × (a.ignore_case ≡ false)

  -- If a row has this id, it is read as the parser states, and the parser accepts its values.
  abbrev pub Passes : Row → Type 0
  Passes r = bytes_eq r.id id ≡ true → (r.reading ≡ reading_of p) × Taken false p r.values

  abbrev pub RowsPass : List Row → Type 0
  RowsPass = AllByRecursion Passes

  -- The parser accepts the values of its own argument, if they have no fault.
  own_taken : (a : Rule) (values : List Text) → HasParser a → values_fault a values ≡ [] → bytes_eq a.id id ≡ true
      → Taken false p values
  own_taken a values has e own =
      subst (λ q. Taken false q values) (has own).0
      (subst (λ b. Taken b (parser_of_value a.parser) values) (has own).1
      (taken a.ignore_case (parser_of_value a.parser) values e))

  -- ---- rows

  at_row_passes : (key : Text) (change : Row → List Row) (missing rows : List Row)
      → ((r : Row) → bytes_eq r.id key ≡ true → Passes r → RowsPass (change r))
      → RowsPass missing → RowsPass rows → RowsPass (at_row key change missing rows)
  at_row_passes key change missing [] f m h = m
  at_row_passes key change missing (r ∷ rs) f m h =
      go (bytes_eq r.id key) refl (at_row_passes key change missing rs f m h.1)
    where
      go : (b : Bool) → bytes_eq r.id key ≡ b → RowsPass (at_row key change missing rs)
          → RowsPass (cond b (change r ++ rs) (r ∷ at_row key change missing rs))
      go true e below = joined Passes (change r) rs (f r e h.0) h.1
      go false e below = (h.0, below)

  without_passes : (key : Text) (rows : List Row) → RowsPass rows → RowsPass (without key rows)
  without_passes key rows h = at_row_passes key (λ _. []) [] rows (λ r e q. tt) tt h

  -- A row still passes with more values of its own argument.
  more_passes : (a : Rule) (r : Row) (values : List Text) → bytes_eq r.id a.id ≡ true
      → (bytes_eq a.id id ≡ true → Taken false p values) → Passes r
      → bytes_eq r.id id ≡ true → (r.reading ≡ reading_of p) × Taken false p (r.values ++ values)
  more_passes a r values same fresh passes own =
      let mine : bytes_eq a.id id ≡ true =
      subst (λ t. bytes_eq t id ≡ true) ((bytes_eq-Decides r.id a.id).0 same) own in
      ((passes own).0, joined _ r.values values (passes own).1 (fresh mine))

  values_pass : (a : Rule) (s : ValueSource) (values : List Text) (rows : List Row) → HasParser a
      → values_fault a values ≡ [] → RowsPass rows
      → RowsPass (with_values a.id (reading_by a) s values rows)
  values_pass a s values rows has e h =
      at_row_passes a.id (more_values s values) _ rows
      (λ r same passes. (more_passes a r values same (own_taken a values has e) passes, tt))
      (λ own. (ap reading_of (has own).0, own_taken a values has e own), tt) h

  count_passes : (a : Rule) (s : ValueSource) (n : ℕ) (rows : List Row) → HasParser a
      → values_fault a (count_text n ∷ []) ≡ [] → RowsPass rows
      → RowsPass (with_count a.id (reading_by a) s n rows)
  count_passes a s n rows has e h =
      at_row_passes a.id (new_count s n) _ rows
      (λ r same passes. (more_passes a r (count_text n ∷ []) same (own_taken a (count_text n ∷ []) has e) passes, tt))
      (λ own. (ap reading_of (has own).0, own_taken a (count_text n ∷ []) has e own), tt) h

  -- ---- one use of an argument

  used_passes : (again : Bool) (a : Rule) (values : List Text) (rows : List Row) → HasParser a
      → use_fault again a values rows ≡ [] → RowsPass rows
      → RowsPass (used a values rows)
  used_passes again a values rows has e h = go (action_of a) (values_or_missing a values) (neither _ _ e).1
    where
      one : (k : ℕ) → or_else (values_fault a (count_text k ∷ [])) [] ≡ [] → values_fault a (count_text k ∷ []) ≡ []
      one k f = (neither _ _ f).0

      go : (x : ArgAction) (raw : List Text) → action_fault x again a raw rows ≡ []
          → RowsPass (used_as x a.id (reading_by a) raw rows)
      go Set raw f =
          values_pass a CommandLine raw (without a.id rows) has (neither _ _ f).1 (without_passes a.id rows h)
      go SetTrue raw f =
          values_pass a CommandLine raw (without a.id rows) has (neither _ _ f).1 (without_passes a.id rows h)
      go SetFalse raw f =
          values_pass a CommandLine raw (without a.id rows) has (neither _ _ f).1 (without_passes a.id rows h)
      go Append raw f = values_pass a CommandLine raw rows has f h
      go Count [] f =
          count_passes a CommandLine (min (count_of a.id rows + 1) 255) (without a.id rows) has
          (ap (λ k. or_else k []) f) (without_passes a.id rows h)
      go Count (v ∷ vs) f = values_pass a CommandLine (v ∷ vs) (without a.id rows) has f (without_passes a.id rows h)
      go other raw f = h

  -- ---- the walk

  module _ (c : List Rule) (all : AllByRecursion HasParser c) (again : Bool) where
    -- An argument that is looked up has this parser.
    looked_up : (test : Rule → Bool) → IfSome (find test c) HasParser
    looked_up test = go (find test c) (found HasParser test c all)
      where
        go : (o : Option Rule) → IfSome o (λ a. (test a ≡ true) × HasParser a) → IfSome o HasParser
        go None h = tt
        go (Some a) h = h.1

    settled_pass : (h : Held) → settle_fault c again h ≡ [] → RowsPass h.rows → RowsPass (settled c h).rows
    settled_pass h e rows = go h.pending e
      where
        by_id : (o : Option Rule) (values : List Text) → IfSome o HasParser
            → option_map_or (λ a. use_fault again a values h.rows) o [] ≡ []
            → RowsPass (used_by_id o values h.rows)
        by_id None values has f = rows
        by_id (Some a) values has f = used_passes again a values h.rows has f rows

        go : (q : Option (Text × List Text))
            → option_map_or (λ q. option_map_or (λ a. use_fault again a q.1 h.rows) (arg_by_id c q.0) []) q [] ≡ []
            → RowsPass (settled_rows c q h.rows)
        go None f = rows
        go (Some q) f = by_id (arg_by_id c q.0) q.1 (looked_up _) f

    reacted_pass : (a : Rule) (values : List Text) (h : Held) → HasParser a → react_fault c again a values h ≡ []
        → RowsPass h.rows
        → RowsPass (reacted c a values h).rows
    reacted_pass a values h has e rows =
        used_passes again a values (settled c h).rows has (neither _ _ e).1 (settled_pass h (neither _ _ e).0 rows)

    option_passes : (a : Rule) (v : Option Text) (h : Held) → HasParser a → option_fault c again a v h ≡ []
        → RowsPass h.rows
        → RowsPass (option_met c a v h).0.rows
    option_passes a (Some v) h has e rows = reacted_pass a (v ∷ []) h has e rows
    option_passes a None h has e rows = settled_pass h e rows

    long_passes : (o : Option Rule) (v : Option Text) (h : Held) → IfSome o HasParser → long_fault c again o v h ≡ []
        → RowsPass h.rows
        → RowsPass (long_met c o v h).0.rows
    long_passes None v h has e rows = rows
    long_passes (Some a) v h has e rows = go (takes_values a) v e
      where
        go : (b : Bool) (v : Option Text)
            → cond b (option_fault c again a v h) (cond (is_some v) (TooManyValues ∷ []) (react_fault c again a [] h))
            ≡ []
            → RowsPass (cond b (option_met c a v h) (flag_met c a v h)).0.rows
        go true v f = option_passes a v h has f rows
        go false (Some v) f = rows
        go false None f = reacted_pass a [] h has f rows

    short_passes : (o : Option Rule) (rest : Text) (h : Held) (onward : Held → Held × Outcome) (fault : Held → Kinds)
        → ((k : Held) → fault k ≡ [] → RowsPass k.rows → RowsPass (onward k).0.rows)
        → IfSome o HasParser → short_fault c again o rest h fault ≡ [] → RowsPass h.rows
        → RowsPass (short_met c o rest h onward).0.rows
    short_passes None rest h onward fault after has e rows = rows
    short_passes (Some a) rest h onward fault after has e rows = go (takes_values a) e
      where
        go : (b : Bool)
            → cond b (option_fault c again a (attached_value rest) h)
            (or_else (react_fault c again a [] h) (fault (reacted c a [] h)))
            ≡ []
            → RowsPass (cond b (option_met c a (attached_value rest) h) (onward (reacted c a [] h))).0.rows
        go true f = option_passes a (attached_value rest) h has f rows
        go false f = after (reacted c a [] h) (neither _ _ f).1 (reacted_pass a [] h has (neither _ _ f).0 rows)

    bundle_step_passes : (o : Option ℕ) (flags : Text) (skip : ℕ) (so_far : Outcome) (h : Held)
        (onward : Text → ℕ → Outcome → Held → Held × Outcome) (fault : Text → ℕ → Held → Kinds)
        → ((t : Text) (n : ℕ) (s : Outcome) (k : Held) → fault t n k ≡ [] → RowsPass k.rows
        → RowsPass (onward t n s k).0.rows)
        → bundle_step_fault c again o flags skip h fault ≡ [] → RowsPass h.rows
        → RowsPass (bundle_step c o flags skip so_far h onward).0.rows
    bundle_step_passes None flags skip so_far h onward fault after e rows = rows
    bundle_step_passes (Some x) flags zero so_far h onward fault after e rows =
        let rest = drop (length (encode_utf8 x)) flags in
        short_passes (arg_by_short c x) rest h (onward rest 0 done) (fault rest 0) (after rest 0 done) (looked_up _) e
        rows
    bundle_step_passes (Some x) flags (suc skip) so_far h onward fault after e rows =
        after (drop (length (encode_utf8 x)) flags) skip so_far h e rows

    bundle_passes : (k : ℕ) (flags : Text) (skip : ℕ) (so_far : Outcome) (h : Held)
        → flags_fault c again k flags skip h ≡ [] → RowsPass h.rows
        → RowsPass (bundle_met c k flags skip so_far h).0.rows
    unfolding flags_fault bundle_met
    bundle_passes zero flags skip so_far h e rows = rows
    bundle_passes (suc k) flags skip so_far h e rows =
        bundle_step_passes (slice_get (chars flags) 0) flags skip so_far h (bundle_met c k) (flags_fault c again k)
        (bundle_passes k) e rows

    plain_passes : (waiting : Waiting) (word : Text) (h : Held) → RowsPass h.rows
        → RowsPass (plain_word c waiting word h).0.rows
    plain_passes (option key) word h rows = go (arg_by_id c key)
      where
        go : (o : Option Rule) → RowsPass (option_word o key word h).0.rows
        go None = rows
        go (Some a) = rows
    plain_passes idle word h rows = rows
    plain_passes positional word h rows = rows

    after_flag_passes : (waiting : Waiting) (word : Text) (h : Held) (o : Outcome) → RowsPass h.rows
        → RowsPass (after_flag c waiting word h o).0.rows
    after_flag_passes waiting word h done rows = rows
    after_flag_passes waiting word h (waits key) rows = rows
    after_flag_passes waiting word h plain rows = plain_passes waiting word h rows
    after_flag_passes waiting word h refused rows = plain_passes waiting word h rows

    short_word_passes : (waiting : Waiting) (word : Text) (flags : Option Text) (h : Held)
        → option_map_or (λ f. bundle_fault c again f h) flags [] ≡ [] → RowsPass h.rows
        → RowsPass (short_or_plain c waiting word flags h).0.rows
    short_word_passes waiting word None h e rows = plain_passes waiting word h rows
    short_word_passes waiting word (Some flags) h e rows =
        after_flag_passes waiting word (bundle c flags h).0 (bundle c flags h).1
        (bundle_passes (length flags) flags h.skip plain (record h { skip = 0 }) e rows)

    flag_word_passes : (waiting : Waiting) (word : Text) (q : Option (Text × Option Text)) (h : Held)
        → flag_word_fault c again q word h ≡ [] → RowsPass h.rows → RowsPass (long_or_other c waiting word q h).0.rows
    flag_word_passes waiting word (Some q) h e rows =
        let met = long_met c (arg_by_long c q.0) q.1 h in
        after_flag_passes waiting word met.0 met.1 (long_passes (arg_by_long c q.0) q.1 h (looked_up _) e rows)
    flag_word_passes waiting word None h e rows = short_word_passes waiting word (short_of word) h e rows

    to_positional_passes : (o : Option Rule) (word : Text) (w : Walk) (h : Held) (stray : Kinds)
        → option_map_or (λ a. positional_fault c again a h) o stray ≡ [] → RowsPass h.rows
        → RowsPass (to_positional c o word w h).held.rows
    to_positional_passes None word w h stray e rows = rows
    to_positional_passes (Some a) word w h stray e rows = go (is_pending a h.pending && takes_several a) e
      where
        go : (b : Bool) → cond b [] (settle_fault c again h) ≡ []
            → RowsPass (pushed a.id word (cond b h (settled c h))).rows
        go true f = rows
        go false f = settled_pass h f rows

  -- ---- one level of a line

  module _ (s : Shape) (all : AllByRecursion HasParser s.rules) where
    word_passes : (names : Names) (is_trailing : Bool) (waiting : Waiting) (position : ℕ) (word : Text) (h : Held)
        → word_fault s names is_trailing waiting word h ≡ [] → RowsPass h.rows
        → RowsPass (word_met s.rules names is_trailing waiting position word h).0.rows
    word_passes names true waiting position word h e rows = rows
    word_passes names false waiting position word h e rows = go (subcommand_met names waiting word) e
      where
        other : (b : Bool) → cond b [] (flag_word_fault s.rules s.args_override_self (long_of word) word h) ≡ []
            → RowsPass (cond b (h, trailing position) (long_or_other s.rules waiting word (long_of word) h)).0.rows
        other true f = rows
        other false f = flag_word_passes s.rules all s.args_override_self waiting word (long_of word) h f rows

        go : (o : Option Text) → other_fault s o word h ≡ []
            → RowsPass (subcommand_or_other s.rules o waiting position word h).0.rows
        go (Some name) f = rows
        go None f = other (bytes_eq word (45 ∷ 45 ∷ [])) f

    step_passes : (w : Walk) (word : Text) (h : Held) (step : Step) → step_fault s w.position h step ≡ []
        → RowsPass h.rows
        → RowsPass (after_step s.rules word w h step).held.rows
    step_passes w word h (next waiting) e rows = rows
    step_passes w word h (trailing position) e rows = rows
    step_passes w word h (subcommand name) e rows = rows
    step_passes w word h value e rows =
        to_positional_passes s.rules all s.args_override_self (arg_by_index s.rules w.position) word w h _ e rows

    turn_passes : (names : Names) (w : Walk) (word : Text) → turn_fault s names w word ≡ [] → RowsPass w.held.rows
        → RowsPass (walked s.rules names w word).held.rows
    unfolding walked
    turn_passes names w word e rows = go w.stopped e
      where
        go : (o : Option (Text × List Text))
            → cond (is_some o) [] (or_else (word_fault s names w.is_trailing w.waiting word w.held)
            (step_fault s w.position (word_met s.rules names w.is_trailing w.waiting w.position word w.held).0
            (word_met s.rules names w.is_trailing w.waiting w.position word w.held).1)) ≡ []
            → RowsPass (walked_from s.rules names o w word).held.rows
        go (Some q) f = rows
        go None f =
            let met = word_met s.rules names w.is_trailing w.waiting w.position word w.held in
            step_passes w word met.0 met.1 (neither _ _ f).1
            (word_passes names w.is_trailing w.waiting w.position word w.held (neither _ _ f).0 rows)

    walk_passes : (names : Names) (words : List Text) (w : Walk) → walk_fault s names w words ≡ []
        → RowsPass w.held.rows
        → RowsPass (fold (walked s.rules names) w words).held.rows
    unfolding walk_fault
    walk_passes names [] w e rows = rows
    walk_passes names (word ∷ rest) w e rows =
        walk_passes names rest (walked s.rules names w word) (neither _ _ e).1
        (turn_passes names w word (neither _ _ e).0 rows)

    defaults_pass : (rules : List Rule) (rows : List Row) → AllByRecursion HasParser rules
        → defaults_fault rows rules ≡ [] → RowsPass rows
        → RowsPass (fold with_default rows rules)
    unfolding defaults_fault
    defaults_pass [] rows has e h = h
    defaults_pass (a ∷ rest) rows has e h =
        defaults_pass rest (with_default rows a) has.1 (neither _ _ e).1
        (go (has_row a.id rows) a.defaults (neither _ _ e).0)
      where
        go : (b : Bool) (values : List Text) → cond (b || is_empty values) [] (given_default_fault a values) ≡ []
            → RowsPass (cond b rows (default_rows a.id (reading_by a) values rows))
        go true values f = h
        go false [] f = h
        go false (v ∷ vs) f =
            let some : or_else (request_kinds (action_of a)) (values_fault a (v ∷ vs)) ≡ [] =
            rw (not_empty v vs) at f in
            values_pass a DefaultValue (v ∷ vs) rows has.0 (neither _ _ some).1 h

    -- The rows that are found pass, if the level has no fault.
    pub found_pass : (names : Names) (words : List Text) (has_subcommand : Bool) (below : Kinds)
        → level_fault s names nothing_held words has_subcommand below ≡ [] → RowsPass (rows_after s.rules names words)
    found_pass names words has_subcommand below e =
        let end = (walk s.rules names nothing_held words).held in
        let walk_clear = (neither _ _ e).0 in
        let rest = (neither _ _ (neither _ _ e).1).1 in
        let settle_clear = (neither _ _ rest).0 in
        let defaults_clear = (neither _ _ (neither _ _ rest).1).0 in
        defaults_pass s.rules (settled s.rules end).rows all defaults_clear
        (settled_pass s.rules all s.args_override_self end settle_clear
        (walk_passes names words (walk_from nothing_held) walk_clear tt))

  -- The text that is read of the argument comes from one that the parser accepts.
  abbrev pub IsRead : Text → Type 0
  IsRead text = (raw : Text) × (text ≡ read_as (reading_of p) raw) × (accepts false p raw ≡ true)

  pub one_read : (rows : List Row) → RowsPass rows → IfSome (one_of id rows) IsRead
  one_read rows h = go (find (λ r. bytes_eq r.id id) rows) (found Passes (λ r. bytes_eq r.id id) rows h)
    where
      first : (how : Reading) (values : List Text) → how ≡ reading_of p → Taken false p values
          → IfSome (option_map (read_as how) (slice_get values 0)) IsRead
      first how [] same h = tt
      first how (v ∷ vs) same h = (v, ap (λ x. read_as x v) same, h.0)

      go : (o : Option Row) → IfSome o (λ r. (bytes_eq r.id id ≡ true) × Passes r)
          → IfSome (option_and_then row_text o) IsRead
      go None h = tt
      go (Some r) h = first r.reading r.values (h.1 h.0).0 (h.1 h.0).1
