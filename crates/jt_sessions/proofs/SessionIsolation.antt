-- Each session runs as it would alone.
use Rattle.std.proofs.Common.{◌≡◌, ◌≢◌, ℕ, ◌+◌, ◌<◌, ◌≤◌, Bool, true, false, cond, List, [], ◌∷◌, ◌++◌, length, Option}
use Rattle.std.proofs.Common.{Some, None, refl, sym, ap, ◌∙◌, arith, length-append, rules}
use Rattle.std.specs.Prelude.{option_map, ◌==◌, nat_le}
use Rattle.std.proofs.lemmas.Bool.Decides.{nat_tests}
use Rattle.std.proofs.lemmas.Bool.{eqb-true, eq-eqb}
use Rattle.jt_value.specs.Pairs.{Pairs}
use Rattle.jt_image.specs.Code.{Code}
use Rattle.jt_image.specs.Config.{Budget}
use Rattle.jt_machine.specs.Session.{Session, advanced}
use Rattle.jt_machine.specs.declared.Progress.{Progress}
use Rattle.jt_sessions.specs.declared.error.HostError.{HostError}
use Rattle.jt_sessions.specs.declared.error.HostError.TheVariants as error
use Rattle.jt_sessions.specs.Turns.{World, empty, max_sessions, max_id, Event, opens, opened, find, replace, remove}
use Rattle.jt_sessions.specs.Turns.{bar, opening, turning, after, opening_reply, turn_reply, turning_reply}
use Rattle.jt_sessions.specs.Turns.{closing_reply, reply, come, own, alone, is_opened, count_opened, RunsAlone}
use Rattle.jt_sessions.specs.Turns.{SessionsRunAlone}

-- ---- numbers

same : (a b : ℕ) → (a == b) ≡ true → a ≡ b
same a b h = eqb-true a b h

itself : (a : ℕ) → (a == a) ≡ true
itself a = eq-eqb a a refl

pub apart : (a b : ℕ) → a ≢ b → (a == b) ≡ false
apart a b h = search (arith, rules, same)

other : (a b : ℕ) → (a == b) ≡ false → a ≢ b
other a b h g = let t : (a == b) ≡ true = eq-eqb a b g in let s : true ≡ false = sym t ∙ h in cc

-- ---- sessions by their ids

nothing_both : (z : Bool) (o : Option Session) → cond z o o ≡ o
nothing_both a0 o = search (arith, rules)

find_replace : (i j : ℕ) (t : Session) (es : List (ℕ × Session))
    → find i (replace j t es) ≡ cond (j == i) (option_map (λ _. t) (find i es)) (find i es)
find_replace i j t [] = sym (nothing_both (j == i) None)
find_replace i j t (e ∷ es) = search (arith, rules, find_replace i j t es, apart, same, other)

-- No id occurs twice.
abbrev Distinct : List (ℕ × Session) → Type 0
Distinct [] = Unit {0}
Distinct (e ∷ es) = (find e.0 es ≡ None) × Distinct es

-- No id is above `n`.
abbrev Below : ℕ → List (ℕ × Session) → Type 0
Below n [] = Unit {0}
Below n (e ∷ es) = (e.0 ≤ n) × Below n es

find_remove : (i j : ℕ) (es : List (ℕ × Session)) → Distinct es → find i (remove j es) ≡ cond (j == i) None (find i es)
find_remove i j [] d = sym (nothing_both (j == i) None)
find_remove i j (e ∷ es) d = search (arith, rules, find_remove i j es d.1, same, apart, other)

find_other : (i j : ℕ) (s : Session) (es : List (ℕ × Session)) → j ≢ i → find i (es ++ (j, s) ∷ []) ≡ find i es
find_other i j s [] n = let z : (j == i) ≡ false = apart j i n in rw z refl
find_other i j s (e ∷ es) n = ap (λ r. cond (e.0 == i) (Some e.1) r) (find_other i j s es n)

absent_front : (i : ℕ) (e : ℕ × Session) (es : List (ℕ × Session)) → find i (e ∷ es) ≡ None
    → ((e.0 == i) ≡ false) × (find i es ≡ None)
absent_front i e es h = search (arith, rules)

-- The first entry with an id is found, whatever follows it.
pub find_at : (i : ℕ) (s : Session) (es fs : List (ℕ × Session)) → find i es ≡ None
    → find i (es ++ (i, s) ∷ fs) ≡ Some s
find_at i s [] fs h = rw (itself i) refl
find_at i s (e ∷ es) fs h = let a = absent_front i e es h in rw a.0 (find_at i s es fs a.1)

pub replace_at : (i : ℕ) (s t : Session) (es fs : List (ℕ × Session)) → find i es ≡ None
    → replace i t (es ++ (i, s) ∷ fs) ≡ es ++ (i, t) ∷ fs
replace_at i s t [] fs h = rw (itself i) refl
replace_at i s t (e ∷ es) fs h =
    let a = absent_front i e es h in rw a.0 (ap (λ (gs : List (ℕ × Session)). e ∷ gs) (replace_at i s t es fs a.1))

pub remove_at : (i : ℕ) (s : Session) (es fs : List (ℕ × Session)) → find i es ≡ None
    → remove i (es ++ (i, s) ∷ fs) ≡ es ++ fs
remove_at i s [] fs h = rw (itself i) refl
remove_at i s (e ∷ es) fs h =
    let a = absent_front i e es h in rw a.0 (ap (λ (gs : List (ℕ × Session)). e ∷ gs) (remove_at i s es fs a.1))

-- The removal of an absent id changes nothing.
pub remove_absent : (i : ℕ) (es : List (ℕ × Session)) → find i es ≡ None → remove i es ≡ es
remove_absent i [] h = refl
remove_absent i (e ∷ es) h =
    let a = absent_front i e es h in rw a.0 (ap (λ (gs : List (ℕ × Session)). e ∷ gs) (remove_absent i es a.1))

replaced_absent : (i j : ℕ) (t : Session) (es : List (ℕ × Session)) → find i es ≡ None → find i (replace j t es) ≡ None
replaced_absent i j t es h = find_replace i j t es ∙ rw h (nothing_both (j == i) None)

removed_absent : (i j : ℕ) (es : List (ℕ × Session)) → find i es ≡ None → find i (remove j es) ≡ None
removed_absent i j [] h = refl
removed_absent i j (e ∷ es) h = step (removed_absent i j es (absent_front i e es h).1) (e.0 == j)
  where
    step : find i (remove j es) ≡ None → (x : Bool) → find i (cond x es (e ∷ remove j es)) ≡ None
    step more a1 = search (arith, rules, absent_front)

-- ---- invariants of worlds

distinct_replace : (j : ℕ) (t : Session) (es : List (ℕ × Session)) → Distinct es → Distinct (replace j t es)
distinct_replace j t [] d = tt
distinct_replace j t (e ∷ es) d = search (arith, rules, distinct_replace j t es d.1, same, replaced_absent)

distinct_remove : (j : ℕ) (es : List (ℕ × Session)) → Distinct es → Distinct (remove j es)
distinct_remove j [] d = tt
distinct_remove j (e ∷ es) d = search (arith, rules, distinct_remove j es d.1, removed_absent)

distinct_added : (j : ℕ) (s : Session) (es : List (ℕ × Session)) → find j es ≡ None → Distinct es
    → Distinct (es ++ (j, s) ∷ [])
distinct_added j s [] h d = (refl, tt)
distinct_added j s (e ∷ es) h d = search (arith, rules, absent_front, find_other, other, distinct_added j s es)

below_replace : (n j : ℕ) (t : Session) (es : List (ℕ × Session)) → Below n es → Below n (replace j t es)
below_replace n j t [] b = tt
below_replace n j t (e ∷ es) b = search (arith, rules, below_replace n j t es b.1, same)

below_remove : (n j : ℕ) (es : List (ℕ × Session)) → Below n es → Below n (remove j es)
below_remove n j [] b = tt
below_remove n j (e ∷ es) b = search (arith, rules, below_remove n j es b.1)

below_added : (n : ℕ) (s : Session) (es : List (ℕ × Session)) → Below n es → Below (n + 1) (es ++ (n + 1, s) ∷ [])
below_added n s [] b = (omega arith, tt)
below_added n s (e ∷ es) b = (omega (arith, b.0), below_added n s es b.1)

above_absent : (n i : ℕ) (es : List (ℕ × Session)) → Below n es → n < i → find i es ≡ None
above_absent n i [] b h = refl
above_absent n i (e ∷ es) b h =
    let z : (e.0 == i) ≡ false = apart e.0 i (λ g. absurd (omega (arith, g, b.0, h))) in
    rw z (above_absent n i es b.1 h)

replace_len : (j : ℕ) (t : Session) (es : List (ℕ × Session)) → length (replace j t es) ≡ length es
replace_len j t [] = refl
replace_len j t (e ∷ es) = search (arith, rules, replace_len j t es)

remove_len : (j : ℕ) (es : List (ℕ × Session)) → length (remove j es) ≤ length es
remove_len j [] = omega arith
remove_len j (e ∷ es) = search (arith, rules, remove_len j es)

-- The invariant of a world to which events lead.
pub record IsOrdered (w : World) : Type 0 where
  pub below : Below w.last w.sessions
  pub distinct : Distinct w.sessions
  pub few : length w.sessions ≤ max_sessions

room_at : (z y : Bool) → cond z (Some error.Full) (cond y (Some error.NoId) None) ≡ None → z ≡ false
room_at a0 y h = search (arith, rules)

-- If no bar exists, fewer than 64 sessions are open.
room : (w : World) → bar w ≡ None → length w.sessions < max_sessions
room w h =
    let z : nat_le max_sessions (length w.sessions) ≡ false =
    room_at (nat_le max_sessions (length w.sessions)) (nat_le max_id w.last) h in
    grind (arith, nat_tests)

opening_ordered : (o : Option HostError) (s : Session) (w : World) → o ≡ bar w → IsOrdered w → IsOrdered (opening o s w)
opening_ordered a0 s w h i = search (arith, rules, below_added, distinct_added, above_absent, room, length-append)

turning_ordered : (o : Option Session) (j n : ℕ) (w : World) → IsOrdered w → IsOrdered (turning o j n w)
turning_ordered a0 j n w i = search (arith, rules, below_replace, distinct_replace, replace_len)

ordered : (e : Event) (w : World) → IsOrdered w → IsOrdered (after e w)
ordered a0 w i = search (arith, rules, opening_ordered, turning_ordered, below_remove, distinct_remove, remove_len)

all_ordered : (es : List Event) (w : World) → IsOrdered w → IsOrdered (come es w)
all_ordered [] w i = i
all_ordered (e ∷ es) w i = all_ordered es (after e w) (ordered e w i)

empty_ordered : IsOrdered empty
empty_ordered = record { below = tt; distinct = tt; few = omega arith }

-- ---- the last id

told_not : (p : Option Progress) → is_opened (turn_reply p) ≡ false
told_not a0 = search (arith, rules)

opening_last : (o : Option HostError) (s : Session) (w : World)
    → (opening o s w).last ≡ w.last + cond (is_opened (opening_reply o w)) 1 0
opening_last a0 s w = search (arith, rules)

turning_last : (o : Option Session) (j n : ℕ) (w : World)
    → (turning o j n w).last ≡ w.last + cond (is_opened (turning_reply o n)) 1 0
turning_last a0 j n w = search (arith, rules, told_not)

closing_last : (o : Option Session) (w : World) → w.last ≡ w.last + cond (is_opened (closing_reply o)) 1 0
closing_last a0 w = search (arith, rules)

one_last : (e : Event) (w : World) → (after e w).last ≡ w.last + cond (is_opened (reply e w)) 1 0
one_last a0 w = search (arith, rules, opening_last, turning_last, closing_last)

last_is : (es : List Event) (w : World) → (come es w).last ≡ w.last + count_opened es w
last_is [] w = omega arith
last_is (e ∷ es) w = omega (arith, last_is es (after e w), one_last e w)

-- ---- alone

opening_own : (o : Option HostError) (s : Session) (i : ℕ) (w : World) → i ≤ w.last
    → find i (opening o s w).sessions ≡ find i w.sessions
opening_own a0 s i w h = search (arith, rules, find_other)

turning_own : (o : Option Session) (i j n : ℕ) (w : World) → find j w.sessions ≡ o
    → find i (turning o j n w).sessions
    ≡ cond (j == i) (option_map (advanced n) (find i w.sessions)) (find i w.sessions)
turning_own a0 i j n w h = search (arith, rules, same, find_replace)

own_step : (i : ℕ) (e : Event) (w : World) → IsOrdered w → i ≤ w.last
    → find i (after e w).sessions ≡ own i e (find i w.sessions)
own_step i a1 w o h = search (arith, rules, opening_own, turning_own, find_remove)

alone_is : (i : ℕ) (es : List Event) (w : World) → IsOrdered w → i ≤ w.last
    → find i (come es w).sessions ≡ alone i es (find i w.sessions)
alone_is i [] w o h = refl
alone_is i (e ∷ es) w o h =
    alone_is i es (after e w) (ordered e w o) (omega (arith, h, one_last e w)) ∙ ap (alone i es) (own_step i e w o h)

come_both : (es fs : List Event) (w : World) → come (es ++ fs) w ≡ come fs (come es w)
come_both [] fs w = refl
come_both (e ∷ es) fs w = come_both es fs (after e w)

opening_is : (o : Option HostError) (i : ℕ) (w : World) → opening_reply o w ≡ opened i → (o ≡ None) × (i ≡ w.last + 1)
opening_is a0 i w h = search (arith, rules)

opened_there : (o : Option HostError) (s : Session) (i : ℕ) (w : World) → o ≡ None → i ≡ w.last + 1 → IsOrdered w
    → (find i (opening o s w).sessions ≡ Some s) × (i ≤ (opening o s w).last)
opened_there a0 s i w n g d = search (arith, rules, find_at, above_absent)

runs_alone : (before : List Event) (k : Code) (x : Pairs) (b : Budget) (i : ℕ)
    → reply (opens k x b) (come before empty) ≡ opened i → RunsAlone before k x b i
runs_alone before k x b i h =
    search (
      arith,
      rules,
      all_ordered before empty empty_ordered,
      empty_ordered,
      opening_is,
      opened_there,
      come_both before,
      alone_is i,
      ordered (opens k x b),
      last_is before empty,
    )

pub run_alone : SessionsRunAlone
run_alone = record { alone = runs_alone; few = λ es. (all_ordered es empty empty_ordered).few }
