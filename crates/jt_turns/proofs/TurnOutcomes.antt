-- Sessions that have turns end with the outcomes of their images.
use Rattle.std.proofs.Common.{◌≡◌, ◌∙◌, ℕ, zero, suc, ◌+◌, ◌-◌, ◌<◌, ◌≤◌, Bool, true, false, cond, List, [], ◌∷◌, ◌++◌}
use Rattle.std.proofs.Common.{◌&&◌, length, take, Option, Some, None, ap, arith, refl, sym, subst, append_assoc}
use Rattle.std.proofs.Common.{append-nil, is_some, option_map, option_to_list, rules}
use Rattle.std.specs.Prelude.{◌==◌, IfOk, IsErrAnd, MatchResult, Result, Ok, Err, String, string_bytes}
use Rattle.std.specs.declared.alloc.AllocError.{AllocError}
use Rattle.std.specs.declared.alloc.Global.{Global}
use Rattle.std.proofs.lemmas.Bool.{eqb-true, eq-eqb, and_parts}
use Rattle.jt_image.specs.Code.{Code}
use Rattle.jt_image.specs.Config.{Outcome}
use Rattle.jt_machine.specs.Session.{Session, RunStage, SessionLaws, advanced, end_of, moved, outcome_of}
use Rattle.jt_machine.specs.Session.{stage_progress}
use Rattle.jt_machine.specs.declared.outcome.Progress.{Progress}
use Rattle.jt_machine.specs.declared.outcome.Progress.TheVariants as progress
use Rattle.jt_sessions.specs.declared.HostError.{HostError}
use Rattle.jt_sessions.specs.declared.HostError.TheVariants as host_error
use Rattle.jt_sessions.specs.Turns.{World, find, replace, turn_reply, turned, OutcomeRefused, TurnRefused}
use Rattle.jt_turns.specs.Openings.{Opening}
use Rattle.jt_turns.specs.Lines.{session_line, session_lines}
use Rattle.jt_turns.specs.Outcomes.{AreOutcomes, TakesTurns}
use Rattle.jt_turns.specs.SessionStates.{AreNumbered, AreSessions, HadTurn, HaveMoved, IsNumbered, IsSession, fuel_left}
use Rattle.jt_turns.specs.SessionStates.{have_ended, outcomes}
use Rattle.jt_turns.proofs.StepsTakeFuel.{less, no_more}
use Rattle.jt_turns.proofs.SessionsById.{false_true, moved_session, replaced_fuel, run_of}

-- ---- sessions that move

stays : (k : Code) (s : RunStage) → moved k 0 s ≡ s
stays k a1 = search (arith, rules)

pub not_advanced : (s : Session) → s ≡ advanced 0 s
not_advanced s = sym (ap (λ (x : RunStage). record s { stage = x }) (stays s.code s.stage))

pub moved_none : (es : List (ℕ × Session)) → HaveMoved es es
moved_none [] = tt
moved_none (e ∷ es) = (refl, (0, not_advanced e.1), moved_none es)

pub moved_both : SessionLaws → (ds es fs : List (ℕ × Session)) → HaveMoved ds es → HaveMoved es fs → HaveMoved ds fs
moved_both laws (d ∷ ds) (e ∷ es) (f ∷ fs) h g = search (arith, rules, moved_both laws ds es fs h.2 g.2)
moved_both laws a1 a2 a3 h g = search (arith, rules)

pub moved_turn : SessionLaws → (j n : ℕ) (s : Session) (ds es : List (ℕ × Session)) → HaveMoved ds es
    → find j es ≡ Some s → HaveMoved ds (replace j (advanced n s) es)
moved_turn laws j n s (d ∷ ds) (x ∷ es) h e = search (arith, rules, moved_turn laws j n s ds es h.2, eqb-true)
moved_turn laws j n s a4 a5 h e = search (arith, rules)

pub moved_length : (ds es : List (ℕ × Session)) → HaveMoved ds es → length es ≡ length ds
moved_length (d ∷ ds) (e ∷ es) h = ap suc (moved_length ds es h.2)
moved_length a0 a1 h = search (arith, rules)

pub moved_numbered : (i : ℕ) (ds es : List (ℕ × Session)) → HaveMoved ds es → AreNumbered i ds → AreNumbered i es
moved_numbered i (d ∷ ds) (e ∷ es) h n = (sym h.0 ∙ n.0, moved_numbered (i + 1) ds es h.2 n.1)
moved_numbered i a1 a2 h n = search (arith, rules)

pub moved_are_numbered : (n : ℕ) (ds es : List (ℕ × Session)) → HaveMoved ds es → IsNumbered n ds → IsNumbered n es
moved_are_numbered n ds es h is = (moved_length ds es h ∙ is.0, moved_numbered 1 ds es h is.1)

-- ---- sessions by their ids

pub numbered_found : (i j n : ℕ) (es : List (ℕ × Session)) → j ≡ i + n → AreNumbered i es → n < length es
    → (s : Session) × (find j es ≡ Some s)
numbered_found i j n [] is h within = absurd (omega (arith, within))
numbered_found i j zero (x ∷ es) is h within = go (x.0 == j) refl
  where
    go : (c : Bool) → (x.0 == j) ≡ c → (s : Session) × (cond c (Some x.1) (find j es) ≡ Some s)
    go true e = (x.1, refl)
    go false e = let at : x.0 ≡ j = h.0 ∙ omega (arith, is) in absurd (false_true (sym e ∙ eq-eqb x.0 j at))
numbered_found i j (suc n) (x ∷ es) is h within =
    search (arith, rules, numbered_found (i + 1) j n es (omega (arith, is)) h.1 (omega (arith, within)))

pub ended_at : (j : ℕ) (s : Session) (es : List (ℕ × Session)) → have_ended es ≡ true → find j es ≡ Some s
    → is_some (outcome_of s) ≡ true
ended_at j s [] h e = absurd (cc)
ended_at j s (x ∷ es) h e = search (arith, rules, ended_at j s es, is_some, and_parts)

-- If the first `n` sessions have ended and the next one ends, the first `n + 1` have ended.
pub ended_more : (i j n : ℕ) (t : Session) (es : List (ℕ × Session)) → j ≡ i + n → AreNumbered i es
    → is_some (outcome_of t) ≡ true
    → have_ended (take n es) ≡ true → have_ended (take (suc n) (replace j t es)) ≡ true
ended_more i j n t [] is h end so = refl
ended_more i j zero t (x ∷ es) is h end so = search (arith, rules, eq-eqb)
ended_more i j (suc n) t (x ∷ es) is h end so =
    search (arith, rules, and_parts, is_some, ended_more (i + 1) j n t es (omega (arith, is)) h.1 end, eqb-true)

-- ---- a turn

-- The session that had a turn, and the reply to the turn.
pub record Took (w v : World) (j n : ℕ) (p : Progress) : Type 0 where
  pub session : Session
  pub found : find j w.sessions ≡ Some session
  pub told : stage_progress (advanced n session).stage ≡ Some p
  pub new : v.sessions ≡ replace j (advanced n session) w.sessions

told_so : (o : Option Progress) (p : Progress) → turn_reply o ≡ turned p → o ≡ Some p
told_so a0 p e = search (arith, rules)

pub had_turn : (w v : World) (j n : ℕ) (p : Progress) → HadTurn w v j n p → Took w v j n p
had_turn w v j n p h = search (arith, rules, told_so)

pub turn_takes : (w v : World) (j n : ℕ) (p : Progress) → Took w v j n p → fuel_left v.sessions ≤ fuel_left w.sessions
turn_takes w v j n p t =
    let s = t.session in
    let sums = replaced_fuel j s (advanced n s) w.sessions t.found in
    let falls = no_more s.code n s.stage in
    let is : fuel_left v.sessions ≡ fuel_left (replace j (advanced n s) w.sessions) = ap fuel_left t.new in
    omega (arith, sums, falls, is)

pub turn_takes_some : (w v : World) (j n : ℕ) → 1 ≤ n → Took w v j n progress.Going
    → fuel_left v.sessions < fuel_left w.sessions
turn_takes_some w v j n some t =
    let s = t.session in
    let sums = replaced_fuel j s (advanced n s) w.sessions t.found in
    let falls = less s.code n s.stage some t.told in
    let is : fuel_left v.sessions ≡ fuel_left (replace j (advanced n s) w.sessions) = ap fuel_left t.new in
    omega (arith, sums, falls, is)

done_so : (s : RunStage) → stage_progress s ≡ Some progress.Done → is_some (end_of s) ≡ true
done_so a0 e = search (arith, rules)

pub turn_ends : (w v : World) (j m n : ℕ) → j ≡ 1 + m → AreNumbered 1 w.sessions → Took w v j n progress.Done
    → have_ended (take m w.sessions) ≡ true → have_ended (take (suc m) v.sessions) ≡ true
turn_ends w v j m n is numbered t so = search (arith, rules, ended_more, done_so)

-- A turn of a session that exists is refused only for lack of memory.
pub turn_refused : (w v : World) (j n : ℕ) (e : HostError) → ((s : Session) × (find j w.sessions ≡ Some s))
    → TurnRefused j n w v e → e ≡ host_error.NoMemory
turn_refused w v j n a4 found h = search (arith, rules)

-- ---- outcomes

-- The lines of the sessions with one more session have its line at the end.
pub lines_more : (i j n : ℕ) (s : Session) (o : Outcome) (es : List (ℕ × Session)) → j ≡ i + n → AreNumbered i es
    → n < length es → have_ended es ≡ true
    → find j es ≡ Some s → outcome_of s ≡ Some o
    → session_lines i (outcomes (take (suc n) es)) ≡ session_lines i (outcomes (take n es)) ++ session_line j o
lines_more i j (suc n) s o (x ∷ es) is h most so found end =
    search (
      arith,
      rules,
      lines_more (i + 1) j n s o es (omega (arith, is)) h.1 (omega (arith, most)),
      is_some,
      and_parts,
      eqb-true,
      false_true,
      append_assoc,
    )
lines_more i j a2 s o a5 is h most so found a11 = search (arith, rules, eq-eqb, append-nil)

-- ---- what a host reports of sessions that have ended

-- A session with an id within the count exists and has an outcome.
pub ended_session : (i n : ℕ) (es : List (ℕ × Session)) → 1 ≤ i → i ≤ n → IsNumbered n es → have_ended es ≡ true
    → (s : Session) × (find i es ≡ Some s) × (is_some (outcome_of s) ≡ true)
ended_session i n es first last h so =
    search (arith, rules, numbered_found 1 i (i - 1) es (omega (arith, first)) h.1, ended_at i)

-- The host reports the outcome of a session that has ended.
pub is_told : (es : List (ℕ × Session)) (i : ℕ)
    → ((s : Session) × (find i es ≡ Some s) × (is_some (outcome_of s) ≡ true))
    → Some None ≡ option_map outcome_of (find i es) → ⊥
is_told es i h e = search (arith, rules, option_map, false_true, is_some)

-- The host does not refuse the outcome of a session that has ended.
pub is_not_refused : (es : List (ℕ × Session)) (i : ℕ) (e : HostError)
    → ((s : Session) × (find i es ≡ Some s) × (is_some (outcome_of s) ≡ true))
    → OutcomeRefused (find i es) e → ⊥
is_not_refused es i a2 h r = search (arith, rules, is_some, false_true)

pub as_many : (i : ℕ) (os : List Opening) (es : List (ℕ × Session)) → AreSessions i os es → length es ≡ length os
as_many i (o ∷ os) (e ∷ es) h = ap suc (as_many (i + 1) os es h.2)
as_many i a1 a2 h = search (arith, rules)

-- Sessions that moved are still those of the images.
pub still_sessions : SessionLaws → (i : ℕ) (os : List Opening) (ds es : List (ℕ × Session)) → AreSessions i os ds
    → HaveMoved ds es → AreSessions i os es
still_sessions laws i (o ∷ os) (d ∷ ds) (e ∷ es) h m = (
  sym m.0 ∙ h.0,
  subst (IsSession o) (sym m.1.1) (moved_session laws o d.1 m.1.0 h.1),
  still_sessions laws (i + 1) os ds es h.2 m.2,
)
still_sessions laws i a2 a3 a4 h m = search (arith, rules)

-- Sessions that have ended have the outcomes of their images.
pub outcomes_are : (i : ℕ) (os : List Opening) (es : List (ℕ × Session)) → AreSessions i os es → have_ended es ≡ true
    → AreOutcomes os (outcomes es)
outcomes_are i (o ∷ os) (e ∷ es) h so =
    search (arith, rules, outcomes_are (i + 1) os es h.2, is_some, and_parts, option_to_list, false_true, run_of)
outcomes_are i a1 a2 h so = search (arith, rules)

-- The result is the text of the outcomes, or lack of memory.
pub said : (openings : List Opening) (os : List Outcome) (r : Result (String Global) AllocError)
    (s : Result (String Global) HostError) (Q : AllocError → HostError → Type 0)
    → AreOutcomes openings os
    → IfOk r (λ t. string_bytes t ≡ session_lines 1 os) → MatchResult r (λ t. s ≡ Ok t) (λ e. IsErrAnd s (Q e))
    → ((e : AllocError) (x : HostError) → Q e x → x ≡ host_error.NoMemory) → TakesTurns openings s
said openings os (Ok t) s Q are told m why = subst (TakesTurns openings) (sym m) (os, are, told)
said openings os (Err e) (Err x) Q are told m why = why e x m
said openings os (Err e) (Ok t) Q are told m why = absurd m
