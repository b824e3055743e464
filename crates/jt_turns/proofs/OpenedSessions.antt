-- If one more session is opened, the host has it, and otherwise the refusal holds.
use Rattle.std.proofs.Common.{◌≡◌, ◌∙◌, ℕ, zero, suc, ◌+◌, ◌<◌, ◌≤◌, cond, List, [], ◌∷◌, ◌++◌, length, length-append}
use Rattle.std.proofs.Common.{Option, Some, None, ap, arith, refl, sym, subst, rules}
use Rattle.std.specs.Prelude.{nat_le}
use Rattle.std.proofs.lemmas.Bool.Decides.{nat_tests}
use Rattle.jt_value.specs.Pairs.{Pairs}
use Rattle.jt_value.specs.ContextView.{pairs_of}
use Rattle.jt_image.specs.Code.{Code}
use Rattle.jt_image.specs.Config.{Budget}
use Rattle.jt_machine.specs.Session.{Session, started}
use Rattle.jt_sessions.specs.declared.HostError.{HostError}
use Rattle.jt_sessions.specs.declared.HostError.TheVariants as host_error
use Rattle.jt_sessions.specs.Turns.{World, Event, after, bar, max_id, max_sessions, opened, opening, opening_reply}
use Rattle.jt_sessions.specs.Turns.{opens, reply, OpenRefused}
use Rattle.jt_turns.specs.Openings.{Opening}
use Rattle.jt_turns.specs.Outcomes.{IsNotOpened}
use Rattle.jt_turns.specs.Numbering.{ids_from, ids_of}
use Rattle.jt_turns.specs.SessionStates.{AreNumbered, AreSessions, IsNumbered, IsSession, Stands, first_of}
use Rattle.jt_turns.proofs.SessionsById.{one_session_more}
use Rattle.jt_turns.proofs.TurnOutcomes.{as_many, not_advanced}

-- The world with one more session.
one_more : World → Session → World
one_more w s = record { last = w.last + 1; sessions = w.sessions ++ (w.last + 1, s) ∷ [] }

-- A host that opened a session has had space for it.
had_place : (w : World) (i : ℕ) → opening_reply (bar w) w ≡ opened i → length w.sessions < max_sessions
had_place w i told = search (arith, rules, nat_tests)

opened_world : (w v : World) (k : Code) (x : Pairs) (b : Budget) (i : ℕ) → v ≡ after (opens k x b) w
    → reply (opens k x b) w ≡ opened i → v ≡ one_more w (started k x b)
unfolding one_more
opened_world w v k x b i is told = go (bar w) is told
  where
    go : (o : Option HostError) → v ≡ opening o (started k x b) w → opening_reply o w ≡ opened i
        → v ≡ one_more w (started k x b)
    go None e r = e
    go (Some h) e r = absurd (cc)

-- The id in the reply is the next one.
opened_id : (w : World) (k : Code) (x : Pairs) (b : Budget) (i : ℕ) → reply (opens k x b) w ≡ opened i → w.last + 1 ≡ i
opened_id w k x b i told = search (arith, rules)

full_at : (n m : ℕ) (e : HostError)
    → cond (nat_le max_sessions n) (Some host_error.Full) (cond (nat_le max_id m) (Some host_error.NoId) None) ≡ Some e
    → m ≡ n
    → (e ≡ host_error.Full) × (max_sessions < n + 1)
full_at n m e is same = search (arith, rules, nat_tests)

-- A list of length 0 is empty.
pub nil_of : {A : Type 0} → (xs : List A) (n : ℕ) → length xs ≡ n → n ≡ 0 → xs ≡ []
nil_of [] n e z = refl
nil_of (x ∷ xs) n e z = absurd (omega (arith, e, z))

-- The event that opens the session of an image.
abbrev pub its_opening : Opening → Event
its_opening o = opens o.start.code (pairs_of o.start.context) o.budget

pub stands_more : (os : List Opening) (o : Opening) (w v : World) (i : ℕ) → Stands os w → v ≡ after (its_opening o) w
    → reply (its_opening o) w ≡ opened i → Stands (os ++ o ∷ []) v
unfolding one_more
stands_more os o w v i h is told =
    let x = first_of o in
    let session : IsSession o x = (0, not_advanced x) in
    let id : 1 + length os ≡ w.last + 1 = omega (arith, h.0) in
    let more =
    subst (λ (n : ℕ). AreAll (w.sessions ++ (n, x) ∷ [])) id (one_session_more 1 os o w.sessions x h.1 session) in
    let last : w.last + 1 ≡ length (os ++ o ∷ []) = ap (λ (n : ℕ). n + 1) h.0 ∙ sym (length-append os (o ∷ [])) in
    let place = had_place w i told in
    let many = as_many 1 os w.sessions h.1 in
    let one = length-append os (o ∷ []) in
    let few : length (os ++ o ∷ []) ≤ max_sessions = omega (arith, place, many, one) in
    subst (Stands (os ++ o ∷ [])) (sym (opened_world w v o.start.code (pairs_of o.start.context) o.budget i is told))
    (last, more, few)
  where
    AreAll : List (ℕ × Session) → Type 0
    AreAll es = AreSessions 1 (os ++ o ∷ []) es

-- An image is not opened if the host is full or has no memory.
pub refused_start : (os : List Opening) (w : World) (e : HostError) → Stands os w → OpenRefused w e → IsNotOpened os e
refused_start os w a2 h why = search (arith, rules, as_many, full_at)

-- ---- consecutive ids

-- Sessions with these ids are numbered.
ids_are_numbered : (i n : ℕ) (es : List (ℕ × Session)) → ids_of es ≡ ids_from i n → (length es ≡ n) × AreNumbered i es
ids_are_numbered i zero [] e = (refl, tt)
ids_are_numbered i zero (x ∷ es) e = absurd (cc)
ids_are_numbered i (suc n) [] e = absurd (cc)
ids_are_numbered i (suc n) (x ∷ es) e = search (arith, rules, ids_are_numbered (i + 1) n es)

pub are_numbered : (n : ℕ) (es : List (ℕ × Session)) → ids_of es ≡ ids_from 1 n → IsNumbered n es
are_numbered n es e = ids_are_numbered 1 n es e

one_from_more : (i n : ℕ) → ids_from i n ++ (i + n) ∷ [] ≡ ids_from i (suc n)
one_from_more i zero = let same : i + 0 ≡ i = omega arith in ap (λ (j : ℕ). j ∷ []) same
one_from_more i (suc n) = search (arith, rules, one_from_more (i + 1) n)

ids_behind : (es : List (ℕ × Session)) (j : ℕ) (s : Session) → ids_of (es ++ (j, s) ∷ []) ≡ ids_of es ++ j ∷ []
ids_behind [] j s = refl
ids_behind (e ∷ es) j s = ap (λ (js : List ℕ). e.0 ∷ js) (ids_behind es j s)

-- The world after one more session, which has the next id.
pub record NextId (v : World) (i : ℕ) : Type 0 where
  pub numbered : ids_of v.sessions ≡ ids_from 1 i
  pub last : v.last ≡ i

pub next_id : (w v : World) (k : Code) (x : Pairs) (b : Budget) (i n : ℕ) → ids_of w.sessions ≡ ids_from 1 n
    → w.last ≡ n
    → v ≡ after (opens k x b) w → reply (opens k x b) w ≡ opened i → NextId v i
unfolding one_more
next_id w v k x b i n numbered last is told =
    let s = started k x b in
    let new = opened_world w v k x b i is told in
    let id : w.last + 1 ≡ i = opened_id w k x b i told in
    let after_last : 1 + n ≡ w.last + 1 = omega (arith, last) in
    let count : suc n ≡ i = omega (arith, last, id) in
    let behind : ids_of (w.sessions ++ (w.last + 1, s) ∷ []) ≡ ids_from 1 (suc n) =
    ids_behind w.sessions (w.last + 1) s ∙ (ap (λ (js : List ℕ). js ++ (w.last + 1) ∷ []) numbered
    ∙ (ap (λ (j : ℕ). ids_from 1 n ++ j ∷ []) (sym after_last) ∙ one_from_more 1 n)) in
    rw new (record { numbered = behind ∙ ap (ids_from 1) count; last = id })
