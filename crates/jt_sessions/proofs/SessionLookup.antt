-- The position of a session in a list is where its id is found first.
use Rattle.std.proofs.Common.{◌≡◌, ◌≢◌, ℕ, zero, suc, ◌+◌, ◌<◌, ◌≤◌, Bool, false, List, [], ◌∷◌, ◌++◌, length, take}
use Rattle.std.proofs.Common.{get_or, set, remove, Option, Some, None, refl, sym, ap, subst, ◌∙◌, arith, drop-cons}
use Rattle.std.proofs.Common.{rules}
use Rattle.std.specs.Prelude.{◌==◌, option_map, slice_set}
use Rattle.std.proofs.lemmas.Bool.Decides.{nat_tests}
use Rattle.std.proofs.lemmas.List.{take-append-drop, take_more, length-take}
use Rattle.std.proofs.Math.Seq.{set-append_seam, get_or-append_seam}
use Rattle.jt_image.specs.Config.{Outcome}
use Rattle.jt_machine.specs.Growing.{MayLose}
use Rattle.jt_machine.specs.declared.Progress.{Progress}
use Rattle.jt_machine.specs.Session.{Session, advanced, lost_session, is_lost, outcome_of, stage_progress}
use Rattle.jt_sessions.specs.Turns.{World, find, replace, with_sessions, bar, max_sessions, max_id, turning, turned}
use Rattle.jt_sessions.specs.Turns.{closed, turning_reply, closing_reply, IsLost}
use Rattle.jt_sessions.specs.Turns as turns
use Rattle.jt_sessions.specs.internal.Positions.{IsAt}
use Rattle.jt_sessions.proofs.SessionIsolation.{apart, find_at, replace_at, remove_at, remove_absent}

pub is_other : (a b : ℕ) → a ≢ b → (a == b) ≡ false
is_other a b h = apart a b h

find_snoc : (i : ℕ) (e : ℕ × Session) (es : List (ℕ × Session)) → find i es ≡ None → (e.0 == i) ≡ false
    → find i (es ++ e ∷ []) ≡ None
find_snoc i e [] h n = rw n refl
find_snoc i e (f ∷ es) h n = search (arith, rules, find_snoc i e es)

-- If the entry at a position has another id, the search passes it.
pub not_yet : (i p : ℕ) (xs : List (ℕ × Session)) (e : ℕ × Session) → p < length xs → e ≡ get_or xs p e
    → find i (take p xs) ≡ None → (e.0 == i) ≡ false → find i (take (p + 1) xs) ≡ None
not_yet i p xs e h s n d =
    ap (find i) (take_more xs p e h ∙ ap (λ (f : ℕ × Session). take p xs ++ f ∷ []) (sym s))
    ∙ find_snoc i e (take p xs) n d

-- An entry with the id is the first one, if no entry before it has the id.
pub at_place : (i p : ℕ) (xs : List (ℕ × Session)) (e : ℕ × Session) → p < length xs → e ≡ get_or xs p e
    → find i (take p xs) ≡ None → e.0 ≡ i → IsAt i p xs
at_place i p xs e h s n d = search (arith, rules, take-append-drop p xs, drop-cons xs p e h, length-take p xs)

whole : (p : ℕ) (ys : List (ℕ × Session)) → length ys ≤ p → take p ys ≡ ys
whole zero [] h = refl
whole zero (y ∷ ys) h = absurd (omega (arith, h))
whole (suc p) [] h = refl
whole (suc p) (y ∷ ys) h = ap (λ (zs : List (ℕ × Session)). y ∷ zs) (whole p ys (omega (arith, h)))

-- If no entry up to the end has the id, the list has no session with it.
pub absent : (i : ℕ) (p : ℕ) (xs : List (ℕ × Session)) → length xs ≤ p → find i (take p xs) ≡ None → find i xs ≡ None
absent i p xs h n = subst (λ (ys : List (ℕ × Session)). find i ys ≡ None) (whole p xs h) n

pub found : (i p : ℕ) (xs : List (ℕ × Session)) (a : IsAt i p xs) → find i xs ≡ Some a.session
found i p xs a = ap (find i) a.parts ∙ find_at i a.session a.before a.behind a.first

pub replaced : (i p : ℕ) (t : Session) (xs : List (ℕ × Session)) (a : IsAt i p xs) → set xs p (i, t) ≡ replace i t xs
replaced i p t xs a = search (arith, rules, set-append_seam, replace_at)

remove_seam : (xs : List (ℕ × Session)) (y : ℕ × Session) (ys : List (ℕ × Session))
    → remove (xs ++ y ∷ ys) (length xs) ≡ xs ++ ys
remove_seam [] y ys = refl
remove_seam (x ∷ xs) y ys = ap (λ (zs : List (ℕ × Session)). x ∷ zs) (remove_seam xs y ys)

pub removed : (i p : ℕ) (xs : List (ℕ × Session)) (a : IsAt i p xs) → remove xs p ≡ turns.remove i xs
removed i p xs a = search (arith, rules, remove_seam, remove_at)

-- The entry at the position of an id is its session.
pub there : (i p : ℕ) (xs : List (ℕ × Session)) (d : ℕ × Session) (a : IsAt i p xs) → get_or xs p d ≡ (i, a.session)
there i p xs d a = search (arith, rules, get_or, get_or-append_seam)

long : (ys : List (ℕ × Session)) (e : ℕ × Session) (zs : List (ℕ × Session)) → length ys < length (ys ++ e ∷ zs)
long [] e zs = omega arith
long (y ∷ ys) e zs = omega (arith, long ys e zs)

pub within : (i p : ℕ) (xs : List (ℕ × Session)) (a : IsAt i p xs) → p < length xs
within i p xs a = omega (arith, a.place, ap length a.parts, long a.before (i, a.session) a.behind)

-- ---- the effects of the calls

set_at : (i p : ℕ) (xs : List (ℕ × Session)) (e : ℕ × Session) (t : Session) (a : IsAt i p xs) → e ≡ (i, a.session)
    → slice_set xs p (e.0, t) ≡ replace i t xs
set_at i p xs e t a h = ap (λ (j : ℕ). slice_set xs p (j, t)) (ap (λ (f : ℕ × Session). f.0) h) ∙ replaced i p t xs a

pub turned_at : (w : World) (i p n : ℕ) (e : ℕ × Session) (t : Session) (a : IsAt i p w.sessions) → e ≡ (i, a.session)
    → t ≡ advanced n e.1 → with_sessions w (slice_set w.sessions p (e.0, t)) ≡ turning (find i w.sessions) i n w
turned_at w i p n e t a h g = search (arith, rules, set_at i p w.sessions e t a h, found i p w.sessions a)

pub replied_at : (w : World) (i p n : ℕ) (e : ℕ × Session) (t : Session) (r : Progress) (a : IsAt i p w.sessions)
    → e ≡ (i, a.session) → t ≡ advanced n e.1 → stage_progress t.stage ≡ Some r
    → turning_reply (find i w.sessions) n ≡ turned r
replied_at w i p n e t r a h g m = search (arith, rules, found i p w.sessions a)

pub lost_at : (w : World) (i p n : ℕ) (e : ℕ × Session) (t : Session) (a : IsAt i p w.sessions) → e ≡ (i, a.session)
    → t ≡ lost_session e.1 → outcome_of e.1 ≡ None → MayLose n e.1
    → IsLost i n w (with_sessions w (slice_set w.sessions p (e.0, t)))
lost_at w i p n e t a h g u m =
    let itself : e.1 ≡ a.session = ap (λ (f : ℕ × Session). f.1) h in
    record {
      session = a.session;
      found = found i p w.sessions a;
      unended = sym (ap outcome_of itself) ∙ u;
      memory = subst (MayLose n) itself m;
      lost =
          ap (with_sessions w)
          (set_at i p w.sessions e t a h
          ∙ ap (λ (s : Session). replace i s w.sessions) (g ∙ ap lost_session itself));
    }

pub closed_at : (w : World) (i p : ℕ) (xs : List (ℕ × Session)) (a : IsAt i p w.sessions) → xs ≡ remove w.sessions p
    → with_sessions w xs ≡ with_sessions w (turns.remove i w.sessions)
closed_at w i p xs a h = ap (with_sessions w) (h ∙ removed i p w.sessions a)

pub closed_reply : (w : World) (i p : ℕ) (e : ℕ × Session) (o : Option Outcome) (a : IsAt i p w.sessions)
    → e ≡ (i, a.session) → o ≡ outcome_of e.1 → closing_reply (find i w.sessions) ≡ closed o
closed_reply w i p e o a h g =
    ap closing_reply (found i p w.sessions a) ∙ ap closed (sym (g ∙ ap (λ (f : ℕ × Session). outcome_of f.1) h))

pub none_closed : (w : World) (i : ℕ) → find i w.sessions ≡ None → w ≡ with_sessions w (turns.remove i w.sessions)
none_closed w i h = ap (with_sessions w) (sym (remove_absent i w.sessions h))

pub lost_there : (w : World) (i p : ℕ) (e : ℕ × Session) (z : Bool) (a : IsAt i p w.sessions) → e ≡ (i, a.session)
    → is_lost e.1.stage ≡ z → option_map (λ s. is_lost s.stage) (find i w.sessions) ≡ Some z
lost_there w i p e z a h g =
    ap (option_map (λ (s : Session). is_lost s.stage)) (found i p w.sessions a)
    ∙ ap Some (ap (λ (f : ℕ × Session). is_lost f.1.stage) (sym h) ∙ g)

pub outcome_there : (w : World) (i p : ℕ) (e : ℕ × Session) (o : Option Outcome) (a : IsAt i p w.sessions)
    → e ≡ (i, a.session) → o ≡ outcome_of e.1 → Some o ≡ option_map outcome_of (find i w.sessions)
outcome_there w i p e o a h g =
    ap Some (g ∙ ap (λ (f : ℕ × Session). outcome_of f.1) h) ∙ sym (ap (option_map outcome_of) (found i p w.sessions a))

pub no_bar : (w : World) → length w.sessions < max_sessions → w.last < max_id → bar w ≡ None
no_bar w h g = search (arith, rules, nat_tests)
