-- One more turn continues a round of turns.
use Rattle.std.proofs.Common.{◌≡◌, ℕ, ◌+◌, ◌<◌, ◌≤◌, Bool, true, false, List, arith, take, rules}
use Rattle.std.proofs.Math.Numerals.{add-one}
use Rattle.jt_machine.specs.Session.{Session, SessionLaws}
use Rattle.jt_machine.specs.declared.outcome.Progress.TheVariants as progress
use Rattle.jt_sessions.specs.Turns.{World, TurnRefused}
use Rattle.jt_sessions.specs.declared.HostError.{HostError}
use Rattle.jt_sessions.specs.declared.HostError.TheVariants as host_error
use Rattle.jt_turns.specs.SessionStates.{AreNumbered, HadTurn, HaveMoved, IsNumbered, fuel_left, have_ended}
use Rattle.jt_turns.specs.SessionStates.{progress_of}
use Rattle.jt_turns.proofs.SessionsById.{false_true}
use Rattle.jt_turns.proofs.TurnOutcomes.{had_turn, moved_length, moved_numbered, moved_turn, numbered_found, turn_ends}
use Rattle.jt_turns.proofs.TurnOutcomes.{turn_refused, turn_takes, turn_takes_some}

-- A round up to the session at the position `at`: it leads from the old sessions to those of the
-- world.
pub record Round (old : List (ℕ × Session)) (w : World) (at : ℕ) (goes : Bool) : Type 0 where
  pub moved : HaveMoved old w.sessions
  pub left : fuel_left w.sessions ≤ fuel_left old
  pub less : goes ≡ true → fuel_left w.sessions < fuel_left old
  pub ended : goes ≡ false → have_ended (take at w.sessions) ≡ true

moved_on : SessionLaws → (old : List (ℕ × Session)) (w v : World) (at n : ℕ) (g h : Bool) → Round old w at g
    → HadTurn w v (at + 1) n (progress_of h) → HaveMoved old v.sessions
moved_on laws old w v at n g h r t = search (arith, rules, had_turn, moved_turn)

-- A turn after which its session is still going continues the round.
pub on_going : SessionLaws → (old : List (ℕ × Session)) (w v : World) (at n : ℕ) (g : Bool) → 1 ≤ n → Round old w at g
    → HadTurn w v (at + 1) n progress.Going
    → Round old v (at + 1) true
on_going laws old w v at n g some r t =
    search (
      arith,
      rules,
      had_turn w v (at + 1) n,
      turn_takes_some w v (at + 1) n some,
      moved_on laws old w v at n g true r t,
      false_true,
    )

-- A turn after which its session has ended continues the round.
pub on_done : SessionLaws → (old : List (ℕ × Session)) (w v : World) (at n : ℕ) (g : Bool) → AreNumbered 1 old
    → Round old w at g → HadTurn w v (at + 1) n progress.Done
    → Round old v (at + 1) g
on_done laws old w v at n g numbered r t =
    search (
      arith,
      rules,
      had_turn w v (at + 1) n,
      turn_takes w v (at + 1) n,
      moved_numbered 1 old w.sessions r.moved numbered,
      moved_on laws old w v at n g false r t,
      add-one at,
      turn_ends w v (at + 1) at n (omega arith),
    )

-- A turn is refused only for lack of memory.
pub no_memory : (old : List (ℕ × Session)) (w v : World) (count at n : ℕ) (e : HostError) → IsNumbered count old
    → at < count → HaveMoved old w.sessions
    → TurnRefused (at + 1) n w v e → e ≡ host_error.NoMemory
no_memory old w v count at n e numbered below moved t =
    search (
      arith,
      rules,
      moved_length old w.sessions moved,
      numbered_found 1 (at + 1) at w.sessions (omega arith) (moved_numbered 1 old w.sessions moved numbered.1),
      moved_numbered 1 old w.sessions moved numbered.1,
      turn_refused w v (at + 1) n e,
    )
