-- The position of a session in a list. Only private clauses cite this.
use Rattle.std.specs.Prelude.{◌≡◌, ℕ, List, ◌∷◌, ◌++◌, length, None}
use Rattle.jt_machine.specs.Session.{Session}
use Rattle.jt_sessions.specs.Turns.{find}

-- The first entry with the id `i` is at position `p`.
pub record IsAt (i p : ℕ) (all : List (ℕ × Session)) : Type 0 where
  pub before : List (ℕ × Session)
  pub session : Session
  pub behind : List (ℕ × Session)
  pub parts : all ≡ before ++ (i, session) ∷ behind
  pub place : p ≡ length before
  pub first : find i before ≡ None
