-- The bytes that sinks take of the bytes that are passed to them.
use Rattle.std.specs.Prelude.{◌≡◌, ◌≢◌, ℕ, List, [], ◌++◌, Option, Result, Ok, Err}
use Rattle.std.specs.Result.{MatchResult}
use Rattle.std.specs.Io.{WritesAtMost}
use Rattle.std.specs.Io.KnownBytes.{Appends, WriteAppends}
use Rattle.std.specs.declared.io.Error.{Error}

-- A sink has taken all of these bytes except the rest, if the bytes that it took are known.
pub record TookTo (rest all : List ℕ) (old new : Option (List ℕ)) : Type 0 where
  pub front : List ℕ
  pub parts : all ≡ front ++ rest
  pub taken : Appends old new front

-- A sink has taken a prefix of these bytes.
abbrev pub TookFront : List ℕ → Option (List ℕ) → Option (List ℕ) → Type 0
TookFront all old new = (rest : List ℕ) × TookTo rest all old new

-- A sink has taken all of these bytes, or a prefix of them if it refused a piece.
abbrev pub HasPut : {A E : Type 0} → Result A E → List ℕ → Option (List ℕ) → Option (List ℕ)
    → Type 0
HasPut r all old new = MatchResult r (λ _. Appends old new all) (λ _. TookFront all old new)

-- A writer's result for a piece is a failure: an error, or no byte taken of a piece that is not
-- empty.
abbrev pub IsFailure : List ℕ → Result ℕ Error → Type 0
IsFailure piece (Ok n) = (n ≡ 0) × (piece ≢ [])
IsFailure piece (Err e) = Unit {0}

-- A writer took a piece as its result states, and failed.
pub record HasFailed (old new : Option (List ℕ)) (piece : List ℕ) : Type 0 where
  pub answer : Result ℕ Error
  pub within : WritesAtMost answer piece
  pub wrote : WriteAppends old new answer piece
  pub failure : IsFailure piece answer
