-- The outcome of a computation: a result, a fault with the place of its tag, or calls deeper than
-- the allowed depth.
use Rattle.std.specs.Prelude.{Option, Some, None, Result, Ok, Err}
use Rattle.jt_value.specs.declared.fault.Fault.{Fault}
use Rattle.jt_value.specs.Place.{Place}

pub data Eval (A : Type 0) : Type 0 where
  gives : A → Eval A
  fails : Fault → Option Place → Eval A
  deeper : Eval A

abbrev pub bind : {A B : Type 0} → Eval A → (A → Eval B) → Eval B
bind (gives x) f = f x
bind (fails e p) f = fails e p
bind deeper f = deeper

abbrev pub checked : {A : Type 0} → Result A Fault → Eval A
checked (Ok x) = gives x
checked (Err e) = fails e None

-- The outcome, with this place set for a fault that has no place.
abbrev pub at : {A : Type 0} → Place → Eval A → Eval A
at p (gives x) = gives x
at p (fails e None) = fails e (Some p)
at p (fails e (Some q)) = fails e (Some q)
at p deeper = deeper
