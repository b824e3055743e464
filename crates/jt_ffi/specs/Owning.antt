-- The memory that a handle owns, by the value that it holds.
use Rattle.std.specs.Prelude.{Option, None, Some, Bool, true, false}
use base.Fml.{Fml, fsep, feq, fex}
use base.Stored.{Coded}
use denote.RattleType.{RattleType}
use denote.RawPtr.{Ptr}
use Rattle.std.specs.declared.alloc.Global.{Global}
use Rattle.std.specs.contracts.impls.GlobalAllocator.TheImpl.{ghosts}
use Rattle.std.specs.Box.Ownership.{box_owns}
use Rattle.std.specs.Coded.{coded_option}

module _ (R : RattleType) where
  -- The value lies in a box of the C library's heap.
  abbrev pub held_owns : Ptr → R.Denot → Fml
  held_owns p x = fex Global (λ a. box_owns (ghosts.dealloc_token a) R p x)

  -- If the flag is set, the handle owns a boxed value at the pointer. Else it owns nothing.
  abbrev pub handle_owns : Bool → Ptr → Option R.Denot → Fml
  handle_owns f p (Some x) = fsep (feq Bool f true) (held_owns p x)
  handle_owns f p None = feq Bool f false

  -- The code by which proofs distinguish the held values.
  abbrev pub held_coded : Coded (Option R.Denot)
  held_coded = coded_option R.coded
