-- A handle may go to another thread: what it holds may, and any thread may free memory of the C library's heap.
use Rattle.std.proofs.Common.{Bool, Option, Some, None}
use mir.Raw.{raw}
use base.Shift.{Keyless}
use denote.Memory.{lone}
use denote.RawPtr.{Ptr}
use denote.Struct.Struct.{exits_of}
use denote.Struct.Owning.{shape, fields, to}
use denote.Param.Send.{IsSend, AllSend, owning_send, struct_send, sendable}
use Rattle.std.proofs.Crossing as heap
use Rattle.std_alloc.proofs.SendSync.{quiet, lies}
use Rattle.jt_ffi.specs.Owning.{handle_owns}
use Rattle.jt_ffi.specs.contracts.shared.Shared as held
use Rattle.jt_ffi.proofs.shared.Shared.TheSendSync.{the_send}
use Rattle.jt_ffi.specs.contracts.shared_handle.SharedHandle.{the_row, the_type}

keyless : (f : Bool) (p : Ptr) (m : Option held.the_row.Denot) → Keyless (handle_owns held.the_row f p m)
keyless f p (Some x) = (tt, λ g. (lies held.the_row the_send p x, heap.frees.frees g (raw (lone held.the_row.mir)) p))
keyless f p None = tt

pub send : IsSend the_row
send =
    let all : AllSend (fields the_type) = (search sendable, (search sendable, tt)) in
    owning_send the_type all (λ d. keyless d.full d.at d.held)
    (λ k. quiet (to the_type) (exits_of k (fields the_type)) ((struct_send (shape the_type) all).leaving k))
