use Rattle.jt_ffi.specs.contracts.shared_handle.SharedHandle.empty as f
use Rattle.jt_ffi.proofs.shared_handle.SharedHandle.empty.Statement.{statement}
use Rattle.jt_ffi.proofs.shared_handle.SharedHandle.empty.Code as code
use Rattle.jt_ffi.proofs.HandleKinds.{shared_kind}
use Rattle.jt_ffi.proofs.HandleWalks.{empty_walk}

pub empty_spec : {M : Type 1} → statement M
empty_spec 𝓤 𝓛 𝓜 𝓡 wired = empty_walk shared_kind 𝓤 𝓛 𝓜 𝓡 f.Key.name (code.unfolded 𝓤 𝓛.H 𝓜 𝓡 wired)
