use Rattle.jt_ffi.specs.contracts.local_handle.LocalHandle.empty as f
use Rattle.jt_ffi.proofs.local_handle.LocalHandle.empty.Statement.{statement}
use Rattle.jt_ffi.proofs.local_handle.LocalHandle.empty.Code as code
use Rattle.jt_ffi.proofs.HandleKinds.{local_kind}
use Rattle.jt_ffi.proofs.HandleWalks.{empty_walk}

pub empty_spec : {M : Type 1} → statement M
empty_spec 𝓤 𝓛 𝓜 𝓡 wired = empty_walk local_kind 𝓤 𝓛 𝓜 𝓡 f.Key.name (code.unfolded 𝓤 𝓛.H 𝓜 𝓡 wired)
