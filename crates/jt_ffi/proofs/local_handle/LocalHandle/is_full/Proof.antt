use Rattle.jt_ffi.specs.contracts.local_handle.LocalHandle.is_full as f
use Rattle.jt_ffi.proofs.local_handle.LocalHandle.is_full.Statement.{statement}
use Rattle.jt_ffi.proofs.local_handle.LocalHandle.is_full.Code as code
use Rattle.jt_ffi.proofs.HandleKinds.{local_kind}
use Rattle.jt_ffi.proofs.HandleWalks.{is_full_walk}

pub is_full_spec : {M : Type 1} → statement M
is_full_spec 𝓤 𝓛 𝓜 𝓡 wired = is_full_walk local_kind 𝓤 𝓛 𝓜 𝓡 f.Key.name (code.unfolded 𝓤 𝓛.H 𝓜 𝓡 wired)
