use Rattle.jt_ffi.specs.contracts.local_handle.LocalHandle.fill as f
use Rattle.jt_ffi.proofs.local_handle.LocalHandle.fill.Statement.{statement}
use Rattle.jt_ffi.proofs.local_handle.LocalHandle.fill.Code as code
use Rattle.jt_ffi.proofs.HandleKinds.{local_kind}
use Rattle.jt_ffi.proofs.HandleWalks.{fill_walk}

pub fill_spec : {M : Type 1} → statement M
fill_spec 𝓤 𝓛 𝓜 𝓡 wired = fill_walk local_kind 𝓤 𝓛 𝓜 𝓡 f.Key.name (code.unfolded 𝓤 𝓛.H 𝓜 𝓡 wired)
