-- The two kinds of handles.
use Rattle.std.proofs.Common.{refl}
use Rattle.jt_ffi.specs.contracts.local.Local as Local
use Rattle.jt_ffi.specs.contracts.local_handle.LocalHandle as LocalHandle
use Rattle.jt_ffi.specs.contracts.shared.Shared as Shared
use Rattle.jt_ffi.specs.contracts.shared_handle.SharedHandle as SharedHandle
use Rattle.jt_ffi.proofs.local.Local.TheLaws as local
use Rattle.jt_ffi.proofs.shared.Shared.TheLaws as shared
use Rattle.jt_ffi.proofs.HandleWalks.{Kind}

abbrev pub local_kind : Kind
local_kind = record {
  content = Local.the_row;
  laws = local.the_row_laws;
  type = LocalHandle.the_type;
  fields = LocalHandle.the_type.as_values;
  held = λ h. h.held;
  make = λ p f m. record { at = p; full = f; held = m };
  made = λ p f m. refl;
  held_made = λ p f m. refl;
}

abbrev pub shared_kind : Kind
shared_kind = record {
  content = Shared.the_row;
  laws = shared.the_row_laws;
  type = SharedHandle.the_type;
  fields = SharedHandle.the_type.as_values;
  held = λ h. h.held;
  make = λ p f m. record { at = p; full = f; held = m };
  made = λ p f m. refl;
  held_made = λ p f m. refl;
}
