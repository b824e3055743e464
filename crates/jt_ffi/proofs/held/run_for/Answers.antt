use Rattle.std.proofs.Common.{ℕ, Global, Vec, ap}
use Rattle.jt_ffi.proofs.held.run_for.Goals as goal

pub returns-in_ok-run_verified-in-Context : goal.returns-in_ok-run_verified-in-Context
returns-in_ok-run_verified-in-Context c =
    let text = c.in_ok-run_verified-in-Context.field-0 in
    rw c.in-Context.is
    (text, ap (λ (v : Vec ℕ Global). v.items) c.into_bytes.ensures.value, c.in_ok-run_verified-in-Context.ensures)
