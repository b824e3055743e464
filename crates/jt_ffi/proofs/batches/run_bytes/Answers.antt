use Rattle.std.proofs.Common.{Some, inl, refl, subst}
use Rattle.jt_ffi.specs.Handles.{RunsHeld}
use Rattle.jt_ffi.specs.declared.local.Local.TheVariants.{Context}
use Rattle.jt_ffi.specs.declared.shared.Shared.{Shared}
use Rattle.jt_ffi.proofs.batches.run_bytes.Goals as goal

pub returns-in-Some : goal.returns-in-Some
returns-in-Some c =
    let x = Context c.in_ok-context_of.field-0 in
    let run = subst (λ (m : Shared). RunsHeld (Some m) (Some x) c.args.budget c.run_shared.result) c.deref.ensures
    c.run_shared.ensures in
    rw c.in-Some.is (inl (x, c.in_ok-context_of.ensures, run))

pub returns : goal.returns
returns c = rw c.in-None.is (inl (Context c.in_ok-context_of.field-0, c.in_ok-context_of.ensures, refl))
