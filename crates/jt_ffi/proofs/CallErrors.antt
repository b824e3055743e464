-- A call without a text fails as its run or its rendering does.
use Rattle.std.proofs.Common.{Err, ℕ, List}
use Rattle.jt_contexts.specs.Json.{IsContext}
use Rattle.jt_host.specs.declared.Budget.{Budget}
use Rattle.jt_host.specs.declared.Options.{Options}
use Rattle.jt_host.specs.Calls.{ComesTo, RendersTo}
use Rattle.jt_host.specs.declared.CallError.{CallError}
use Rattle.jt_host.specs.declared.CallError.TheVariants as call_error
use Rattle.jt_value.specs.Pairs.{Pairs}
use Rattle.jt_ffi.specs.Calls.{IsGiven, Renders, Runs}
use Rattle.jt_ffi.specs.HostTemplates.{sources_in}
use Rattle.jt_ffi.specs.declared.templates.Lengths.{Lengths}
use Rattle.jt_ffi.specs.declared.error.FfiError.TheVariants as ffi_error

-- A run never fails because of its context, which was read before it.
pub not_run : (image context : List ℕ) (b : Budget) (x : Pairs) → IsContext context x → (e : CallError)
    → ComesTo image x b (Err e) → Runs image context b (Err (ffi_error.Call e))
not_run image context b x is (call_error.Context e) h = absurd h
not_run image context b x is call_error.NoMemory h = h
not_run image context b x is e h = (x, is, h)

-- A rendering never fails because of its context, which was read before it.
pub not_rendered : (ns : List Lengths) (texts entry : List ℕ) (o : Options) (context : List ℕ) (b : Budget) (x : Pairs)
    → IsGiven ns texts entry → IsContext context x
    → (e : CallError) → RendersTo (sources_in ns texts) entry o x b (Err e)
    → Renders ns texts entry o context b (Err (ffi_error.Call e))
not_rendered ns texts entry o context b x given is (call_error.Context e) h = absurd h
not_rendered ns texts entry o context b x given is call_error.NoMemory h = h
not_rendered ns texts entry o context b x given is e h = (given, (x, is, h))
