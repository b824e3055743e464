-- The errors of the calls over bytes, from the errors of their steps.
use Rattle.std.specs.Prelude.{Result, Ok, Err, String}
use Rattle.std.specs.declared.alloc.Global.{Global}
use Rattle.jt_image.specs.declared.ImageError.{ImageError}
use Rattle.jt_image.specs.declared.ImageError.TheVariants as image_error
use Rattle.jt_codegen.specs.declared.error.CompileError.{CompileError}
use Rattle.jt_codegen.specs.declared.error.CompileError.TheVariants as compile_error
use Rattle.jt_contexts.specs.declared.ContextError.{ContextError}
use Rattle.jt_contexts.specs.declared.ContextError.TheVariants as context_error
use Rattle.jt_verify.specs.declared.Refusal.{Refusal}
use Rattle.jt_verify.specs.declared.Refusal.TheVariants as refusal
use Rattle.jt_machine.specs.declared.Outcome.{Outcome}
use Rattle.jt_machine.specs.declared.Outcome.TheVariants as outcome
use Rattle.jt_host.specs.declared.call_error.CallError.{CallError}
use Rattle.jt_host.specs.declared.call_error.CallError.TheVariants as error
use Rattle.jt_host.specs.declared.rendering.RenderError.{RenderError}
use Rattle.jt_host.specs.declared.rendering.RenderError.TheVariants as render_error

-- The error for bytes that are not an image: their fault, or lack of memory.
abbrev pub of_image : ImageError → CallError
of_image image_error.NoMemory = error.NoMemory
of_image e = error.Image e

-- The error for a refusal of the verifier: the flaw, or lack of memory.
abbrev pub of_code : Refusal → CallError
of_code refusal.NoMemory = error.NoMemory
of_code r = error.Code r

-- The error for a refusal of the compiler: the reason, or lack of memory.
abbrev pub of_compile : CompileError → CallError
of_compile compile_error.NoMemory = error.NoMemory
of_compile e = error.Template e

-- The error of a rendering for a refusal of the compiler: the reason, or lack of memory.
abbrev pub of_refused : CompileError → RenderError
of_refused compile_error.NoMemory = render_error.NoMemory
of_refused e = render_error.Compile e

-- The error for a rendering without an outcome: the compiler's reason, or lack of memory.
abbrev pub of_render : RenderError → CallError
of_render (render_error.Compile e) = of_compile e
of_render render_error.NoMemory = error.NoMemory

-- The error for bytes that spell no context: their flaw, or lack of memory.
abbrev pub of_context : ContextError → CallError
of_context context_error.NoMemory = error.NoMemory
of_context e = error.Context e

-- The result of a run: its text, or an error.
abbrev pub of_outcome : Outcome → Result (String Global) CallError
of_outcome (outcome.Text text) = Ok text
of_outcome (outcome.Fault f q) = Err (error.Fault f q)
of_outcome (outcome.Spent s) = Err (error.Spent s)
