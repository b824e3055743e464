use Rattle.std.proofs.Common.{Box, Global, Option, option_map, subst, sym}
use Rattle.jt_host.specs.declared.Options.{Options}
use Rattle.jt_ffi.specs.Handles.{CompilesHeld}
use Rattle.jt_ffi.specs.Plain.{options_of}
use Rattle.jt_ffi.specs.declared.shared.Shared.{Shared}
use Rattle.jt_ffi.proofs.HandlesAgree.{answers_compile}
use Rattle.jt_ffi.proofs.handle_exports.jt_library_compile.Goals as goal

pub returns-clause-answer : goal.returns-clause-answer
returns-clause-answer c =
    let entry = c.args.entry.now in
    let o = options_of c.args.options in
    let r = c.compile_held-outcome.result in
    let image = c.compile_held-outcome.new.image.held in
    let there = option_map (λ (q : Box Shared Global). q.value) c.take-held.result in
    let taken = subst (λ (k : Options). CompilesHeld there entry k image r) c.options.ensures
    c.compile_held-outcome.ensures in
    let compiled = subst (λ (m : Option Shared). CompilesHeld m entry o image r) (sym c.take-held.ensures.held) taken in
    (r, compiled, c.write_result.ensures)

pub returns-clause-compile : goal.returns-clause-compile
returns-clause-compile c ns texts holds =
    answers_compile c.args.library.now.held ns texts c.args.entry.now (options_of c.args.options)
    c.compile_held-outcome.new.image.held holds c.args.out.now c.write_result.new.out c.write_result.result
    (returns-clause-answer c)
