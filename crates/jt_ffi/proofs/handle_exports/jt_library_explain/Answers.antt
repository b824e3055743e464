use Rattle.std.proofs.Common.{Box, Global, Option, option_map, subst, sym}
use Rattle.jt_host.specs.declared.Options.{Options}
use Rattle.jt_ffi.specs.Handles.{ExplainsHeld}
use Rattle.jt_ffi.specs.Plain.{options_of}
use Rattle.jt_ffi.specs.declared.shared.Shared.{Shared}
use Rattle.jt_ffi.proofs.HandlesAgree.{answers_explain}
use Rattle.jt_ffi.proofs.handle_exports.jt_library_explain.Goals as goal

pub returns-clause-answer : goal.returns-clause-answer
returns-clause-answer c =
    let entry = c.args.entry.now in
    let o = options_of c.args.options in
    let r = c.explain_held-outcome.result in
    let there = option_map (λ (q : Box Shared Global). q.value) c.take-taken.result in
    let taken = subst (λ (k : Options). ExplainsHeld there entry k r) c.options.ensures
    c.explain_held-outcome.ensures in
    let explained = subst (λ (m : Option Shared). ExplainsHeld m entry o r) (sym c.take-taken.ensures.held) taken in
    (r, explained, c.write_explanation.ensures)

pub returns-clause-explain : goal.returns-clause-explain
returns-clause-explain c ns texts holds =
    answers_explain c.args.library.now.held ns texts c.args.entry.now (options_of c.args.options)
    holds c.args.out.now c.write_explanation.new.out c.write_explanation.result
    (returns-clause-answer c)
