use Rattle.std.proofs.Common.{Box, Global, Option, option_map, subst, sym}
use Rattle.jt_host.specs.declared.Options.{Options}
use Rattle.jt_ffi.specs.Needs.{NeedsHeld}
use Rattle.jt_ffi.specs.Plain.{options_of}
use Rattle.jt_ffi.specs.declared.shared.Shared.{Shared}
use Rattle.jt_ffi.proofs.HandlesAgree.{answers_needs}
use Rattle.jt_ffi.proofs.handle_exports.jt_library_needs.Goals as goal

pub returns-clause-answer : goal.returns-clause-answer
returns-clause-answer c =
    let entry = c.args.entry.now in
    let o = options_of c.args.options in
    let r = c.list_held-outcome.result in
    let there = option_map (λ (q : Box Shared Global). q.value) c.take-kept.result in
    let taken = subst (λ (k : Options). NeedsHeld there entry k r) c.options.ensures
    c.list_held-outcome.ensures in
    let listed = subst (λ (m : Option Shared). NeedsHeld m entry o r) (sym c.take-kept.ensures.held) taken in
    (r, listed, c.write_result.ensures)

pub returns-clause-sources : goal.returns-clause-sources
returns-clause-sources c ns texts holds =
    answers_needs c.args.library.now.held ns texts c.args.entry.now (options_of c.args.options)
    holds c.args.out.now c.write_result.new.out c.write_result.result
    (returns-clause-answer c)
