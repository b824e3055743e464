use Rattle.std.proofs.Common.{Option, subst, sym}
use Rattle.jt_ffi.specs.Handles.{SavesHeld}
use Rattle.jt_ffi.specs.declared.shared.Shared.{Shared}
use Rattle.jt_ffi.proofs.HandlesAgree.{answers_save}
use Rattle.jt_ffi.proofs.handle_exports.jt_image_save.Goals as goal

pub returns-clause-answer : goal.returns-clause-answer
returns-clause-answer c =
    let r = c.save_held-outcome.result in
    let saved = subst (λ (m : Option Shared). SavesHeld m r) (sym c.take-held.ensures.held)
    c.save_held-outcome.ensures in
    (r, saved, c.write_result.ensures)

pub returns-clause-compile : goal.returns-clause-compile
returns-clause-compile c ns texts entry o given template =
    answers_save c.args.image.now.held ns texts entry o given template c.args.out.now c.write_result.new.out
    c.write_result.result (returns-clause-answer c)
