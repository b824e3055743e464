use Rattle.std.proofs.Common.{Box, Global, Option, option_map, subst, sym}
use Rattle.jt_host.specs.declared.Budget.{Budget}
use Rattle.jt_ffi.specs.Plain.{budget_of}
use Rattle.jt_ffi.specs.Slices.{StartedHeld}
use Rattle.jt_ffi.specs.declared.local.Local.{Local}
use Rattle.jt_ffi.specs.declared.shared.Shared.{Shared}
use Rattle.jt_ffi.proofs.run_exports.jt_run_start.Goals as goal

pub returns-clause-started : goal.returns-clause-started
returns-clause-started c =
    let image = c.args.image.now.held in
    let b = budget_of c.args.budget in
    let r = c.start_held-started.result in
    let given = option_map (λ (q : Box Shared Global). q.value) c.take-held_image.result in
    let there = option_map (λ (q : Box Local Global). q.value) c.take-held_context.result in
    let taken = subst (λ (k : Budget). StartedHeld given there k r) c.budget.ensures c.start_held-started.ensures in
    let of_image = subst (λ (m : Option Shared). StartedHeld m there b r) (sym c.take-held_image.ensures.held) taken in
    let started = subst (λ (m : Option Local). StartedHeld image m b r) (sym c.take-held_context.ensures.held)
    of_image in
    (r, started, c.keep_run.ensures)
