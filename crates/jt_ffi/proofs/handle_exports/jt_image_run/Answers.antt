use Rattle.std.proofs.Common.{Box, Global, Option, option_map, subst, sym}
use Rattle.jt_host.specs.declared.Budget.{Budget}
use Rattle.jt_ffi.specs.Handles.{RunsHeld}
use Rattle.jt_ffi.specs.Plain.{budget_of}
use Rattle.jt_ffi.specs.declared.local.Local.{Local}
use Rattle.jt_ffi.specs.declared.shared.Shared.{Shared}
use Rattle.jt_ffi.proofs.HandlesAgree.{answers_render, answers_run, kept_answers}
use Rattle.jt_ffi.proofs.handle_exports.jt_image_run.Goals as goal

pub returns-clause-answer : goal.returns-clause-answer
returns-clause-answer c =
    let image = c.args.image.now.held in
    let held = c.args.context.now.held in
    let b = budget_of c.args.budget in
    let r = c.run_held-ended.result in
    let given = option_map (λ (q : Box Shared Global). q.value) c.take-held_image.result in
    let there = option_map (λ (q : Box Local Global). q.value) c.take-held_context.result in
    let taken = subst (λ (k : Budget). RunsHeld given there k r) c.budget.ensures c.run_held-ended.ensures in
    let of_image = subst (λ (m : Option Shared). RunsHeld m there b r) (sym c.take-held_image.ensures.held) taken in
    let run = subst (λ (m : Option Local). RunsHeld image m b r) (sym c.take-held_context.ensures.held) of_image in
    kept_answers image held b r c.keep_outcome.new.outcome.held c.args.out.now c.keep_outcome.new.out
    c.keep_outcome.result run c.keep_outcome.ensures

pub returns-clause-run : goal.returns-clause-run
returns-clause-run c i j is_image is_context =
    answers_run c.args.image.now.held c.args.context.now.held (budget_of c.args.budget) i j is_image is_context
    c.keep_outcome.new.outcome.held c.args.out.now c.keep_outcome.new.out c.keep_outcome.result
    (returns-clause-answer c)

pub returns-clause-render : goal.returns-clause-render
returns-clause-render c ns texts entry o j given template is_context =
    answers_render c.args.image.now.held c.args.context.now.held (budget_of c.args.budget) ns texts entry o j given
    template is_context
    c.keep_outcome.new.outcome.held c.args.out.now c.keep_outcome.new.out c.keep_outcome.result
    (returns-clause-answer c)
