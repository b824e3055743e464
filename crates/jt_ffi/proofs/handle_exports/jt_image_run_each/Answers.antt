use Rattle.std.proofs.Common.{Box, Global, Option, option_map, subst, sym}
use Rattle.jt_host.specs.declared.Budget.{Budget}
use Rattle.jt_ffi.specs.Batches.{AnswersEach, RunsNext}
use Rattle.jt_ffi.specs.Plain.{budget_of}
use Rattle.jt_ffi.specs.declared.shared.Shared.{Shared}
use Rattle.jt_ffi.proofs.handle_exports.jt_image_run_each.Goals as goal

pub returns-clause-each : goal.returns-clause-each
returns-clause-each c =
    let b = budget_of c.args.budget in
    let given = option_map (λ (q : Box Shared Global). q.value) c.take-held.result in
    let lengths = c.args.lengths.now in
    let contexts = c.args.contexts.now in
    let before = c.args.answers.now in
    let after = c.write_each-count.new.answers in
    let old = c.args.out.now in
    let new = c.write_each-count.new.out in
    let held = c.write_each-count.new.outcome.held in
    let count = c.write_each-count.result in
    let taken = subst (λ (k : Budget). AnswersEach (RunsNext given k) lengths contexts before after old new held count)
    c.budget.ensures c.write_each-count.ensures in
    subst (λ (m : Option Shared). AnswersEach (RunsNext m b) lengths contexts before after old new held count)
    (sym c.take-held.ensures.held) taken
