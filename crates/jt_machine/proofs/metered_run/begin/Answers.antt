use Rattle.jt_machine.proofs.Vocabulary.{Goes, budget_view, pairs_of, passed}
use Rattle.std.proofs.Common.{◌≡◌, ◌∙◌, None, ap, arith, refl, sym}
use Rattle.jt_image.specs.Config.{Config}
use Rattle.jt_machine.proofs.PeaksAddUp.{start_room, start_used}
use Rattle.jt_machine.proofs.metered_run.begin.Goals as goal

pub returns-clause-underway : goal.returns-clause-underway
returns-clause-underway g c = record {
  context = pairs_of c.args.context.now;
  budget = budget_view c.args.budget;
  steps = 0;
  reached = ap Goes (sym c.in_ok-state.ensures.state);
  depth = c.in_ok-state.ensures.depth;
}

pub returns-clause-used : goal.returns-clause-used
returns-clause-used g c =
    let none : passed (budget_view c.args.budget) (pairs_of c.args.context.now) (g.C.Code.code c.args.code.now).names
    ≡ None = sym c.context_limit.ensures ∙ rw c.in_default.is refl in
    c.at_start-used.ensures ∙ start_used _ _ c.context_peak.result (sym none) c.context_peak.ensures

pub returns-clause-room : goal.returns-clause-room
returns-clause-room g c =
    let none : passed (budget_view c.args.budget) (pairs_of c.args.context.now) (g.C.Code.code c.args.code.now).names
    ≡ None = sym c.context_limit.ensures ∙ rw c.in_default.is refl in
    start_room (budget_view c.args.budget) (pairs_of c.args.context.now) (g.C.Code.code c.args.code.now).names
    c.at_start-used.result c.in_ok-state.state none (ap (λ (x : Config). x.left) c.in_ok-state.ensures.state)
    (c.at_start-used.ensures ∙ start_used None _ c.context_peak.result refl c.context_peak.ensures)
    (omega arith) (omega arith)
