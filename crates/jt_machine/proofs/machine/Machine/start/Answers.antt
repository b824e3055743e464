use Rattle.jt_machine.proofs.Vocabulary.{Code, Goes, start, AreCached, budget_view, pairs_of, Value}
use Rattle.std.proofs.Common.{◌≡◌, ◌∙◌, ℕ, List, [], sym, ap, subst}
use Rattle.jt_machine.proofs.ContextsAlike.{started_alike}
use Rattle.jt_machine.proofs.SlicesAddUp.{runs_in_slices}
use Rattle.jt_machine.proofs.machine.Machine.start.Goals as goal

pub returns-in-Some-clause-alike : goal.returns-in-Some-clause-alike
returns-in-Some-clause-alike c =
    λ y agree. started_alike c.code_laws.ensures c.args.verified (pairs_of c.args.context.now) y agree
    (budget_view c.args.budget)

pub returns-in-Some-clause-slices : goal.returns-in-Some-clause-slices
returns-in-Some-clause-slices c =
    λ x b. runs_in_slices c.args.verified x b
    ((c.code_laws.ensures.runs c.args.verified c.image.ensures.whole c.image.ensures.typed).safe x b)

pub returns-in-Ok-clause-alike : goal.returns-in-Ok-clause-alike
returns-in-Ok-clause-alike c =
    λ y agree. started_alike c.code_laws.ensures c.args.verified (pairs_of c.args.context.now) y agree
    (budget_view c.args.budget)

pub returns-in-Ok-clause-safe : goal.returns-in-Ok-clause-safe
returns-in-Ok-clause-safe c =
    (c.code_laws.ensures.runs c.args.verified c.image.ensures.whole c.image.ensures.typed).safe

pub returns-in-Ok-clause-slices : goal.returns-in-Ok-clause-slices
returns-in-Ok-clause-slices c =
    λ x b. runs_in_slices c.args.verified x b
    ((c.code_laws.ensures.runs c.args.verified c.image.ensures.whole c.image.ensures.typed).safe x b)

pub returns-in-Err-clause-alike : goal.returns-in-Err-clause-alike
returns-in-Err-clause-alike c =
    λ y agree. started_alike c.code_laws.ensures c.args.verified (pairs_of c.args.context.now) y agree
    (budget_view c.args.budget)

pub returns-in-Err-clause-safe : goal.returns-in-Err-clause-safe
returns-in-Err-clause-safe c =
    (c.code_laws.ensures.runs c.args.verified c.image.ensures.whole c.image.ensures.typed).safe

pub returns-in-Err-clause-slices : goal.returns-in-Err-clause-slices
returns-in-Err-clause-slices c =
    λ x b. runs_in_slices c.args.verified x b
    ((c.code_laws.ensures.runs c.args.verified c.image.ensures.whole c.image.ensures.typed).safe x b)

-- The cache of a new machine is empty.
nothing_cached : (k : Code) (es : List (ℕ × Value)) → es ≡ [] → AreCached k es
nothing_cached k es e = subst (λ (xs : List (ℕ × Value)). AreCached k xs) (sym e) tt

pub invariant_of-result-in-Ok : goal.invariant_of-result-in-Ok
invariant_of-result-in-Ok c =
    let x = pairs_of c.args.context.now in
    let b = budget_view c.args.budget in (
      record {
        context = x;
        budget = b;
        steps = 0;
        reached = ap Goes (ap (λ (k : Code). start k x b) (sym c.image-2.ensures.image) ∙ sym c.in-Ok.ensures.state);
        depth = c.in-Ok.ensures.depth;
      },
      nothing_cached c.args.verified c.new-in-Ok.result.items c.new-in-Ok.ensures.items,
    )
