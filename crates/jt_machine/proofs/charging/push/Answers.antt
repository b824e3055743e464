use Rattle.jt_machine.proofs.Vocabulary.{step_on, config_view, limit_view, view}
use Rattle.jt_machine.proofs.StepLemmas.{push_spent}
use Rattle.jt_machine.proofs.charging.push.Goals as goal

pub returns-in-Some : goal.returns-in-Some
returns-in-Some c =
    push_spent (view c.args.value) (config_view c.args.state.now) step_on (limit_view c.in-Some.spent) c.in-Some.ensures
