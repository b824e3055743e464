use Rattle.std.proofs.Common.{arith, rules}
use Rattle.serde_json.proofs.Views.{view-Object}
use Rattle.jt_contexts.proofs.contexts.context_from_json.Goals as goal

pub returns-in-Ok-Object-clause-ok : goal.returns-in-Ok-Object-clause-ok
returns-in-Ok-Object-clause-ok c = search (arith, rules, view-Object)
