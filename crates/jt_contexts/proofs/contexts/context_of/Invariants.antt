use Rattle.std.proofs.Common.{◌≡◌, ◌++◌, Some, map}
use Rattle.jt_value.specs.ContextView.{pairs_of}
use Rattle.jt_contexts.proofs.MemberValues.{shown}
use Rattle.jt_contexts.proofs.contexts.context_of.Given as goal

abbrev pub invariant-loop-name : goal.invariant-loop-name
invariant-loop-name l =
    (l.fn.members.entries ≡ l.yielded ++ l.name-iterator) × (map shown l.yielded ≡ map Some (pairs_of l.context))
