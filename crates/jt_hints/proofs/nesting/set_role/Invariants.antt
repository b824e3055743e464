use Rattle.std.proofs.Common.{◌≡◌, drop}
use Rattle.std.specs.List.{list_any}
use Rattle.jt_hints.specs.Nesting.{is_assign}
use Rattle.jt_hints.proofs.nesting.set_role.Given as goal

abbrev pub invariant-loop-token : goal.invariant-loop-token
invariant-loop-token l = list_any is_assign (drop l.token-index l.tokens) ≡ list_any is_assign l.tokens
