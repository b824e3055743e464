use Rattle.jt_rules.specs.Arguments as rules
use Rattle.jt_checks.proofs.arguments.reached.Given as goal
use Rattle.jt_checks.proofs.{parameters_view, ◌≡◌, ◌+◌, ◌≤◌, length, drop, texts}

abbrev pub invariant-loop-left : goal.invariant-loop-left
invariant-loop-left l = record {
  within : l.count + l.left ≤ length l.parameters;
  count : l.count ≡ rules.reached (parameters_view (drop l.left l.parameters)) (texts l.names);
  filled : l.filled ≡ rules.is_filled (parameters_view (drop l.left l.parameters)) 0 (texts l.names);
}
