use Rattle.jt_names.proofs.index.definitions_of.Given as goal
use Rattle.jt_chains.specs.Chain.{Template, Namespace, given_to}
use Rattle.jt_chains.specs.Named.{given_view, names_view}
use Rattle.jt_names.proofs.{◌≡◌, ◌≤◌, List, length, drop, option_map, Text, value_in}

abbrev pub invariant-loop-left : goal.invariant-loop-left
invariant-loop-left l = record {
  within : l.left ≤ length l.given;
  found : (ts : List Template) (h : Namespace) (x : Text) → option_map (given_view ts h) (value_in l.definitions x)
      ≡ given_to x (names_view ts h (drop l.left l.given));
}

abbrev pub decreases-loop-left : goal.decreases-loop-left
decreases-loop-left l = l.left
