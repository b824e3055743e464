use Rattle.jt_inherit.proofs.Vocabulary.{◌≡◌, ◌≤◌, List, drop, length, Text, Template, blocks_view, is_some}
use Rattle.jt_names.specs.Names.{value_in}
use Rattle.jt_inherit.proofs.BodyRules.{has_given, HaveNext}
use Rattle.jt_inherit.proofs.rules.lacking_next.Given as goal

abbrev pub decreases-loop-left : goal.decreases-loop-left
decreases-loop-left l = l.left

abbrev pub invariant-loop-left : goal.invariant-loop-left
invariant-loop-left l = record {
  within : l.left ≤ length l.blocks;
  noted : (ts : List Template) (x : Text)
      → is_some (value_in l.given.indices x) ≡ has_given x (blocks_view ts (drop l.left l.blocks));
  next : (ts : List Template) → HaveNext (blocks_view ts (drop l.left l.blocks));
}
