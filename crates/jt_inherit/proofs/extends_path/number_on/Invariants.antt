use Rattle.jt_inherit.proofs.Vocabulary.{◌≡◌, drop, among, names, its_templates}
use Rattle.jt_inherit.proofs.extends_path.number_on.Given as goal

abbrev pub invariant-loop-number : goal.invariant-loop-number
invariant-loop-number l =
    among l.name (names (its_templates l.store (drop l.number l.extends_path)))
    ≡ among l.name (names (its_templates l.store l.extends_path))
