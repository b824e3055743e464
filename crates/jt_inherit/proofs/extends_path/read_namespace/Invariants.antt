use Rattle.jt_inherit.proofs.Vocabulary as words
use words.{◌-◌, length, Some, string_bytes, IsAsked, a_chain, HasRead, IsExtendsPath, names, its_files, its_templates}
use Rattle.jt_inherit.proofs.extends_path.read_namespace.Given as goal

abbrev pub decreases-path : goal.decreases-path
decreases-path g l = 65 - length l.extends_path.items

abbrev pub invariant-path : goal.invariant-path
invariant-path g l = record {
  read : HasRead (g.L.Library.sources l.library) l.options (its_files l.initial.store)
      (its_files l.store) (names (its_templates l.store l.extends_path.items));
  led : IsExtendsPath (its_files l.store) (a_chain (string_bytes l.namespace.name)) l.extends_path.items
      (Some (string_bytes l.asked.name));
  tagged : IsAsked (its_templates l.store l.extends_path.items) (string_bytes l.asked.name)
      l.asked.place;
}
