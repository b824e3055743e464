use Rattle.jt_inherit.proofs.Vocabulary as words
use words.{◌≡◌, ◌<◌, ℕ, None, namespace_at, found_namespaces, found_paths, found_templates, leading_at}
use Rattle.jt_inherit.proofs.discovery.place_of.Given as goal

abbrev pub invariant-loop-from : goal.invariant-loop-from
invariant-loop-from l =
    (i : ℕ) → i < l.from
    → leading_at (found_templates l.found) (found_paths l.found) (namespace_at (found_namespaces l.found) l.number) i
    ≡ None
