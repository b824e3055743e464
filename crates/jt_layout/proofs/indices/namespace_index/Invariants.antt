use Rattle.jt_layout.proofs.indices.namespace_index.Given as goal
use Rattle.jt_layout.proofs.{drop, map, ◌≡◌, Text, namespace_view, value_in, first_namespace, namespace_named}

abbrev pub invariant-loop-index : goal.invariant-loop-index
invariant-loop-index l =
    (x : Text) → value_in l.indices.indices x
    ≡ first_namespace (namespace_named l.libraries x) l.index (map namespace_view (drop l.index l.namespaces))
