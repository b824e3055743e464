use Rattle.jt_semantics.specs.Layout as layout
use Rattle.jt_bind.proofs.{◌≡◌, ◌++◌, drop, flat_map, macros, defaults_of, values, cenv_in, order_in}
use Rattle.jt_bind.proofs.shared.shared_values.Given as goal

abbrev pub invariant-loop-namespace : goal.invariant-loop-namespace
invariant-loop-namespace l =
    values l.pool
    ++ flat_map (λ h. defaults_of (macros (cenv_in l.tables).sources h)) (drop l.namespace-index (order_in l.tables))
    ≡ layout.shared (cenv_in l.tables) (order_in l.tables)
