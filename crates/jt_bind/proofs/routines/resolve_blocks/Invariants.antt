use Rattle.jt_bind.proofs
use proofs.{List, ◌++◌, bodies_in, numbered_in, drop, values, templates_in, RoutinesLead, blocks_in, Planned}
use Rattle.jt_bind.proofs.routines.resolve_blocks.Given as goal

abbrev pub invariant-loop-index : goal.invariant-loop-index
invariant-loop-index l =
    (left : List Planned) → RoutinesLead (templates_in l.tables) (blocks_in l.tables ++ left)
    (bodies_in l.tables (drop l.index (numbered_in l.tables)) ++ left)
    l.initial.routines.items l.routines.items (values l.initial.pool) (values l.pool)
