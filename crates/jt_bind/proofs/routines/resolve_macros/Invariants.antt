use Rattle.jt_bind.proofs
use proofs.{List, ◌++◌, drop, map, macro_view, values, RoutinesLead, files_in, macro_in, macros_in, templates_in}
use proofs.{Planned}
use Rattle.jt_bind.proofs.routines.resolve_macros.Given as goal

abbrev pub invariant-loop-called : goal.invariant-loop-called
invariant-loop-called l =
    (left : List Planned) → RoutinesLead (templates_in l.tables) (macros_in l.tables ++ left)
    (map (macro_in l.tables) (map (macro_view (files_in l.tables)) (drop l.called-index l.called-items)) ++ left)
    l.initial.routines.items l.routines.items (values l.initial.pool) (values l.pool)
