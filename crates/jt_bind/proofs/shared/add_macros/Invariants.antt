use Rattle.jt_bind.proofs.{◌≡◌, ◌++◌, List, map, drop, Template, macro_view, defaults_of, values}
use Rattle.jt_bind.proofs.shared.add_macros.Given as goal

abbrev pub invariant-loop-entry : goal.invariant-loop-entry
invariant-loop-entry l = (ts : List Template) →
    values l.pool ++ defaults_of (map (macro_view ts) (drop l.entry-index l.macros))
    ≡ values l.initial.pool ++ defaults_of (map (macro_view ts) l.macros)
