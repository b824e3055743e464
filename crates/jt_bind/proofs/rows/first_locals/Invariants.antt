use Rattle.jt_bind.proofs.{first_locals, List, [], drop, Tree, texts, RowLeads}
use Rattle.jt_bind.proofs.rows.first_locals.Given as goal

abbrev pub invariant-loop-local : goal.invariant-loop-local
invariant-loop-local l =
    (p : List Tree) → RowLeads (first_locals 0 (texts l.names))
    (first_locals l.local (drop l.local (texts l.names))) [] l.row.items p p
