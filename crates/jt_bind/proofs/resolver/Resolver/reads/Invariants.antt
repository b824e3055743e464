use Rattle.jt_bind.proofs.{reads, List, [], drop, Tree, texts, RowLeads, table_of}
use Rattle.jt_bind.proofs.resolver.Resolver.reads.Given as goal

abbrev pub invariant-loop-name : goal.invariant-loop-name
invariant-loop-name l =
    (p : List Tree) → RowLeads (reads (table_of l.self) (texts l.names))
    (reads (table_of l.self) (texts (drop l.name-index l.names))) [] l.row.items p p
