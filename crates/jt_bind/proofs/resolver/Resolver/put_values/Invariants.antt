use Rattle.jt_bind.proofs
use proofs.{drop, List, [], if◌then◌else◌, Tree, assigned, slot_view, followed, texts, BodyLeads, table_of}
use proofs.{templates_of, line_of, Stmts}
use Rattle.jt_bind.proofs.resolver.Resolver.put_values.Given as goal

abbrev pub invariant-loop-name : goal.invariant-loop-name
invariant-loop-name l = (left : Stmts) (p : List Tree) → BodyLeads (templates_of l.self)
    (followed (assigned (line_of l.self l.line) (if l.with_context then table_of l.self else []) (slot_view l.fn.first)
    (texts l.names)) left)
    (followed (assigned (line_of l.self l.line) (if l.with_context then table_of l.self else []) (slot_view l.slot)
    (texts (drop l.name-index l.names))) left)
    l.initial.done.items l.done.items p p
