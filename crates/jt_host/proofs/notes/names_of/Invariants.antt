use Rattle.jt_host.proofs.notes.names_of.Given as goal
use Rattle.std.proofs.Common.{◌≡◌, ◌++◌, drop, map}
use Rattle.jt_ast.specs.Texts.{texts}

abbrev pub invariant-loop-name : goal.invariant-loop-name
invariant-loop-name l =
    texts l.names.items ++ map (λ entry. entry.0) (drop l.name-index l.entries) ≡ map (λ entry. entry.0) l.entries
