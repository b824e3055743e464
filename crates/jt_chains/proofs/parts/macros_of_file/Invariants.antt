use Rattle.jt_chains.proofs.parts.macros_of_file.Given as goal
use Rattle.jt_chains.proofs.{◌≡◌, ◌++◌, drop, body_at, body_view, macros_in, files_view, macros_view, name_at}

abbrev pub invariant-loop-statement : goal.invariant-loop-statement
invariant-loop-statement l =
    macros_view (files_view l.files) l.found.items
    ++ macros_in (name_at (files_view l.files) l.index) (body_view (drop l.statement-index l.statement-items))
    ≡ macros_in (name_at (files_view l.files) l.index) (body_at (files_view l.files) l.index)
