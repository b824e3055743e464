use Rattle.jt_host.proofs.notes.lines_of_notes.Given as goal
use Rattle.std.proofs.Common.{◌≡◌, ◌++◌, drop, string_bytes}
use Rattle.jt_chains.specs.View.{chain_view}
use Rattle.jt_notes.specs.Views.{notes_view}
use Rattle.jt_host.specs.Notes.{lines_of_notes}

abbrev pub invariant-loop-note : goal.invariant-loop-note
invariant-loop-note l =
    string_bytes l.text ++ lines_of_notes (chain_view l.chain) (notes_view (drop l.note-index l.notes))
    ≡ lines_of_notes (chain_view l.chain) (notes_view l.notes)
