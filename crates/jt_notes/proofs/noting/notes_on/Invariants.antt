use Rattle.jt_notes.proofs.noting.notes_on.Given as goal
use Rattle.std.proofs.Common.{◌≡◌, ◌++◌, drop, option_map}
use Rattle.std.specs.Prelude.{flat_map, option_copied}
use Rattle.jt_chains.specs.TemplateFiles.{files_view}
use Rattle.jt_chains.specs.View.{chain_view}
use Rattle.jt_value.specs.ContextView.{pairs_of}
use Rattle.jt_notes.specs.Notes.{notes, notes_on}
use Rattle.jt_notes.specs.Views.{notes_view}

abbrev pub invariant-loop-file : goal.invariant-loop-file
invariant-loop-file l =
    notes_view l.found.items
    ++ flat_map (notes_on (chain_view l.chain) (option_map pairs_of (option_copied l.context)))
    (files_view (drop l.file-index l.file-items))
    ≡ notes (chain_view l.chain) (option_map pairs_of (option_copied l.context))
