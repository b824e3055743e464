use Rattle.jt_notes.proofs.noting.add_notes.Given as goal
use Rattle.std.proofs.Common.{◌≡◌, ◌++◌, drop, string_bytes}
use Rattle.std.specs.List.{filter_map}
use Rattle.jt_chains.specs.TemplateFiles.{file_view}
use Rattle.jt_notes.specs.Notes.{Facts, note_of, notes_in}
use Rattle.jt_notes.specs.Views.{notes_view, tags_view}
use Rattle.jt_notes.specs.internal.Facts.{AreFacts}

abbrev pub invariant-loop-tag : goal.invariant-loop-tag
invariant-loop-tag l = (f : Facts) → AreFacts l.known f →
    notes_view l.found.items
    ++ filter_map (note_of f (string_bytes l.file.name)) (tags_view (drop l.tag-index l.tag-items))
    ≡ notes_view l.initial.found.items ++ notes_in f (file_view l.file)
