-- The views of tags and notes in contracts, without references.
use Rattle.std.specs.Prelude.{List, map}
use Rattle.jt_ast.specs.ExpressionView.{expr_view}
use Rattle.jt_ast.specs.Texts.{texts}
use Rattle.jt_notes.specs.Notes as spec
use Rattle.jt_notes.specs.declared.noting.Note.{Note}
use Rattle.jt_notes.specs.declared.noting.NoteKind.{NoteKind}
use Rattle.jt_notes.specs.declared.noting.NoteKind.TheVariants as kind
use Rattle.jt_notes.specs.declared.tags.Tag.{Tag}
use Rattle.jt_notes.specs.declared.tags.Tag.TheVariants as tag

abbrev pub tag_view : Tag → spec.Tag
tag_view (tag.Print line e) = spec.prints line (expr_view e.now)
tag_view (tag.Block line x) = spec.begins line x.now

abbrev pub tags_view : List Tag → List spec.Tag
tags_view = map tag_view

abbrev pub kind_view : NoteKind → spec.Kind
kind_view (kind.BlankPrint path found beside) =
    spec.blank (texts path.items) (record { index = found; beside = map (λ entry. entry.0) beside.now })
kind_view (kind.LostBlock x) = spec.lost x.now

abbrev pub note_view : Note → spec.Note
note_view n = record { template = n.template.now; line = n.line; kind = kind_view n.kind }

abbrev pub notes_view : List Note → List spec.Note
notes_view = map note_view
