-- The lines of notes: what is suspicious in a chain that compiles.
use Rattle.std.specs.Prelude.{ℕ, zero, suc, List, [], ◌∷◌, ◌++◌, codes, flat_map, map, Option, slice_get, take}
use Rattle.std.specs.Prelude.{unwrap_or}
use Rattle.std.specs.Fmt.{decimal}
use Rattle.jt_ast.specs.Expressions.{Text}
use Rattle.jt_value.specs.Pairs.{Pairs}
use Rattle.jt_chains.specs.View.{Seen}
use Rattle.jt_hints.specs.Edits.{nearest}
use Rattle.jt_notes.specs.Notes.{Kind, Note, blank, lost, names_above, notes}
use Rattle.jt_host.specs.Subjects.{quoted}
use Rattle.jt_host.specs.Suggestions.{or_meant}

-- The names of a path, with dots between them.
abbrev pub dotted : List Text → Text
dotted [] = []
dotted (first ∷ keys) = first ++ flat_map (λ key. codes "." ++ key) keys

abbrev pub quoted_path : List Text → Text
quoted_path path = quoted (dotted path)

abbrev pub name_at : List Text → ℕ → Text
name_at path i = unwrap_or (slice_get path i) []

-- Why a path has no value, by the number of its first names that have one.
abbrev pub blank_reason : List Text → ℕ → Text
blank_reason path zero = codes ", which is not in the context"
blank_reason path (suc n) =
    codes ", and"
    ++ (quoted_path (take (suc n) path) ++ (codes " has no key" ++ quoted (name_at path (suc n))))

-- What is said of a print that has no value: the path, the reason, and the name that was probably meant.
abbrev pub blank_words : List Text → ℕ → List Text → Text
blank_words path found beside =
    codes " prints"
    ++ (quoted_path path ++ (blank_reason path found ++ or_meant (nearest (name_at path found) beside) []))

-- What is said of a block that no template above has.
abbrev pub lost_words : Seen → Text → Text → Text
lost_words chain template x =
    codes " has the block"
    ++ (quoted x
    ++ (codes ", which no template that it extends has" ++ or_meant (nearest x (names_above chain template)) []))

abbrev pub note_words : Seen → Text → Kind → Text
note_words chain template (blank path missing) = blank_words path missing.index missing.beside
note_words chain template (lost x) = lost_words chain template x

abbrev pub note_line : Seen → Note → Text
note_line chain note =
    codes "note: "
    ++ (note.template
    ++ (codes ":" ++ (decimal note.line ++ (note_words chain note.template note.kind ++ codes "\n"))))

abbrev pub lines_of_notes : Seen → List Note → Text
lines_of_notes chain = flat_map (note_line chain)

-- The lines of the first 20 notes on a chain for a context.
abbrev pub notes_text : Seen → Option Pairs → Text
notes_text chain context = lines_of_notes chain (take 20 (notes chain context))
