-- The table of the fields of a loop: the id of each in an image, and its name after `loop.`. The
-- current item has no such name, since templates read it by the names that the loop binds.
use Rattle.std.specs.Prelude.{ℕ, List, [], ◌∷◌, Option, codes, find, slice_get}
use Rattle.std.specs.List.{list_any}
use Rattle.std.specs.Str.{bytes_eq}
use Rattle.jt_ids.specs.declared.loop_field.LoopField.{LoopField}
use Rattle.jt_ids.specs.declared.loop_field.LoopField.TheVariants as field

abbrev pub field_row : LoopField → ℕ × List (List ℕ)
field_row field.Item = (0, [])
field_row field.Index = (1, codes "index" ∷ [])
field_row field.Index0 = (2, codes "index0" ∷ [])
field_row field.RevIndex = (3, codes "revindex" ∷ [])
field_row field.RevIndex0 = (4, codes "revindex0" ∷ [])
field_row field.First = (5, codes "first" ∷ [])
field_row field.Last = (6, codes "last" ∷ [])
field_row field.Length = (7, codes "length" ∷ [])
field_row field.Previous = (8, codes "previtem" ∷ [])
field_row field.Next = (9, codes "nextitem" ∷ [])

abbrev pub field_id : LoopField → ℕ
field_id f = (field_row f).0

abbrev pub field_names : LoopField → List (List ℕ)
field_names f = (field_row f).1

-- All fields, in the order of their ids.
abbrev pub loop_fields : List LoopField
loop_fields =
    field.Item
    ∷ field.Index ∷ field.Index0 ∷ field.RevIndex ∷ field.RevIndex0 ∷ field.First ∷ field.Last
    ∷ field.Length ∷ field.Previous ∷ field.Next ∷ []

-- The field with this id, if it exists.
unfoldable pub field_of : ℕ → Option LoopField
field_of id = slice_get loop_fields id

-- The field with this name, if it exists.
abbrev pub field_named : List ℕ → Option LoopField
field_named name = find (λ f. list_any (bytes_eq name) (field_names f)) loop_fields
