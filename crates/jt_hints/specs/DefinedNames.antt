-- The names that the tags of a source define, by their tokens, the library that an import tag binds to
-- a name, and the layout that it extends.
use Rattle.std.specs.Prelude.{ℕ, ◌==◌, ◌&&◌, Bool, true, false, List, [], ◌∷◌, ◌++◌, Option, Some, None}
use Rattle.std.specs.Prelude.{codes, if◌then◌else◌, flat_map}
use Rattle.std.specs.List.{starts_with}
use Rattle.std.specs.Option.{option_or}
use Rattle.std.specs.Str.{bytes_eq}
use Rattle.jt_scan.specs.declared.segment.Segment.{Segment}
use Rattle.jt_scan.specs.declared.segment.SegmentKind.{SegmentKind}
use Rattle.jt_scan.specs.declared.segment.SegmentKind.TheVariants as part
use Rattle.jt_scan.specs.declared.segment.Sign.TheVariants as sign
use Rattle.jt_scan.specs.declared.segment.TagKind.{TagKind}
use Rattle.jt_scan.specs.declared.segment.TagKind.TheVariants as tag_kind
use Rattle.jt_scan.specs.declared.segment.Token.{Token}
use Rattle.jt_scan.specs.declared.segment.Token.TheVariants as t
use Rattle.jt_hints.specs.declared.definitions.NameKind.{NameKind}
use Rattle.jt_hints.specs.declared.definitions.NameKind.TheVariants as kind

-- ---- the names that a tag defines

-- The name that follows the first word of a tag, if that is the wanted one.
abbrev pub name_after : List ℕ → List Token → Option (List ℕ)
name_after wanted (t.Name word ∷ t.Name x ∷ rest) = if bytes_eq word.now wanted then Some x.now else None
name_after wanted tokens = None

-- A name that begins with `_` is private.
abbrev pub public_name : Option (List ℕ) → Option (List ℕ)
public_name (Some x) = if starts_with (λ a b. a == b) x (codes "_") then None else Some x
public_name None = None

abbrev pub if_some : Option (List ℕ) → List (List ℕ)
if_some (Some x) = x ∷ []
if_some None = []

-- An item of a `from` tag ends before a comma and at the end of the tag.
abbrev pub ends_item : List Token → Bool
ends_item [] = true
ends_item (t.Sign sign.Comma ∷ rest) = true
ends_item tokens = false

-- The last name of an item is bound.
abbrev pub bound_here : Token → List Token → Option (List ℕ)
bound_here (t.Name x) behind = if ends_item behind then Some x.now else None
bound_here token behind = None

abbrev pub bound : List Token → List (List ℕ)
bound [] = []
bound (token ∷ behind) = if_some (bound_here token behind) ++ bound behind

-- The names that a `from` tag binds.
abbrev pub imported : List Token → List (List ℕ)
imported (t.Name from ∷ t.Text library ∷ t.Name word ∷ items) =
    if bytes_eq from.now (codes "from") && bytes_eq word.now (codes "import") then bound items else []
imported tokens = []

-- The names of a kind that a block tag defines.
abbrev pub names_of : NameKind → List Token → List (List ℕ)
names_of kind.Callee tokens = if_some (name_after (codes "macro") tokens) ++ imported tokens
names_of kind.PublicMacro tokens = if_some (public_name (name_after (codes "macro") tokens))
names_of kind.Block tokens = if_some (name_after (codes "block") tokens)

abbrev pub names_in_tag : NameKind → TagKind → List Token → List (List ℕ)
names_in_tag k tag_kind.Block tokens = names_of k tokens
names_in_tag k tag_kind.Variable tokens = []

abbrev pub names_in_part : NameKind → SegmentKind → List (List ℕ)
names_in_part k (part.Tag tag) = names_in_tag k tag.kind tag.tokens.items
names_in_part k p = []

abbrev pub names_at : NameKind → Segment → List (List ℕ)
names_at k segment = names_in_part k segment.part

-- The names of a kind that need no definition.
abbrev pub built_in : NameKind → List (List ℕ)
built_in kind.Callee = codes "range" ∷ []
built_in k = []

-- The names of a kind that the tags define, in their order.
abbrev pub defined_names : NameKind → List Segment → List (List ℕ)
defined_names k segments = built_in k ++ flat_map (names_at k) segments

-- ---- the library of a name

-- The text that names the library in an import tag that binds the name.
abbrev pub library_of : List ℕ → List Token → Option (List ℕ)
library_of name (t.Name import ∷ t.Text library ∷ t.Name word ∷ t.Name x ∷ rest) =
    if (bytes_eq import.now (codes "import") && bytes_eq word.now (codes "as")) && bytes_eq x.now name
    then Some library.now else None
library_of name tokens = None

abbrev pub library_in_tag : List ℕ → TagKind → List Token → Option (List ℕ)
library_in_tag name tag_kind.Block tokens = library_of name tokens
library_in_tag name tag_kind.Variable tokens = None

abbrev pub library_in_part : List ℕ → SegmentKind → Option (List ℕ)
library_in_part name (part.Tag tag) = library_in_tag name tag.kind tag.tokens.items
library_in_part name p = None

abbrev pub library_at : List ℕ → Segment → Option (List ℕ)
library_at name segment = library_in_part name segment.part

-- That of the first such tag.
abbrev pub library_named : List ℕ → List Segment → Option (List ℕ)
library_named name [] = None
library_named name (s ∷ ss) = option_or (library_at name s) (library_named name ss)

-- ---- the layout

-- The text that names the layout in an `extends` tag.
abbrev pub layout_of : List Token → Option (List ℕ)
layout_of (t.Name word ∷ t.Text layout ∷ rest) =
    if bytes_eq word.now (codes "extends") then Some layout.now else None
layout_of tokens = None

abbrev pub layout_in_tag : TagKind → List Token → Option (List ℕ)
layout_in_tag tag_kind.Block tokens = layout_of tokens
layout_in_tag tag_kind.Variable tokens = None

abbrev pub layout_in_part : SegmentKind → Option (List ℕ)
layout_in_part (part.Tag tag) = layout_in_tag tag.kind tag.tokens.items
layout_in_part p = None

abbrev pub layout_at : Segment → Option (List ℕ)
layout_at segment = layout_in_part segment.part

-- That of the first such tag.
abbrev pub layout_named : List Segment → Option (List ℕ)
layout_named [] = None
layout_named (s ∷ ss) = option_or (layout_at s) (layout_named ss)
