-- Where the tags of a template may stand. The first tag that stands elsewhere gives the hint, if it is
-- at the line.
use Rattle.std.specs.Prelude.{ℕ, ◌==◌, ◌&&◌, ◌||◌, not, Bool, true, false, List, [], ◌∷◌, Option, Some, None}
use Rattle.std.specs.Prelude.{codes, if◌then◌else◌, length}
use Rattle.std.specs.List.{list_all, list_any}
use Rattle.std.specs.Str.{bytes_eq}
use Rattle.jt_scan.specs.Cut.{is_space}
use Rattle.jt_scan.specs.declared.segment.Segment.{Segment}
use Rattle.jt_scan.specs.declared.segment.SegmentKind.{SegmentKind}
use Rattle.jt_scan.specs.declared.segment.SegmentKind.TheVariants as segment_kind
use Rattle.jt_scan.specs.declared.segment.TagKind.{TagKind}
use Rattle.jt_scan.specs.declared.segment.TagKind.TheVariants as kind
use Rattle.jt_scan.specs.declared.segment.Token.{Token}
use Rattle.jt_scan.specs.declared.segment.Token.TheVariants as t
use Rattle.jt_hints.specs.Forms.{is_one_of}
use Rattle.jt_hints.specs.Nesting.{opened_after, position, role_in}
use Rattle.jt_hints.specs.declared.nesting.Opened.{Opened}
use Rattle.jt_hints.specs.declared.nesting.Statement.TheVariants as statement
use Rattle.jt_hints.specs.declared.positions.Part.{Part}
use Rattle.jt_hints.specs.declared.positions.Part.TheVariants as part
use Rattle.jt_hints.specs.declared.positions.Passed.{Passed}
use Rattle.jt_hints.specs.declared.positions.PositionHint.{PositionHint}
use Rattle.jt_hints.specs.declared.positions.PositionHint.TheVariants as hint

-- ---- what a segment is

abbrev pub part_of : List ℕ → Part
part_of word =
    if bytes_eq word (codes "extends") then part.Extends
    else if is_one_of (codes "macro" ∷ codes "import" ∷ codes "from" ∷ []) word then part.Definition
    else if bytes_eq word (codes "block") then part.Block
    else if is_one_of (
    codes "if" ∷ codes "for" ∷ codes "with" ∷ codes "filter" ∷ codes "autoescape" ∷ codes "include" ∷ []) word
    then part.Statement
    else part.Other

abbrev pub part_of_tokens : TagKind → List Token → Part
part_of_tokens kind.Variable tokens = part.Statement
part_of_tokens kind.Block (t.Name x ∷ rest) = part_of x.now
part_of_tokens kind.Block tokens = part.Other

abbrev pub part_of_kind : SegmentKind → Part
part_of_kind (segment_kind.Tag tag) = part_of_tokens tag.kind tag.tokens.items
part_of_kind (segment_kind.Data text) = if list_all is_space text.now then part.Blank else part.Other
part_of_kind (segment_kind.Comment marks text) = part.Blank
part_of_kind k = part.Other

abbrev pub part_in : Segment → Part
part_in segment = part_of_kind segment.part

-- ---- whether it may stand there

abbrev pub is_macro : Opened → Bool
is_macro o = position o.statement == position statement.Macro

-- `extends` is the first tag, with only whitespace before it. A child template has nothing but blocks,
-- `set`, macros and imports outside its blocks. Macros and imports are in no statement, and no block is
-- in a macro.
abbrev pub misplaced : Passed → List Opened → Part → Option PositionHint
misplaced passed opened part.Extends = if passed.started then Some hint.LateExtends else None
misplaced passed opened part.Definition = if length opened == 0 then None else Some hint.NotAtTop
misplaced passed opened part.Block = if list_any is_macro opened then Some hint.BlockInMacro else None
misplaced passed opened part.Statement =
    if passed.child && (length opened == 0) then Some hint.OutsideBlocks else None
misplaced passed opened p = None

abbrev pub is_blank : Part → Bool
is_blank part.Blank = true
is_blank p = false

abbrev pub extends : Part → Bool
extends part.Extends = true
extends p = false

abbrev pub passed_after : Passed → Part → Passed
passed_after passed p = record {
  started = passed.started || not (is_blank p);
  child = passed.child || extends p;
}

-- ---- all segments, from the first on

abbrev pub first_misplaced : Option PositionHint → Bool → Option PositionHint → Option PositionHint
first_misplaced (Some h) here later = if here then Some h else None
first_misplaced None here later = later

abbrev pub hint_from : Passed → List Opened → List Segment → ℕ → Option PositionHint
hint_from passed opened [] line = None
hint_from passed opened (segment ∷ rest) line =
    first_misplaced (misplaced passed opened (part_in segment)) ((role_in segment).1 == line)
    (hint_from (passed_after passed (part_in segment))
    (opened_after opened (role_in segment).0 (role_in segment).1) rest line)

abbrev pub position_hint : List Segment → ℕ → Option PositionHint
position_hint segments line = hint_from (record { started = false; child = false }) [] segments line

-- ---- what an explanation says

abbrev pub sentence : PositionHint → List ℕ
sentence hint.LateExtends = codes "extends comes first: only comments and whitespace stand before it"
sentence hint.OutsideBlocks =
    codes "outside its blocks a template that extends another has only set, macro and imports"
sentence hint.NotAtTop = codes "macros and imports stand outside all other statements"
sentence hint.BlockInMacro = codes "no block stands inside a macro"
