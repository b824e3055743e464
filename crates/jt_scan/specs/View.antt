-- The view of segments and tokens in contracts: characters instead of references.
use Rattle.std.specs.Prelude.{◌≡◌, List, [], ◌∷◌, map}
use Rattle.std.specs.Str.{chars}
use Rattle.jt_scan.specs.declared.options.Options.{Options}
use Rattle.jt_scan.specs.declared.segment.Segment.{Segment}
use Rattle.jt_scan.specs.declared.segment.SegmentKind.{SegmentKind}
use Rattle.jt_scan.specs.declared.segment.SegmentKind.TheVariants as s
use Rattle.jt_scan.specs.declared.segment.Token.{Token}
use Rattle.jt_scan.specs.declared.segment.Token.TheVariants as t
use Rattle.jt_scan.specs.Cut as cut
use Rattle.jt_scan.specs.Literals.{unescaped}

abbrev pub token_view : Token → cut.Token
token_view (t.Name x) = cut.name (chars x.now)
token_view (t.Number n) = cut.number n
token_view (t.Text raw) = cut.text (unescaped (chars raw.now))
token_view (t.Sign s) = cut.sign s

abbrev pub part_view : SegmentKind → cut.Segment
part_view (s.Data x) = cut.data_of (chars x.now)
part_view (s.Tag tag) = cut.tag tag.kind tag.marks tag.line (map token_view tag.tokens.items)
part_view (s.Comment ms x) = cut.comment ms (chars x.now)
part_view (s.Raw ms x ends) = cut.raw ms (chars x.now) ends

abbrev pub segment_view : Segment → cut.Segment
segment_view s = part_view s.part

-- The views of a list of segments.
abbrev pub cut_of : List Segment → List cut.Segment
cut_of = map segment_view

-- Each segment has these options.
abbrev pub HaveOptions : Options → List Segment → Type 0
HaveOptions o [] = Unit {0}
HaveOptions o (s ∷ ss) = (s.options ≡ o) × HaveOptions o ss
