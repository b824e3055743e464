-- The trimming of text between tags, and the pieces of a source's segments.
-- Each segment has the options of its source. A text is a list of characters.
use Rattle.std.specs.Prelude.{ℕ, ◌-◌, ◌==◌, ◌||◌, ◌&&◌, Bool, true, false, List, [], ◌∷◌, length, take, if◌then◌else◌}
use Rattle.jt_scan.specs.declared.options.Options.{Options}
use Rattle.jt_scan.specs.declared.segment.TagKind.{TagKind}
use Rattle.jt_scan.specs.declared.segment.TagKind.TheVariants as kind
use Rattle.jt_scan.specs.declared.segment.Mark.{Mark}
use Rattle.jt_scan.specs.declared.segment.Mark.TheVariants as m
use Rattle.jt_scan.specs.Cut as cut
use Rattle.jt_scan.specs.Cut.{Text, Token, Segment, is_space, after_space}

-- The neighbour of a text.
pub data Neighbour : Type 0 where
  -- The start or the end of the source.
  nothing : Neighbour
  -- A neighbour that is text, not a tag or boundary.
  words : Neighbour
  -- A neighbour with its mark on this side: a block tag, a comment or raw text, or a variable tag.
  block_side : Mark → Neighbour
  variable_side : Mark → Neighbour

abbrev pub side_of : TagKind → Mark → Neighbour
side_of kind.Block mark = block_side mark
side_of kind.Variable mark = variable_side mark

-- A segment as the left neighbour of the text after it.
abbrev pub side_behind : Segment → Neighbour
side_behind (cut.data_of d) = words
side_behind (cut.tag k marks line ts) = side_of k marks.closing
side_behind (cut.comment marks x) = block_side marks.closing
side_behind (cut.raw marks d ends) = block_side ends.closing

-- A segment as the right neighbour of the text before it.
abbrev pub side_before : Segment → Neighbour
side_before (cut.data_of d) = words
side_before (cut.tag k marks line ts) = side_of k marks.opening
side_before (cut.comment marks x) = block_side marks.opening
side_before (cut.raw marks d ends) = block_side marks.opening

-- ---- the left end

abbrev pub after_lf : Text → Text
after_lf [] = []
after_lf (c ∷ x) = if c == 10 then x else c ∷ x

-- A text trimmed at its left end. After `-` all whitespace is trimmed. After a block tag without a
-- mark one LF is trimmed, if `trim_blocks` is set.
abbrev pub after_left : Options → Neighbour → Text → Text
after_left options (block_side m.Minus) d = after_space d
after_left options (variable_side m.Minus) d = after_space d
after_left options (block_side m.Absent) d = if options.trim_blocks then after_lf d else d
after_left options side d = d

-- ---- the right end

-- The characters space and tab.
abbrev pub is_blank : ℕ → Bool
is_blank c = c == 32 || c == 9

abbrev pub all_pass : (ℕ → Bool) → Text → Bool
all_pass test [] = true
all_pass test (c ∷ x) = test c && all_pass test x

-- The longest suffix of a text in which each character passes the test.
unfoldable pub ending : (ℕ → Bool) → Text → Text
ending test [] = []
ending test (c ∷ x) = if all_pass test (c ∷ x) then c ∷ x else ending test x

-- A line begins where that suffix begins. The flag is set if a line begins where the text begins.
unfoldable pub ending_starts : (ℕ → Bool) → Bool → Text → Bool
ending_starts test starts [] = starts
ending_starts test starts (c ∷ x) = if all_pass test (c ∷ x) then starts else ending_starts test (c == 10) x

abbrev pub is_start : Neighbour → Bool
is_start nothing = true
is_start side = false

abbrev pub blank_end : Bool → Text → Text
blank_end start d = if ending_starts is_blank start d then ending is_blank d else []

-- The suffix that is trimmed at the right end. Before `-` it is all whitespace. Before a block tag
-- without a mark it is the spaces and tabs of the tag's line, if `lstrip_blocks` is set. This holds
-- only if nothing else precedes the tag on its line.
abbrev pub removed_right : Options → Bool → Neighbour → Text → Text
removed_right options start (block_side m.Minus) d = ending is_space d
removed_right options start (variable_side m.Minus) d = ending is_space d
removed_right options start (block_side m.Absent) d = if options.lstrip_blocks then blank_end start d else []
removed_right options start side d = []

-- ---- both ends

-- A text without its last n characters.
abbrev pub without_end : ℕ → Text → Text
without_end count x = take (length x - count) x

-- A text trimmed at both ends, next to its neighbours. Both trimmed parts are found in the original
-- text. If they meet or overlap, nothing is left.
abbrev pub kept : Options → Neighbour → Neighbour → Text → Text
kept options left right d =
    without_end (length (removed_right options (is_start left) right d)) (after_left options left d)

-- ---- pieces: the input of the parser

pub data SourcePiece : Type 0 where
  -- A text, which is never empty.
  text : Text → SourcePiece
  -- A tag with its line.
  tag : TagKind → ℕ → List Token → SourcePiece

abbrev pub with_text : Text → List SourcePiece → List SourcePiece
with_text [] ps = ps
with_text (c ∷ x) ps = text (c ∷ x) ∷ ps

abbrev pub Read : Type 0
Read = Options × Segment

abbrev pub side_ahead : List Read → Neighbour
side_ahead [] = nothing
side_ahead (s ∷ ss) = side_before s.1

-- The pieces of a segment between two neighbours, followed by other pieces. A comment has no
-- pieces. The neighbours of raw text are its own two tags.
abbrev pub with_segment : Options → Neighbour → Neighbour → Segment → List SourcePiece → List SourcePiece
with_segment options left right (cut.data_of d) ps = with_text (kept options left right d) ps
with_segment options left right (cut.tag k marks line ts) ps = tag k line ts ∷ ps
with_segment options left right (cut.comment marks x) ps = ps
with_segment options left right (cut.raw marks d ends) ps =
    with_text (kept options (block_side marks.closing) (block_side ends.opening) d) ps

-- The pieces of segments after a left neighbour.
abbrev pub pieces_from : Neighbour → List Read → List SourcePiece
pieces_from left [] = []
pieces_from left (s ∷ ss) =
    with_segment s.0 left (side_ahead ss) s.1 (pieces_from (side_behind s.1) ss)

-- The pieces of all segments of a source.
abbrev pub pieces : List Read → List SourcePiece
pieces = pieces_from nothing
