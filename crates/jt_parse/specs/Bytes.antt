-- The length of the texts of segments, in bytes.
use Rattle.std.specs.Prelude.{ℕ, ◌+◌, List, [], ◌∷◌, length, encode_utf8_all}
use Rattle.jt_scan.specs.Cut as cut
use Rattle.jt_scan.specs.Cut.{Segment}
use Rattle.jt_expr.specs.Sizes.{tokens_bytes}

abbrev pub segment_bytes : Segment → ℕ
segment_bytes (cut.data_of d) = length (encode_utf8_all d)
segment_bytes (cut.tag k ms line ts) = tokens_bytes ts
segment_bytes (cut.comment ms x) = 0
segment_bytes (cut.raw ms d ends) = length (encode_utf8_all d)

abbrev pub bytes_of : List Segment → ℕ
bytes_of [] = 0
bytes_of (s ∷ ss) = segment_bytes s + bytes_of ss
