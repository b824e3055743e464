use Rattle.std.proofs.Common.{rules}
use Rattle.std.specs.Str.{chars}
use Rattle.std.specs.String.{string_bytes}
use Rattle.jt_scan.proofs.QuoteLoop.{piece_shrinks, value_goes_on, value_stops, value_ends}
use Rattle.jt_scan.proofs.quotes.text_value.Goals as goal

pub returns-in_default-read_piece : goal.returns-in_default-read_piece
returns-in_default-read_piece c =
    value_stops c.in-Some.c (chars c.in-Some.more.now) (chars c.pieces.rest.now) (string_bytes c.pieces.value) _
    c.pieces.invariant.1 c.in-Some.ensures c.in_default-read_piece.ensures

pub pieces-smaller : goal.pieces-smaller
pieces-smaller c =
    piece_shrinks c.in-Some.c (chars c.in-Some.more.now) _ (chars c.in-Some-read_piece.behind.now)
    (chars c.pieces.rest.now) c.in-Some.ensures c.in-Some-read_piece.ensures

pub pieces-preserved : goal.pieces-preserved
pieces-preserved c = (
  search rules,
  value_goes_on c.in-Some.c (chars c.in-Some.more.now) _ (chars c.in-Some-read_piece.behind.now)
      (chars c.pieces.rest.now) (string_bytes c.pieces.value) _ _ c.pieces.invariant.1 c.in-Some.ensures
      c.in-Some-read_piece.ensures c.in_ok-push_piece.ensures,
)

pub returns : goal.returns
returns c =
    value_ends (chars c.pieces.rest.now) (string_bytes c.pieces.value) _ c.pieces.invariant.1 c.in_default.ensures
