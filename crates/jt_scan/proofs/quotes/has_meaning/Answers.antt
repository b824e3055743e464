use Rattle.std.proofs.Common.{sym, rules}
use Rattle.std.specs.Str.{chars}
use Rattle.jt_scan.proofs.QuoteLoop.{piece_shrinks, meaning_goes_on, meaning_stops, meaning_ends}
use Rattle.jt_scan.proofs.quotes.has_meaning.Goals as goal

pub returns-in_default-read_piece : goal.returns-in_default-read_piece
returns-in_default-read_piece c =
    sym (meaning_stops c.in-Some.c (chars c.in-Some.more.now) (chars c.pieces.rest.now) _ c.pieces.invariant.1
    c.in-Some.ensures c.in_default-read_piece.ensures)

pub pieces-smaller : goal.pieces-smaller
pieces-smaller c =
    piece_shrinks c.in-Some.c (chars c.in-Some.more.now) _ (chars c.in-Some-read_piece.behind.now)
    (chars c.pieces.rest.now) c.in-Some.ensures c.in-Some-read_piece.ensures

pub pieces-preserved : goal.pieces-preserved
pieces-preserved c = (
  search rules,
  meaning_goes_on c.in-Some.c (chars c.in-Some.more.now) _ (chars c.in-Some-read_piece.behind.now)
      (chars c.pieces.rest.now) _ c.pieces.invariant.1 c.in-Some.ensures c.in-Some-read_piece.ensures,
)

pub returns : goal.returns
returns c = sym (meaning_ends (chars c.pieces.rest.now) _ c.pieces.invariant.1 c.in_default.ensures)
