use Rattle.std.proofs.Common.{chars, map, arith}
use Rattle.jt_scan.specs.View.{token_view}
use Rattle.jt_expr.specs.Cursor.{ahead}
use Rattle.jt_parse.proofs.FirstTags.{tokens_left, none_left}
use Rattle.jt_parse.proofs.tags.read_head.Goals as goal

pub returns-then-left-gt0 : goal.returns-then-left-gt0
returns-then-left-gt0 c =
    tokens_left c.args.line c.args.levels (chars c.args.word.now) (map token_view c.args.tokens.now) c.in_ok-found.found
    (ahead c.head.new.cursor) (ahead c.head.new.cursor) (rw c.new-cursor.ensures at c.in_ok-found.ensures)
    (omega (arith, c.left.ensures, c.if-left-gt0.true))

pub returns : goal.returns
returns c =
    none_left c.args.line c.args.levels (chars c.args.word.now) (map token_view c.args.tokens.now) c.in_ok-found.found
    (ahead c.head.new.cursor) (rw c.new-cursor.ensures at c.in_ok-found.ensures)
    (omega (arith, c.left.ensures, c.if-left-gt0.false))
