use Rattle.std.proofs.Common.{rules, ◌≡◌, ◌≤◌, ◌<◌, map, length, Err, arith, subst}
use Rattle.jt_scan.specs.View.{token_view}
use Rattle.jt_expr.specs.Cursor.{ahead}
use Rattle.jt_expr.proofs.WholeTagExact.{OfAll, refused_before, left_over, all_read}
use Rattle.jt_expr.proofs.tag.read_all.Goals as goal

pub returns-in_err-expr : goal.returns-in_err-expr
returns-in_err-expr c = search (arith, rules, refused_before)

pub returns-then-left-gt0 : goal.returns-then-left-gt0
returns-then-left-gt0 c =
    let some : 0 < length (ahead c.read.new.cursor) = omega (arith, c.left.ensures, c.if-left-gt0.true) in
    left_over _ _ _ c.in_ok-expr.field-0 (rw c.new-rest.ensures at c.in_ok-expr.ensures.promises) some

pub returns : goal.returns
returns c =
    let none : length (ahead c.read.new.cursor) ≤ 0 = omega (arith, c.left.ensures, c.if-left-gt0.false) in
    let same : c.into_inner.result ≡ c.in_ok-expr.field-0.expr.value = cc in
    all_read _ _ _ c.in_ok-expr.field-0 c.into_inner.result (rw c.new-rest.ensures at c.in_ok-expr.ensures.promises)
    none same
