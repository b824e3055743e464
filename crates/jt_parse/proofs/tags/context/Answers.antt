use Rattle.std.proofs.Common.{codes, sym, ◌∙◌}
use Rattle.jt_expr.specs.Cursor.{ahead}
use Rattle.jt_parse.proofs.TokenPrefixes.{word_taken, word_left, no_word}
use Rattle.jt_parse.proofs.TagParts.{with_read, without_read, context_unsaid}
use Rattle.jt_parse.proofs.tags.context.Goals as goal

pub returns-then-eat_word : goal.returns-then-eat_word
returns-then-eat_word c =
    with_read (ahead c.args.cursor.now) (ahead c.eat_word.new.self)
    (word_taken (codes "with") _ _ c.eat_word.result c.eat_word.ensures.found c.eat_word.ensures.rest
    c.if-eat_word.true)
    (ahead c.expect_word.new.cursor) c.in_ok-expect_word.ensures

pub returns-then-eat_word-2 : goal.returns-then-eat_word-2
returns-then-eat_word-2 c =
    without_read (ahead c.args.cursor.now) (ahead c.eat_word-2.new.self)
    (sym (word_left (codes "with") _ _ c.eat_word.result c.eat_word.ensures.found c.eat_word.ensures.rest
    c.if-eat_word.false)
    ∙ word_taken (codes "without") _ _ c.eat_word-2.result c.eat_word-2.ensures.found c.eat_word-2.ensures.rest
    c.if-eat_word-2.true)
    (ahead c.expect_word-then-eat_word-2.new.cursor) c.in_ok-expect_word-2.ensures

pub returns : goal.returns
returns c =
    let first = word_left (codes "with") (ahead c.args.cursor.now) (ahead c.eat_word.new.self) c.eat_word.result
    c.eat_word.ensures.found c.eat_word.ensures.rest c.if-eat_word.false in
    let second = word_left (codes "without") (ahead c.eat_word.new.self) (ahead c.eat_word-2.new.self)
    c.eat_word-2.result c.eat_word-2.ensures.found c.eat_word-2.ensures.rest c.if-eat_word-2.false in
    rw (second ∙ first)
    (context_unsaid (ahead c.args.cursor.now)
    (no_word (codes "with") _ _ c.eat_word.result c.eat_word.ensures.found c.eat_word.ensures.rest c.if-eat_word.false)
    (λ w e. no_word (codes "without") _ _ c.eat_word-2.result c.eat_word-2.ensures.found c.eat_word-2.ensures.rest
    c.if-eat_word-2.false w (first ∙ e)))
