use Rattle.std.proofs.Common.{rules, refl, codes, Some, Ok, Err}
use Rattle.jt_expr.specs.Cursor.{ahead}
use Rattle.jt_parse.proofs.TokenPrefixes.{word_taken, word_left, no_word}
use Rattle.jt_parse.proofs.TagParts.{no_condition_read, condition_last}
use Rattle.jt_parse.proofs.tags.condition.Goals as goal

pub returns-then-not-eat_word : goal.returns-then-not-eat_word
returns-then-not-eat_word c =
    rw (word_left (codes "if") (ahead c.args.cursor.now) (ahead c.eat_word.new.self) c.eat_word.result
    c.eat_word.ensures.found c.eat_word.ensures.rest c.if-not-eat_word.true)
    (no_condition_read c.args.levels (ahead c.args.cursor.now)
    (no_word (codes "if") _ _ c.eat_word.result c.eat_word.ensures.found c.eat_word.ensures.rest
    c.if-not-eat_word.true))

pub returns-in_err-found : goal.returns-in_err-found
returns-in_err-found c =
    let q = condition_last c.args.levels (ahead c.args.cursor.now) (ahead c.eat_word.new.self)
    (word_taken (codes "if") _ _ c.eat_word.result c.eat_word.ensures.found c.eat_word.ensures.rest
    c.if-not-eat_word.false) (Err c.in_err-found.field-0.0) _ c.in_err-found.ensures (ahead c.expression.new.cursor) in
    search rules

pub returns : goal.returns
returns c =
    condition_last c.args.levels (ahead c.args.cursor.now) (ahead c.eat_word.new.self)
    (word_taken (codes "if") _ _ c.eat_word.result c.eat_word.ensures.found c.eat_word.ensures.rest
    c.if-not-eat_word.false)
    (Ok c.in_ok-found.found) (ahead c.expression.new.cursor) c.in_ok-found.ensures (Some c.in_ok-found.found) refl
