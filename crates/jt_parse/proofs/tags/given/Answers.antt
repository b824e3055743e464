use Rattle.std.proofs.Common.{rules, refl, codes, Some, Ok, Err}
use Rattle.jt_expr.specs.Cursor.{ahead}
use Rattle.jt_parse.proofs.TokenPrefixes.{word_taken, word_left, no_word}
use Rattle.jt_parse.proofs.TagParts.{not_given, given_last}
use Rattle.jt_parse.proofs.tags.given.Goals as goal

pub returns-then-not-eat_word : goal.returns-then-not-eat_word
returns-then-not-eat_word c =
    rw (word_left (codes "as") (ahead c.args.cursor.now) (ahead c.eat_word.new.self) c.eat_word.result
    c.eat_word.ensures.found c.eat_word.ensures.rest c.if-not-eat_word.true)
    (not_given (ahead c.args.cursor.now) (no_word (codes "as") _ _ c.eat_word.result c.eat_word.ensures.found
    c.eat_word.ensures.rest c.if-not-eat_word.true))

pub returns-in_err-name : goal.returns-in_err-name
returns-in_err-name c =
    let q = given_last (ahead c.args.cursor.now) (ahead c.eat_word.new.self)
    (word_taken (codes "as") _ _ c.eat_word.result c.eat_word.ensures.found c.eat_word.ensures.rest
    c.if-not-eat_word.false) (Err c.in_err-name.field-0.0) _ c.in_err-name.ensures (ahead c.target.new.cursor) in
    search rules

pub returns : goal.returns
returns c =
    given_last (ahead c.args.cursor.now) (ahead c.eat_word.new.self)
    (word_taken (codes "as") _ _ c.eat_word.result c.eat_word.ensures.found c.eat_word.ensures.rest
    c.if-not-eat_word.false) (Ok c.in_ok-name.name) (ahead c.target.new.cursor) c.in_ok-name.ensures
    (Some c.in_ok-name.name) refl
