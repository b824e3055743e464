use Rattle.std.proofs.Common.{codes, sym, ◌∙◌, true, false, refl}
use Rattle.jt_expr.specs.Cursor.{ahead}
use Rattle.jt_parse.specs.declared.opening_tags.Head.TheVariants as h
use Rattle.jt_parse.specs.declared.opening_tags.BlockStart.TheVariants as o
use Rattle.jt_parse.proofs.TokenPrefixes.{word_taken, word_left, no_word}
use Rattle.jt_parse.proofs.FirstTags.{escaping_read, no_escaping}
use Rattle.jt_parse.proofs.tags.autoescape_head.Goals as goal

pub returns-then-eat_word : goal.returns-then-eat_word
returns-then-eat_word c = λ line limit.
    escaping_read line limit (ahead c.args.cursor.now) true (h.BlockStart (o.Escaping true)) (ahead c.eat_word.new.self)
    refl
    (word_taken (codes "true") _ _ c.eat_word.result c.eat_word.ensures.found c.eat_word.ensures.rest
    c.if-eat_word.true)

pub returns-then-eat_word-2 : goal.returns-then-eat_word-2
returns-then-eat_word-2 c = λ line limit.
    escaping_read line limit (ahead c.args.cursor.now) false (h.BlockStart (o.Escaping false))
    (ahead c.eat_word-2.new.self) refl
    (sym (word_left (codes "true") _ _ c.eat_word.result c.eat_word.ensures.found c.eat_word.ensures.rest
    c.if-eat_word.false)
    ∙ word_taken (codes "false") _ _ c.eat_word-2.result c.eat_word-2.ensures.found c.eat_word-2.ensures.rest
    c.if-eat_word-2.true)

pub returns : goal.returns
returns c = λ line limit.
    let first = word_left (codes "true") (ahead c.args.cursor.now) (ahead c.eat_word.new.self) c.eat_word.result
    c.eat_word.ensures.found c.eat_word.ensures.rest c.if-eat_word.false in
    no_escaping line limit (ahead c.args.cursor.now)
    (no_word (codes "true") _ _ c.eat_word.result c.eat_word.ensures.found c.eat_word.ensures.rest c.if-eat_word.false)
    (λ w e. no_word (codes "false") _ _ c.eat_word-2.result c.eat_word-2.ensures.found c.eat_word-2.ensures.rest
    c.if-eat_word-2.false w (first ∙ e))
    (ahead c.eat_word-2.new.self)
