use Rattle.std.proofs.Common.{rules, refl, codes, ℕ}
use Rattle.jt_expr.specs.Cursor.{ahead}
use Rattle.jt_parse.specs.declared.opening_tags.Head.TheVariants as h
use Rattle.jt_parse.specs.declared.opening_tags.BlockStart.TheVariants as o
use Rattle.jt_parse.proofs.TokenPrefixes.{word_taken}
use Rattle.jt_parse.proofs.FirstTags.{block_unnamed, block_read}
use Rattle.jt_parse.proofs.tags.block_head.Goals as goal

pub returns-in_err-name : goal.returns-in_err-name
returns-in_err-name c =
    let q = λ (line limit : ℕ).
    block_unnamed line limit (ahead c.args.cursor.now) _ _ (ahead c.target.new.cursor) c.in_err-name.ensures in
    search rules

pub returns : goal.returns
returns c = λ line limit.
    block_read line limit (ahead c.args.cursor.now) c.in_ok-name.name (ahead c.target.new.cursor)
    (ahead c.eat_word-scoped.new.self) (ahead c.eat_word-required.new.self) c.eat_word-scoped.result
    c.eat_word-required.result
    (h.BlockStart (o.Block c.in_ok-name.name c.eat_word-scoped.result c.eat_word-required.result)) c.in_ok-name.ensures
    c.eat_word-scoped.ensures.found c.eat_word-scoped.ensures.rest
    (word_taken (codes "scoped") _ _ c.eat_word-scoped.result c.eat_word-scoped.ensures.found
    c.eat_word-scoped.ensures.rest)
    c.eat_word-required.ensures.found c.eat_word-required.ensures.rest
    (word_taken (codes "required") _ _ c.eat_word-required.result c.eat_word-required.ensures.found
    c.eat_word-required.ensures.rest) refl
