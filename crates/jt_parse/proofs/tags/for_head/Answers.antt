use Rattle.std.proofs.Common.{rules, refl, ℕ, Ok, Err}
use Rattle.jt_expr.specs.Cursor.{ahead}
use Rattle.jt_parse.specs.declared.opening_tags.Head.TheVariants as h
use Rattle.jt_parse.proofs.FirstTags.{for_unnamed, for_without_in, for_over_none, for_last}
use Rattle.jt_parse.proofs.tags.for_head.Goals as goal

pub returns-in_err-targets : goal.returns-in_err-targets
returns-in_err-targets c =
    let q = λ (line : ℕ). for_unnamed line c.args.levels (ahead c.args.cursor.now) _ _ (ahead c.targets.new.cursor)
    c.in_err-targets.ensures in
    search rules

pub returns-in_err-expect_word : goal.returns-in_err-expect_word
returns-in_err-expect_word c =
    let q = λ (line : ℕ). for_without_in line c.args.levels (ahead c.args.cursor.now) c.in_ok-targets.targets
    (ahead c.targets.new.cursor) c.in_ok-targets.ensures _ _ (ahead c.expect_word.new.cursor)
    c.in_err-expect_word.ensures in
    search rules

pub returns-in_err-over : goal.returns-in_err-over
returns-in_err-over c =
    let q = λ (line : ℕ). for_over_none line c.args.levels (ahead c.args.cursor.now) c.in_ok-targets.targets
    (ahead c.targets.new.cursor) c.in_ok-targets.ensures (ahead c.expect_word.new.cursor) c.in_ok-expect_word.ensures _
    _ (ahead c.expression.new.cursor) c.in_err-over.ensures in
    search rules

pub returns-in_err-condition : goal.returns-in_err-condition
returns-in_err-condition c =
    let q = λ (line : ℕ). for_last line c.args.levels (ahead c.args.cursor.now) c.in_ok-targets.targets
    (ahead c.targets.new.cursor) c.in_ok-targets.ensures (ahead c.expect_word.new.cursor) c.in_ok-expect_word.ensures
    c.in_ok-over.over (ahead c.expression.new.cursor) c.in_ok-over.ensures (Err c.in_err-condition.field-0.0) _
    c.in_err-condition.ensures (ahead c.condition.new.cursor) in
    search rules

pub returns : goal.returns
returns c = λ line.
    for_last line c.args.levels (ahead c.args.cursor.now) c.in_ok-targets.targets (ahead c.targets.new.cursor)
    c.in_ok-targets.ensures (ahead c.expect_word.new.cursor) c.in_ok-expect_word.ensures c.in_ok-over.over
    (ahead c.expression.new.cursor) c.in_ok-over.ensures
    (Ok c.in_ok-condition.condition) (ahead c.condition.new.cursor) c.in_ok-condition.ensures
    (h.Loop
    (record { targets = c.in_ok-targets.targets; over = c.in_ok-over.over; condition = c.in_ok-condition.condition }))
    refl
