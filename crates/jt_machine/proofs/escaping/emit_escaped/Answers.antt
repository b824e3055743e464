use Rattle.jt_machine.proofs.Vocabulary.{escaped, take_all}
use Rattle.std.proofs.Common.{◌≡◌, ℕ, ◌+◌, ◌<◌, length, arith, rules}
use Rattle.jt_budget.specs.declared.budget.Budget.{Budget}
use Rattle.jt_escape.proofs.EscapedPrefix.{escaped_front}
use Rattle.jt_machine.proofs.EscapedLength.{taken_more}
use Rattle.jt_machine.proofs.escaping.emit_escaped.Goals as goal

-- Two changes of the output change only the output.
still : (a b d : Budget) (n : ℕ) → b ≡ record a { output = b.output } → d ≡ record b { output = n }
    → d ≡ record a { output = d.output }
still a b d n before now = search (arith, rules)

pub bytes-preserved : goal.bytes-preserved
bytes-preserved c = search (arith, rules, taken_more, still)

pub returns-in_err-emit-clause-err : goal.returns-in_err-emit-clause-err
returns-in_err-emit-clause-err c =
    let more = taken_more c.args.text.now c.as_bytes-byte-items.result.now c.bytes.byte-index c.escaped_len.result
    c.as_bytes-byte-items.ensures.value c.bytes-test.true c.escaped_len.ensures.len in
    let front = escaped_front c.args.text.now (c.bytes.byte-index + 1) in
    let long : c.args.left.now.output < length (escaped c.args.text.now) =
    omega (arith, more, front, c.in_err-emit.ensures.err.1, c.bytes.invariant.taken) in
    let named = c.in_err-emit.ensures.err.0 in
    search (rules, long, named)

pub returns-clause-ok : goal.returns-clause-ok
returns-clause-ok c = search (arith, rules, take_all)
