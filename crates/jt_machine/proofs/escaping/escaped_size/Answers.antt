use Rattle.jt_machine.proofs.Vocabulary.{escaped, take_all}
use Rattle.std.proofs.Common.{◌∙◌, ◌<◌, ◌≤◌, List, ℕ, length, ap, arith}
use Rattle.jt_machine.proofs.EscapedLength.{taken_more}
use Rattle.jt_machine.proofs.escaping.escaped_size.Goals as goal

pub overflow_add-size : goal.overflow_add-size
overflow_add-size c =
    let inside : c.bytes.byte-index < length c.args.text.now =
    rw c.as_bytes-byte-items.ensures.value at c.bytes-test.true in
    omega (arith, inside, c.bytes.invariant.few, c.escaped_len.ensures.few)

pub bytes-preserved : goal.bytes-preserved
bytes-preserved c = grind (arith, taken_more)

pub returns : goal.returns
returns c =
    let text = c.args.text.now in
    let all : length text ≤ c.bytes.byte-index = rw c.as_bytes-byte-items.ensures.value at c.bytes-test.false in
    c.bytes.invariant.taken ∙ ap (λ (xs : List ℕ). length (escaped xs)) (take_all c.bytes.byte-index text all)
