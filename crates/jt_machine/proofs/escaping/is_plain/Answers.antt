use Rattle.jt_machine.proofs.Vocabulary.{escaped_more, escaped, escaped_byte, take_all, take_more}
use Rattle.std.proofs.Common.{◌≡◌, ◌∙◌, ℕ, ◌+◌, ◌<◌, ◌≤◌, List, [], ◌∷◌, ◌++◌, length, get_or, take, sym, ap, refl}
use Rattle.jt_machine.proofs.escaping.is_plain.Goals as goal

-- A text that needs no escaping needs none with one more byte of this kind.
kept_more : (text items : List ℕ) (i : ℕ) → items ≡ text → i < length items
    → escaped_byte (get_or items i 0) ≡ get_or items i 0 ∷ [] → escaped (take i text) ≡ take i text
    → escaped (take (i + 1) text) ≡ take (i + 1) text
kept_more text items i same inside kept before =
    let within : i < length text = rw same at inside in
    let here : escaped_byte (get_or text i 0) ≡ get_or text i 0 ∷ [] = rw same at kept in
    escaped_more text i within ∙ ap (λ (xs : List ℕ). xs ++ escaped_byte (get_or text i 0)) before
    ∙ ap (λ (xs : List ℕ). take i text ++ xs) here ∙ sym (take_more text i 0 within)

pub bytes-init : goal.bytes-init
bytes-init c = λ _. refl

pub bytes-preserved : goal.bytes-preserved
bytes-preserved c = λ is.
    let both = c.stays_plain-plain.ensures is in
    kept_more c.args.text.now c.as_bytes-byte-items.result.now c.bytes.byte-index c.as_bytes-byte-items.ensures.value
    c.bytes-test.true both.1 (c.bytes.invariant both.0)

pub returns : goal.returns
returns c = λ is.
    let text = c.args.text.now in
    let all : length text ≤ c.bytes.byte-index = rw c.as_bytes-byte-items.ensures.value at c.bytes-test.false in
    let whole : take c.bytes.byte-index text ≡ text = take_all c.bytes.byte-index text all in
    ap escaped (sym whole) ∙ c.bytes.invariant is ∙ whole
