-- The length of an escaped text, byte by byte.
use Rattle.jt_machine.proofs.Vocabulary.{escaped_more, escaped, escaped_byte}
use Rattle.std.proofs.Common.{◌≡◌, ◌∙◌, ℕ, ◌+◌, ◌<◌, List, length, get_or, take, sym, ap, length-append}

-- The escaped length with one more byte is the sum of both lengths.
pub taken_more : (text items : List ℕ) (i n : ℕ) → items ≡ text → i < length items
    → n ≡ length (escaped_byte (get_or items i 0))
    → length (escaped (take (i + 1) text)) ≡ length (escaped (take i text)) + n
taken_more text items i n same inside is =
    let within : i < length text = rw same at inside in
    let here : n ≡ length (escaped_byte (get_or text i 0)) = rw same at is in
    ap length (escaped_more text i within) ∙ length-append (escaped (take i text)) (escaped_byte (get_or text i 0))
    ∙ ap (λ (m : ℕ). length (escaped (take i text)) + m) (sym here)
