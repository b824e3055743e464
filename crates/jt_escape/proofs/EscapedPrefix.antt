-- A text that is escaped up to a position `at`. The bytes from `written` to `at` need no entity and
-- are not yet appended.
use Rattle.std.proofs.Common.{◌≡◌, ℕ, ◌+◌, ◌-◌, ◌<◌, ◌≤◌, List, [], ◌∷◌, ◌++◌, length, get_or, take, drop, Option, Some}
use Rattle.std.proofs.Common.{None, sym, ap, ◌∙◌, append_assoc, length-drop, length-append, subst, arith}
use Rattle.std.specs.Prelude.{unwrap_or, Result, Ok, Err, OnErr}
use Rattle.std.proofs.lemmas.List.{take_more, get_or-drop, append-nil, take-append-drop, take_all}
use Rattle.std.proofs.Math.Seq.{take-append_seam}
use Rattle.std.proofs.lemmas.Str.{IsCharBoundary-from_take}
use Rattle.std.specs.Str.{IsUtf8, IsCharBoundary}
use Rattle.std.proofs.lemmas.Bool.Decides.{nat_tests}
use Rattle.std.proofs.lemmas.List.Concat.{flat_map-append}
use Rattle.jt_escape.specs.Escaping.{escaped, escaped_byte, entity}
use Rattle.jt_escape.specs.internal.Appending.{Extends}

pub escaped_more : (text : List ℕ) (at : ℕ) → at < length text
    → escaped (take (at + 1) text) ≡ escaped (take at text) ++ escaped_byte (get_or text at 0)
escaped_more text at inside =
    ap escaped (take_more text at 0 inside)
    ∙ flat_map-append escaped_byte (take at text) (get_or text at 0 ∷ [])
    ∙ ap (λ (ys : List ℕ). escaped (take at text) ++ ys) (append-nil (escaped_byte (get_or text at 0)))

pub run_more : (text : List ℕ) (written at : ℕ) → written ≤ at → at < length text
    → take ((at + 1) - written) (drop written text) ≡ take (at - written) (drop written text) ++ (get_or text at 0 ∷ [])
run_more text written at order inside =
    let n : (at + 1) - written ≡ (at - written) + 1 = omega arith in
    let far : at - written < length (drop written text) = omega (arith, length-drop written text) in
    let place : written + (at - written) ≡ at = omega arith in
    rw n (
    take_more (drop written text) (at - written) 0 far
    ∙ ap (λ (b : ℕ). take (at - written) (drop written text) ++ (b ∷ []))
    (get_or-drop written text (at - written) 0 ∙ ap (λ (i : ℕ). get_or text i 0) place)
    )

-- A byte without an entity extends the bytes from `written`.
pub goes_on : (text before into : List ℕ) (written at : ℕ) → written ≤ at → at < length text
    → entity (get_or text at 0) ≡ None
    → into ++ take (at - written) (drop written text) ≡ before ++ escaped (take at text)
    → into ++ take ((at + 1) - written) (drop written text) ≡ before ++ escaped (take (at + 1) text)
goes_on text before into written at order inside plain same =
    let one : escaped_byte (get_or text at 0) ≡ get_or text at 0 ∷ [] =
    ap (λ (e : Option (List ℕ)). unwrap_or e (get_or text at 0 ∷ [])) plain in
    let run = run_more text written at order inside in
    let out = escaped_more text at inside in
    rw (run, out, one) (rw (← append_assoc, ← append_assoc) (ap (λ (xs : List ℕ). xs ++ (get_or text at 0 ∷ [])) same))

-- A byte with an entity is escaped, after the bytes from `written` to it.
pub replaced : (text before into mid entity_text after : List ℕ) (written at : ℕ) → at < length text
    → entity (get_or text at 0) ≡ Some entity_text
    → into ++ take (at - written) (drop written text) ≡ before ++ escaped (take at text)
    → mid ≡ into ++ take (at - written) (drop written text)
    → after ≡ mid ++ entity_text
    → after ++ take ((at + 1) - (at + 1)) (drop (at + 1) text) ≡ before ++ escaped (take (at + 1) text)
replaced text before into mid entity_text after written at inside special same run out =
    let one : escaped_byte (get_or text at 0) ≡ entity_text =
    ap (λ (e : Option (List ℕ)). unwrap_or e (get_or text at 0 ∷ [])) special in
    let none : (at + 1) - (at + 1) ≡ 0 = omega arith in
    rw none (
    append-nil after
    ∙ out
    ∙ ap (λ (xs : List ℕ). xs ++ entity_text) (run ∙ same)
    ∙ append_assoc before (escaped (take at text)) entity_text
    ∙ ap (λ (xs : List ℕ). before ++ xs)
    (ap (λ (xs : List ℕ). escaped (take at text) ++ xs) (sym one) ∙ sym (escaped_more text at inside))
    )

pub extends_refl : (xs : List ℕ) → Extends xs xs
extends_refl xs = ([], sym (append-nil xs))

pub extends_more : (xs ys zs more : List ℕ) → Extends xs ys → zs ≡ ys ++ more → Extends xs zs
extends_more xs ys zs more (m, e) out = (m ++ more, out ∙ ap (λ (l : List ℕ). l ++ more) e ∙ append_assoc xs m more)

-- The five characters are ASCII.
pub entity_is_ascii : (byte : ℕ) (entity_text : List ℕ) → entity byte ≡ Some entity_text → byte < 128
entity_is_ascii byte entity_text special = grind (arith, nat_tests)

-- If a text is extended, the beginning of the result is the original text.
pub front : (before after more : List ℕ) → after ≡ before ++ more → take (length before) after ≡ before
front before after more e = rw e (take-append_seam before more)

-- A text that was extended may be truncated to its original length.
pub cut_back : (before after : List ℕ) → IsUtf8 before → IsUtf8 after → Extends before after
    → IsCharBoundary after (length before)
cut_back before after valid valid_after (more, e) =
    let n : length before ≤ length after = omega (arith, ap length e, length-append before more) in
    IsCharBoundary-from_take after (length before) valid_after n
    (subst (λ (xs : List ℕ). IsUtf8 xs) (sym (front before after more e)) valid)

-- The escaped beginning of a text is no longer than the escaped text.
pub escaped_front : (text : List ℕ) (at : ℕ) → length (escaped (take at text)) ≤ length (escaped text)
escaped_front text at =
    let whole : escaped text ≡ escaped (take at text) ++ escaped (drop at text) =
    ap escaped (sym (take-append-drop at text)) ∙ flat_map-append escaped_byte (take at text) (drop at text) in
    omega (arith, ap length whole, length-append (escaped (take at text)) (escaped (drop at text)))

-- The bytes from `written` need no more capacity than the escaped text.
pub run_room : (text before into : List ℕ) (written at : ℕ)
    → into ++ take (at - written) (drop written text) ≡ before ++ escaped (take at text)
    → length into + length (take (at - written) (drop written text)) ≤ length before + length (escaped text)
run_room text before into written at same =
    omega (
      arith,
      ap length same,
      length-append into (take (at - written) (drop written text)),
      length-append before (escaped (take at text)),
      escaped_front text at,
    )

-- The bytes from `written` with an entity after them need no more capacity than the escaped text.
pub entity_room : (text before into entity_text : List ℕ) (written at : ℕ) → at < length text
    → entity (get_or text at 0) ≡ Some entity_text
    → into ++ take (at - written) (drop written text) ≡ before ++ escaped (take at text)
    → (length into + length (take (at - written) (drop written text))) + length entity_text
    ≤ length before + length (escaped text)
entity_room text before into entity_text written at inside special same =
    let one : escaped_byte (get_or text at 0) ≡ entity_text =
    ap (λ (e : Option (List ℕ)). unwrap_or e (get_or text at 0 ∷ [])) special in
    let more : escaped (take (at + 1) text) ≡ escaped (take at text) ++ entity_text =
    escaped_more text at inside ∙ ap (λ (xs : List ℕ). escaped (take at text) ++ xs) one in
    omega (
      arith,
      ap length same,
      length-append into (take (at - written) (drop written text)),
      length-append before (escaped (take at text)),
      ap length more,
      length-append (escaped (take at text)) entity_text,
      escaped_front text (at + 1),
    )

-- The rest of a text without entities needs no more capacity than the escaped text.
pub rest_room : (text before into : List ℕ) (written at : ℕ) → length text ≤ at
    → into ++ take (at - written) (drop written text) ≡ before ++ escaped (take at text)
    → length into + length (drop written text) ≤ length before + length (escaped text)
rest_room text before into written at all same =
    let far : length (drop written text) ≤ at - written = omega (arith, length-drop written text) in
    let e : take (at - written) (drop written text) ≡ drop written text =
    take_all (at - written) (drop written text) far in
    omega (arith, run_room text before into written at same, ap length e)

pub on_err : {T E : Type 0} (r : Result T E) {P : Type 0} → P → OnErr r P
on_err (Ok x) p = tt
on_err (Err e) p = p
