-- The text that is still to be shown is the bytes from `plain` to `at` unchanged, and the bytes
-- after them as they are shown.
use Rattle.std.proofs.Common.{◌≡◌, ◌+◌, ◌-◌, ◌<◌, ◌≤◌, ℕ, Bool, true, false, List, ◌∷◌, ◌++◌, add-one, ap}
use Rattle.std.proofs.Common.{append_assoc, arith, drop, get_or, length, length-drop, take, rules}
use Rattle.std.proofs.Math.Seq.{drop-cons}
use Rattle.std.proofs.lemmas.List.{append-nil, drop_all, take_all}
use Rattle.jt_escape.specs.Shown.{shown, shown_byte}
use Rattle.jt_escape.proofs.EscapedPrefix.{run_more}

module _ (is_special : ℕ → Bool) (escape : ℕ → List ℕ) where
  abbrev pub still_shown : List ℕ → ℕ → ℕ → List ℕ
  still_shown text plain at = take (at - plain) (drop plain text) ++ shown is_special escape (drop at text)

  -- The next byte is shown first, then the bytes after it.
  one_behind : (text : List ℕ) (at : ℕ) → at < length text
      → shown is_special escape (drop at text)
      ≡ shown_byte is_special escape (get_or text at 0) ++ shown is_special escape (drop (at + 1) text)
  one_behind text at inside =
      let cut : drop at text ≡ get_or text at 0 ∷ drop (at + 1) text = rw add-one (drop-cons text at 0 inside) in
      ap (shown is_special escape) cut

  -- A byte that is shown as it is extends the bytes from `plain`.
  pub plain_more : (text : List ℕ) (plain at : ℕ) → plain ≤ at → at < length text
      → is_special (get_or text at 0) ≡ false
      → still_shown text plain at ≡ still_shown text plain (at + 1)
  plain_more text plain at order inside is = search (arith, rules, get_or, one_behind, append_assoc, run_more)

  none_between : (text : List ℕ) (at : ℕ) → still_shown text at at ≡ shown is_special escape (drop at text)
  none_between text at = search (arith, rules)

  -- A byte with an escape is shown after the bytes from `plain`.
  pub special_more : (text : List ℕ) (plain at : ℕ) → at < length text → is_special (get_or text at 0) ≡ true
      → still_shown text plain at
      ≡ take (at - plain) (drop plain text) ++ (escape (get_or text at 0) ++ still_shown text (at + 1) (at + 1))
  special_more text plain at inside is = search (arith, rules, get_or, one_behind, none_between)

  -- At the end of the text only the bytes from `plain` are left.
  pub none_more : (text : List ℕ) (plain at : ℕ) → length text ≤ at → still_shown text plain at ≡ drop plain text
  none_more text plain at far = search (arith, rules, length-drop, drop_all, append-nil, take_all)

  -- The bytes from `plain` and an escape are appended, and the whole stays the same.
  pub pushed : (text made mid after run all : List ℕ) (byte plain at : ℕ) → at < length text
      → is_special (get_or text at 0) ≡ true → byte ≡ get_or text at 0
      → run ≡ take (at - plain) (drop plain text) → mid ≡ made ++ run → after ≡ mid ++ escape byte
      → made ++ still_shown text plain at ≡ all
      → after ++ still_shown text (at + 1) (at + 1) ≡ all
  pushed text made mid after run all byte plain at inside is this taken first second same =
      search (arith, rules, special_more, get_or, append_assoc)
