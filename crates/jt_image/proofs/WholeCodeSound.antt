-- The result of reading all bytes is a code, and the bytes are its spelling.
use Rattle.std.proofs.Common.{◌≡◌, ℕ, ◌<◌, ◌≤◌, ◌^◌, ltb, List, [], ◌++◌, length, take, drop, Ok, sym, ap, subst, ◌∙◌}
use Rattle.std.proofs.Common.{append_assoc}
use Rattle.std.specs.Prelude.{◌==◌, nat_le}
use Rattle.std.specs.Int.{w16, to_le_bytes}
use Rattle.std.specs.List.{flat_map}
use Rattle.std.specs.Str.{bytes_eq}
use Rattle.std.proofs.lemmas.Slice.Eq.{bytes_eq-Decides}
use Rattle.std.proofs.lemmas.Bool.{leb-true, eqb-true}
use Rattle.std.proofs.lemmas.List.{append-nil, take-append-drop, nil_from_length}
use Rattle.jt_image.specs.declared.error.ImageError.TheVariants.{Truncated, BadMagic, LimitPassed}
use Rattle.jt_image.specs.Code.{Code}
use Rattle.jt_image.specs.Spelling.{magic, version_number, name_bytes, constant_bytes, header_bytes, spelling}
use Rattle.jt_image.specs.IsCode.{total_len, IsCode, max_bytes}
use Rattle.jt_image.specs.Reading.{check, number_at, magic_at, version_at, start_at, units_at, all_names_at}
use Rattle.jt_image.specs.Reading.{all_constants_at, trailer_at, code_of}
use Rattle.jt_image.proofs.DecodeSoundLemmas.{AllOk, all_map, bind_from, check_all, unless_all, IsBytes, IsBytes-drop}
use Rattle.jt_image.proofs.DecodeSoundLemmas.{Takes, Takes-then, wide16, number_found}
use Rattle.jt_image.proofs.DecodeSound.{code_bytes}
use Rattle.jt_image.proofs.WholeImageSound.{AreNames, names_bytes, names_found, AreConstants, constants_bytes}
use Rattle.jt_image.proofs.WholeImageSound.{constants_found, AreUnits, units_bytes, units_found}
use Rattle.jt_image.proofs.TrailerRoundTrip.{version_found, IsTrailer, trailer_bytes, back_found}

magic_found : (bytes : List ℕ) → IsBytes bytes → AllOk (magic_at bytes) (λ rest. Takes bytes magic rest)
unfolding magic_at
magic_found bytes fits =
    unless_all (ltb (length bytes) 4) Truncated (check (bytes_eq (take 4 bytes) magic) BadMagic (Ok (drop 4 bytes)))
    (λ rest. Takes bytes magic rest) (λ _.
    check_all (bytes_eq (take 4 bytes) magic) BadMagic (Ok (drop 4 bytes)) (λ rest. Takes bytes magic rest) (λ e.
    let same : take 4 bytes ≡ magic = (bytes_eq-Decides (take 4 bytes) magic).0 e in
    record {
      parts = sym (take-append-drop 4 bytes) ∙ ap (λ (t : List ℕ). t ++ drop 4 bytes) same;
      fits = IsBytes-drop 4 bytes fits;
    }))

pub start_found : (bytes : List ℕ) → IsBytes bytes
    → AllOk (start_at bytes) (λ x. Takes bytes (magic ++ to_le_bytes w16 (version_number x.0)) x.1)
unfolding start_at
start_found bytes fits =
    bind_from (magic_at bytes) (λ rest. version_at rest) (λ rest. Takes bytes magic rest)
    (λ x. Takes bytes (magic ++ to_le_bytes w16 (version_number x.0)) x.1) (magic_found bytes fits) (λ rest t.
    all_map (version_at rest) (λ x. Takes rest (to_le_bytes w16 (version_number x.0)) x.1)
    (λ x. Takes bytes (magic ++ to_le_bytes w16 (version_number x.0)) x.1) (version_found rest t.fits) (λ x u.
    Takes-then bytes magic rest (to_le_bytes w16 (version_number x.0)) x.1 t u))

regroup : (m v g ln fn lc fc lu fh fu pb bytes r0 r1 r2 r3 r4 r5 : List ℕ) → bytes ≡ (m ++ v) ++ r0 → r0 ≡ g ++ r1
    → r1 ≡ (ln ++ fn) ++ r2 → r2 ≡ (lc ++ fc) ++ r3 → r3 ≡ (lu ++ (fh ++ fu)) ++ r4 → r4 ≡ pb ++ r5 → r5 ≡ []
    → bytes ≡ m ++ (v ++ (g ++ (ln ++ (fn ++ (lc ++ (fc ++ (lu ++ (fh ++ (fu ++ pb)))))))))
regroup m v g ln fn lc fc lu fh fu pb bytes r0 r1 r2 r3 r4 r5 a b c d e f h =
    a ∙ rw (b, c, d, e, f, h) (simp (append_assoc, append-nil))

-- The result is a code, and the bytes are its spelling.
abbrev pub IsSpelledBy : List ℕ → Code → Type 0
IsSpelledBy bytes k = IsCode k × (bytes ≡ spelling k)

pub code_found : (bytes : List ℕ) → IsBytes bytes → AllOk (code_of bytes) (IsSpelledBy bytes)
unfolding code_of
code_found bytes fits =
    let P : Code → Type 0 = IsSpelledBy bytes in
    check_all (nat_le (length bytes) max_bytes) LimitPassed _ P (λ small.
    bind_from (start_at bytes) _ (λ x. Takes bytes (magic ++ to_le_bytes w16 (version_number x.0)) x.1) P
    (start_found bytes fits) (λ start ts.
    bind_from (number_at w16 start.1) _ (λ g. Takes start.1 (to_le_bytes w16 g.0) g.1 × (g.0 < 2 ^ 16)) P
    (number_found w16 (2 ^ 16) wide16 start.1 ts.fits) (λ g tg.
    bind_from (all_names_at g.0 g.1) _ (λ x. Takes g.1 (names_bytes x.0) x.1 × AreNames g.0 x.0) P
    (names_found g.0 g.1 tg.0.fits) (λ ns tn.
    bind_from (all_constants_at ns.1) _ (λ x. Takes ns.1 (constants_bytes x.0) x.1 × AreConstants x.0) P
    (constants_found ns.1 tn.0.fits) (λ cs tc.
    bind_from (units_at cs.1) _ (λ x. Takes cs.1 (units_bytes x.0) x.1 × AreUnits x.0) P (units_found cs.1 tc.0.fits)
    (λ us tu.
    bind_from (trailer_at start.0 (total_len us.0) us.1) _
    (λ x. Takes us.1 (trailer_bytes start.0 x.0) x.1 × IsTrailer start.0 (total_len us.0) x.0) P
    (back_found start.0 (total_len us.0) us.1 tu.0.fits) (λ b tb.
    check_all (length b.1 == 0) _ _ P (λ ended.
    let k : Code = record {
      version = start.0;
      globals = g.0;
      names = ns.0;
      constants = cs.0;
      units = us.0;
      templates = b.0.templates;
      places = b.0.places;
    } in
    let none : b.1 ≡ [] = nil_from_length b.1 (eqb-true (length b.1) 0 ended) in
    let whole : bytes ≡ spelling k = regroup magic (to_le_bytes w16 (version_number start.0)) (to_le_bytes w16 g.0)
    (to_le_bytes w16 (length ns.0)) (flat_map name_bytes ns.0) (to_le_bytes w16 (length cs.0))
    (flat_map constant_bytes cs.0) (to_le_bytes w16 (length us.0)) (flat_map header_bytes us.0)
    (flat_map code_bytes us.0) (trailer_bytes start.0 b.0) bytes start.1 g.1 ns.1 cs.1 us.1 b.1 ts.parts tg.0.parts
    tn.0.parts tc.0.parts tu.0.parts tb.0.parts none in (
      record {
        globals = tg.1;
        count_names = tn.1.count;
        names = tn.1.all;
        ascend = tn.1.ascend;
        distinct = tn.1.distinct;
        count_constants = tc.1.0;
        constants = tc.1.1;
        count_units = tu.1.count;
        units = tu.1.all;
        entry =
            record { entry = tu.1.first.entry; is = tu.1.first.is; emits = tu.1.first.emits; plain = tu.1.first.plain };
        instructions = tu.1.total;
        count_templates = tb.1.texts.count;
        templates = tb.1.texts.all;
        ascend_templates = tb.1.texts.ascend;
        places = tb.1.places;
        placed = tb.1.placed;
        bytes = subst (λ (b : List ℕ). length b ≤ max_bytes) whole (leb-true _ _ small);
      },
      whole,
    )))))))))
