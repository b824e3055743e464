-- Parts at offsets of an image's bytes: a part that was read is at its offset, and the bytes there
-- have its form.
use Rattle.std.proofs.Common.{◌≡◌, ℕ, suc, ◌+◌, ◌-◌, ◌<◌, ◌≤◌, ◌^◌, Bool, true, false, cond, ltb, List, [], ◌∷◌, ◌++◌}
use Rattle.std.proofs.Common.{length, take, drop, get_or, Result, Ok, Err, refl, sym, ap, subst, ◌∙◌, arith}
use Rattle.std.proofs.Common.{append_assoc, rules}
use Rattle.std.specs.Prelude.{IsUtf8}
use Rattle.std.specs.Int.{Width, w16, w32, byte_len, from_le_bytes, to_le_bytes}
use Rattle.std.specs.Str.{is_utf8}
use Rattle.std.proofs.lemmas.Str.{IsUtf8-from_is_utf8}
use Rattle.std.proofs.lemmas.Bool.{ltb-false}
use Rattle.std.proofs.lemmas.List.{length-append, length-drop, length-map, drop-drop, drop_at}
use Rattle.jt_image.specs.declared.error.ImageError.{ImageError}
use Rattle.jt_image.specs.declared.error.ImageError.TheVariants.{Truncated, BadText}
use Rattle.jt_image.specs.declared.instruction.Instruction.{Instruction}
use Rattle.jt_image.specs.declared.version.Version.{Version}
use Rattle.jt_image.specs.declared.version.Version.TheVariants as version
use Rattle.jt_image.specs.Code.{Constant, undefined, Name, SourceLoc}
use Rattle.jt_image.specs.IsCode.{max_bytes}
use Rattle.jt_image.specs.Spelling.{magic, version_number, name_bytes, instruction_bytes, template_bytes}
use Rattle.jt_image.specs.Reading.{◌>>=◌, check, number_at, text_at, name_at, long_text_at, constant_of, constant_at}
use Rattle.jt_image.specs.Reading.{instruction_at, instructions_at, Header, header_at, headers_at, header_total}
use Rattle.jt_image.specs.Reading.{is_first, start_at, template_at, all_templates_at, locs_at, Trailer, trailer_at}
use Rattle.jt_image.specs.Reading.{Fails}
use Rattle.jt_image.specs.InPlace.{IsRead, read_or, bare_text_at, template_in, templates_in, HasTemplate, bare_name_at}
use Rattle.jt_image.specs.InPlace.{name_in, HasName, constant_in, HasConstant, start_len, AreLast}
use Rattle.jt_image.proofs.DecodeSoundLemmas.{Read, all_at, IsBytes, IsBytes-drop, Takes, IsWide, number_found, Many}
use Rattle.jt_image.proofs.DecodeSoundLemmas.{many_found, wide16}
use Rattle.jt_image.proofs.DecodeSound.{IsNamed, name_found, constant_found, instruction_found, good_instruction}
use Rattle.jt_image.proofs.DecodeSound.{head_bytes, header_found}
use Rattle.jt_image.proofs.WholeImageSound.{good_header}
use Rattle.jt_image.proofs.WholeCodeSound.{start_found}
use Rattle.jt_image.proofs.TrailerRoundTrip.{IsNextText, template_found}
use Rattle.jt_image.proofs.RoundTripLemmas.{number_again, text_again, bind_again}

-- ---- the remaining bytes

pub takes_last : (bytes rest taken after : List ℕ) → Takes rest taken after → AreLast bytes rest → AreLast bytes after
takes_last bytes rest taken after t h =
    let len : length rest ≡ length taken + length after = ap length t.parts ∙ length-append taken after in
    let further : length bytes - length after ≡ (length bytes - length rest) + length taken =
    omega (arith, h.within, len) in
    record {
      small = h.small;
      within = omega (arith, h.within, len);
      are =
          ap (λ (n : ℕ). drop n bytes) further ∙ sym (drop-drop (length taken) (length bytes - length rest) bytes)
          ∙ ap (drop (length taken)) (h.are ∙ t.parts) ∙ drop_at taken after (length taken) refl;
    }

pub last_fits : (bytes rest : List ℕ) → IsBytes bytes → AreLast bytes rest → IsBytes rest
last_fits bytes rest fits h =
    subst (λ (b : List ℕ). IsBytes b) h.are (IsBytes-drop (length bytes - length rest) bytes fits)

pub number_last : (w : Width) (limit : ℕ) → IsWide w limit → (bytes rest : List ℕ) (n : ℕ) (after : List ℕ)
    → IsBytes bytes → AreLast bytes rest → number_at w rest ≡ Ok (n, after) → AreLast bytes after
number_last w limit wide bytes rest n after fits h e =
    let t = all_at (number_at w rest) (λ x. Takes rest (to_le_bytes w x.0) x.1 × (x.0 < limit)) (n, after) e
    (number_found w limit wide rest (last_fits bytes rest fits h)) in
    takes_last bytes rest (to_le_bytes w n) after t.0 h

-- A part that was read from the remaining bytes is at the offset where they begin.
pub there : {A : Type 0} (reader : List ℕ → Read A) (bytes rest : List ℕ) (x : A) (after : List ℕ) → AreLast bytes rest
    → reader rest ≡ Ok (x, after) → reader (drop (length bytes - length rest) bytes) ≡ Ok (x, after)
there reader bytes rest x after h e = ap reader h.are ∙ e

pub is_read : {A : Type 0} (r : Read A) (x : A) (after : List ℕ) → r ≡ Ok (x, after) → IsRead r
is_read {A} r x after e = subst (λ (q : Read A). IsRead q) (sym e) tt

pub read_as : {A : Type 0} (other : A) (r : Read A) (x : A) (after : List ℕ) → r ≡ Ok (x, after) → read_or other r ≡ x
read_as {A} other r x after e = ap (λ (q : Read A). read_or other q) e

-- A part that was read is at its offset, and the bytes after it are the remaining ones.
pub record Step {A : Type 0} (part : List ℕ → ℕ → A) (has : List ℕ → ℕ → Type 0) (bytes rest : List ℕ) (x : A)
    (after : List ℕ) : Type 0 where
  pub there : has bytes (length bytes - length rest)
  pub is : part bytes (length bytes - length rest) ≡ x
  pub last : AreLast bytes after

-- ---- names

pub bare_again : (n : Name) (rest : List ℕ) → n.slot < 2 ^ 16 → length n.text < 2 ^ 16 → IsUtf8 n.text
    → bare_name_at (name_bytes n ++ rest) ≡ Ok (n, rest)
unfolding bare_name_at
bare_again n rest slot len utf8 =
    let r : List ℕ = n.text ++ rest in
    ap bare_name_at (append_assoc (to_le_bytes w16 n.slot) (template_bytes n.text) rest
    ∙ ap (λ (b : List ℕ). to_le_bytes w16 n.slot ++ b) (append_assoc (to_le_bytes w16 (length n.text)) n.text rest))
    ∙ bind_again (number_at w16 (to_le_bytes w16 n.slot ++ (to_le_bytes w16 (length n.text) ++ r)))
    (λ slot.
    number_at w16 slot.1 >>= λ len. text_at len.0 len.1 >>= λ t. Ok (record { slot = slot.0; text = t.0 }, t.1)) n.slot
    (to_le_bytes w16 (length n.text) ++ r) (Ok (n, rest))
    (number_again w16 (2 ^ 16) wide16 n.slot (to_le_bytes w16 (length n.text) ++ r) slot)
    (bind_again (number_at w16 (to_le_bytes w16 (length n.text) ++ r))
    (λ len. text_at len.0 len.1 >>= λ t. Ok (record { slot = n.slot; text = t.0 }, t.1)) (length n.text) r
    (Ok (n, rest)) (number_again w16 (2 ^ 16) wide16 (length n.text) r len)
    (bind_again (text_at (length n.text) r) (λ t. Ok (record { slot = n.slot; text = t.0 }, t.1)) n.text rest
    (Ok (n, rest)) (text_again n.text rest utf8) refl))

pub name_step : (globals : ℕ) (before : List Name) (bytes rest : List ℕ) (n : Name) (after : List ℕ) → globals < 2 ^ 16
    → IsBytes bytes → AreLast bytes rest → name_at globals before rest ≡ Ok (n, after)
    → Step name_in HasName bytes rest n after
name_step globals before bytes rest n after small fits h e =
    let found = all_at (name_at globals before rest) (λ x. Takes rest (name_bytes x.0) x.1 × IsNamed globals before x.0)
    (n, after) e (name_found globals before rest (last_fits bytes rest fits h)) in
    let bare : bare_name_at rest ≡ Ok (n, after) = ap bare_name_at found.0.parts
    ∙ bare_again n after (omega (arith, found.1.slot.below, small)) found.1.next.fits found.1.next.utf8 in
    let here = there bare_name_at bytes rest n after h bare in
    record {
      there = (omega (arith, h.within), is_read (bare_name_at (drop (length bytes - length rest) bytes)) n after here);
      is =
          read_as (record { slot = 0; text = [] }) (bare_name_at (drop (length bytes - length rest) bytes)) n after
          here;
      last = takes_last bytes rest (name_bytes n) after found.0 h;
    }

-- ---- templates

pub bare_text_again : (t rest : List ℕ) → length t < 2 ^ 16 → IsUtf8 t
    → bare_text_at (template_bytes t ++ rest) ≡ Ok (t, rest)
unfolding bare_text_at
bare_text_again t rest len utf8 = search (arith, rules, append_assoc, bind_again, number_again, wide16, text_again)

pub template_step : (before : List (List ℕ)) (bytes rest t after : List ℕ) → IsBytes bytes → AreLast bytes rest
    → template_at before rest ≡ Ok (t, after) → Step template_in HasTemplate bytes rest t after
template_step before bytes rest t after fits h e =
    let found = all_at (template_at before rest) (λ x. Takes rest (template_bytes x.0) x.1 × IsNextText before x.0)
    (t, after) e (template_found before rest (last_fits bytes rest fits h)) in
    let bare : bare_text_at rest ≡ Ok (t, after) =
    ap bare_text_at found.0.parts ∙ bare_text_again t after found.1.fits found.1.utf8 in
    let here = there bare_text_at bytes rest t after h bare in
    record {
      there = (omega (arith, h.within), is_read (bare_text_at (drop (length bytes - length rest) bytes)) t after here);
      is = read_as [] (bare_text_at (drop (length bytes - length rest) bytes)) t after here;
      last = takes_last bytes rest (template_bytes t) after found.0 h;
    }

-- ---- constants

pub constant_step : (bytes rest : List ℕ) (x : Constant) (after : List ℕ) → IsBytes bytes → AreLast bytes rest
    → constant_at rest ≡ Ok (x, after) → Step constant_in HasConstant bytes rest x after
constant_step bytes rest x after fits h e =
    let found = all_at (constant_at rest) (λ y. Takes rest _ y.1 × _) (x, after) e
    (constant_found rest (last_fits bytes rest fits h)) in
    let here = there constant_at bytes rest x after h e in
    record {
      there = (omega (arith, h.within), is_read (constant_at (drop (length bytes - length rest) bytes)) x after here);
      is = read_as undefined (constant_at (drop (length bytes - length rest) bytes)) x after here;
      last = takes_last bytes rest _ after found.0 h;
    }

-- ---- instructions

pub instructions_last : (n : ℕ) (bytes rest : List ℕ) (is : List Instruction) (after : List ℕ) → IsBytes bytes
    → AreLast bytes rest → instructions_at n rest ≡ Ok (is, after) → AreLast bytes after
instructions_last n bytes rest is after fits h e =
    let m = all_at (instructions_at n rest) (Many instruction_bytes good_instruction n [] rest) (is, after) e
    (many_found (λ _. instruction_at) instruction_bytes good_instruction
    (λ before bytes fits. instruction_found bytes fits) n [] rest (last_fits bytes rest fits h)) in
    takes_last bytes rest _ after m.takes h

-- ---- the bytes of a part that was read

number_read : {B : Type 0} (w : Width) (bytes : List ℕ) (f : ℕ × List ℕ → Read B) → IsRead (number_at w bytes >>= f)
    → (byte_len w ≤ length bytes)
    × ((number_at w bytes >>= f) ≡ f (from_le_bytes w (take (byte_len w) bytes), drop (byte_len w) bytes))
number_read {B} w bytes f h = search (arith, rules, ltb-false)

pub text_read : (n : ℕ) (bytes : List ℕ) → IsRead (text_at n bytes) → (n ≤ length bytes) × IsUtf8 (take n bytes)
unfolding text_at
text_read n bytes h = by (ltb (length bytes) n) (is_utf8 (take n bytes)) refl refl h
  where
    by : (a b : Bool) → ltb (length bytes) n ≡ a → is_utf8 (take n bytes) ≡ b
        → IsRead (cond a (Err Truncated) (check b BadText (Ok (take n bytes, drop n bytes))))
        → (n ≤ length bytes) × IsUtf8 (take n bytes)
    by true b e f g = absurd g
    by false true e f g = (ltb-false _ _ e, IsUtf8-from_is_utf8 (take n bytes) f)
    by false false e f g = absurd g

text_answer : (n : ℕ) (bytes : List ℕ) → IsRead (text_at n bytes) → read_or [] (text_at n bytes) ≡ take n bytes
unfolding text_at
text_answer n bytes h = by (ltb (length bytes) n) (is_utf8 (take n bytes)) h
  where
    by : (a b : Bool) → IsRead (cond a (Err Truncated) (check b BadText (Ok (take n bytes, drop n bytes))))
        → read_or [] (cond a (Err Truncated) (check b BadText (Ok (take n bytes, drop n bytes)))) ≡ take n bytes
    by true b g = absurd g
    by false true g = refl
    by false false g = absurd g

-- A text after its length of four bytes.
pub record LongText (bytes : List ℕ) : Type 0 where
  pub long : 4 ≤ length bytes
  pub text : IsRead (text_at (from_le_bytes w32 (take 4 bytes)) (drop 4 bytes))
  pub is : read_or [] (long_text_at bytes) ≡ take (from_le_bytes w32 (take 4 bytes)) (drop 4 bytes)

pub long_text_read : (bytes : List ℕ) → IsRead (long_text_at bytes) → LongText bytes
unfolding long_text_at
long_text_read bytes h =
    let one = number_read w32 bytes (λ len. text_at len.0 len.1) h in
    let text : IsRead (text_at (from_le_bytes w32 (take 4 bytes)) (drop 4 bytes)) =
    subst (λ (r : Read (List ℕ)). IsRead r) one.1 h in
    record {
      long = one.0;
      text = text;
      is = ap (λ (r : Read (List ℕ)). read_or [] r) one.1
          ∙ text_answer (from_le_bytes w32 (take 4 bytes)) (drop 4 bytes) text;
    }

-- A slot, and a text after its length.
pub record NameParts (bytes : List ℕ) : Type 0 where
  pub long : 4 ≤ length bytes
  pub text : IsRead (text_at (from_le_bytes w16 (take 2 (drop 2 bytes))) (drop 2 (drop 2 bytes)))
  pub is : read_or (record { slot = 0; text = [] }) (bare_name_at bytes)
      ≡ record {
        slot = from_le_bytes w16 (take 2 bytes);
        text = take (from_le_bytes w16 (take 2 (drop 2 bytes))) (drop 2 (drop 2 bytes));
      }

bind_read : {A B : Type 0} (r : Read A) (f : A × List ℕ → Read B) → IsRead (r >>= f) → IsRead r
bind_read (Ok x) f h = tt
bind_read (Err e) f h = absurd h

pub name_read : (bytes : List ℕ) → IsRead (bare_name_at bytes) → NameParts bytes
unfolding bare_name_at
name_read bytes h =
    let slot = from_le_bytes w16 (take 2 bytes) in
    let len = from_le_bytes w16 (take 2 (drop 2 bytes)) in
    let back : List ℕ × List ℕ → Read Name = λ t. Ok (record { slot = slot; text = t.0 }, t.1) in
    let one = number_read w16 bytes (λ slot.
    number_at w16 slot.1 >>= λ len. text_at len.0 len.1 >>= λ t. Ok (record { slot = slot.0; text = t.0 }, t.1)) h in
    let h1 : IsRead (number_at w16 (drop 2 bytes) >>= λ len. text_at len.0 len.1 >>= back) =
    subst (λ (r : Read Name). IsRead r) one.1 h in
    let two = number_read w16 (drop 2 bytes) (λ len. text_at len.0 len.1 >>= back) h1 in
    let h2 : IsRead (text_at len (drop 2 (drop 2 bytes)) >>= back) = subst (λ (r : Read Name). IsRead r) two.1 h1 in
    let text : IsRead (text_at len (drop 2 (drop 2 bytes))) = bind_read (text_at len (drop 2 (drop 2 bytes))) back h2 in
    record {
      long = omega (arith, one.0, two.0, length-drop 2 bytes);
      text = text;
      is =
          ap (λ (r : Read Name). read_or (record { slot = 0; text = [] }) r) (one.1 ∙ two.1)
          ∙ answer (text_at len (drop 2 (drop 2 bytes))) slot text
          ∙ ap (λ (t : List ℕ). let n : Name = record { slot = slot; text = t } in n)
          (text_answer len (drop 2 (drop 2 bytes)) text);
    }
  where
    answer : (r : Read (List ℕ)) (slot : ℕ) → IsRead r
        → read_or (record { slot = 0; text = [] }) (r >>= λ t. Ok (record { slot = slot; text = t.0 }, t.1))
        ≡ (let n : Name = record { slot = slot; text = read_or [] r } in n)
    answer (Ok x) slot g = refl
    answer (Err e) slot g = absurd g

pub name_is : (bytes r1 r2 t : List ℕ) (slot len : ℕ) → IsRead (bare_name_at bytes) → r1 ≡ drop 2 bytes → r2 ≡ drop 2 r1
    → slot ≡ from_le_bytes w16 (take 2 bytes) → len ≡ from_le_bytes w16 (take 2 r1) → t ≡ take len r2
    → (let n : Name = record { slot = slot; text = t } in n)
    ≡ read_or (record { slot = 0; text = [] }) (bare_name_at bytes)
name_is bytes r1 r2 t slot len h e1 e2 e3 e4 e5 = rw (e5, e4, e3, e2, e1) (sym (name_read bytes h).is)

-- A tag, then the data of the constant.
pub record ConstantParts (bytes : List ℕ) : Type 0 where
  pub long : 1 ≤ length bytes
  pub is : constant_at bytes ≡ constant_of (get_or bytes 0 0) (drop 1 bytes)

pub constant_read : (bytes : List ℕ) → IsRead (constant_at bytes) → ConstantParts bytes
unfolding constant_at
constant_read [] h = absurd h
constant_read (b ∷ rest) h = record { long = omega arith; is = refl }

-- ---- the parts before the units' instructions

pub headers_last : (n : ℕ) (bytes rest : List ℕ) (hs : List Header) (after : List ℕ) → IsBytes bytes
    → AreLast bytes rest → headers_at n rest ≡ Ok (hs, after) → AreLast bytes after
headers_last n bytes rest hs after fits h e =
    let m = all_at (headers_at n rest) (Many head_bytes good_header n [] rest) (hs, after) e
    (many_found header_at head_bytes good_header
    (λ before bytes fits. header_found (is_first before) (header_total before) bytes fits) n [] rest
    (last_fits bytes rest fits h)) in
    takes_last bytes rest _ after m.takes h

pub start_last : (bytes : List ℕ) (v : Version) (rest : List ℕ) → length bytes ≤ max_bytes → IsBytes bytes
    → start_at bytes ≡ Ok (v, rest) → AreLast bytes rest
start_last bytes v rest small fits e =
    let t = all_at (start_at bytes) (λ x. Takes bytes (magic ++ to_le_bytes w16 (version_number x.0)) x.1) (v, rest) e
    (start_found bytes fits) in
    let len : length bytes ≡ suc (suc (suc (suc (suc (suc (length rest)))))) = ap length t.parts in
    let front : length bytes - length rest ≡ start_len = omega (arith, len) in
    record {
      small = small;
      within = omega (arith, len);
      are = ap (λ (n : ℕ). drop n bytes) front ∙ ap (drop start_len) t.parts;
    }

-- A text after its length of two bytes.
pub record TemplateParts (bytes : List ℕ) : Type 0 where
  pub long : 2 ≤ length bytes
  pub text : IsRead (text_at (from_le_bytes w16 (take 2 bytes)) (drop 2 bytes))
  pub is : read_or [] (bare_text_at bytes) ≡ take (from_le_bytes w16 (take 2 bytes)) (drop 2 bytes)

pub template_read : (bytes : List ℕ) → IsRead (bare_text_at bytes) → TemplateParts bytes
unfolding bare_text_at
template_read bytes h =
    let one = number_read w16 bytes (λ len. text_at len.0 len.1) h in
    let text : IsRead (text_at (from_le_bytes w16 (take 2 bytes)) (drop 2 bytes)) =
    subst (λ (r : Read (List ℕ)). IsRead r) one.1 h in
    record {
      long = one.0;
      text = text;
      is = ap (λ (r : Read (List ℕ)). read_or [] r) one.1
          ∙ text_answer (from_le_bytes w16 (take 2 bytes)) (drop 2 bytes) text;
    }

-- ---- the trailer of version 2

module _ (n : ℕ) (bytes front offsets rest : List ℕ) where
  counted : length (templates_in bytes offsets) ≡ length offsets
  counted = length-map offsets (template_in bytes)

  abbrev back_of : List SourceLoc × List ℕ → Result (Trailer × List ℕ) ImageError
  back_of ss = Ok (record { templates = templates_in bytes offsets; places = ss.0 }, ss.1)

  read_on : all_templates_at front ≡ Ok (templates_in bytes offsets, rest)
      → trailer_at version.Two n front ≡ (locs_at (length offsets) n rest >>= back_of)
  unfolding trailer_at
  read_on e = search (arith, rules, counted)

  pub back_gives : (after : List ℕ) → all_templates_at front ≡ Ok (templates_in bytes offsets, rest)
      → locs_at (length offsets) n rest ≡ Ok (read_or [] (locs_at (length offsets) n rest), after) → AreLast bytes rest
      → trailer_at version.Two n front ≡ Ok (
        record {
          templates = templates_in bytes offsets;
          places = read_or [] (locs_at (length offsets) n (drop (length bytes - length rest) bytes));
        },
        after,
      )
  back_gives after e f h = search (arith, rules, read_on)

  pub back_fails : (d : ImageError) → all_templates_at front ≡ Ok (templates_in bytes offsets, rest)
      → Fails d (locs_at (length offsets) n rest) → Fails d (trailer_at version.Two n front)
  back_fails d e f = search (arith, rules, read_on)

pub templates_fail : (n : ℕ) (front : List ℕ) (d : ImageError) → Fails d (all_templates_at front)
    → Fails d (trailer_at version.Two n front)
unfolding trailer_at
templates_fail n front d f = search (arith, rules)
