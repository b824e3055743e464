-- A trailer that is read has its spelling in the bytes, and a spelled trailer is read again.
use Rattle.std.proofs.Common.{◌≡◌, ℕ, zero, suc, ◌<◌, ◌≤◌, ◌^◌, true, false, eqb, List, [], ◌∷◌, ◌++◌, length, Ok}
use Rattle.std.proofs.Common.{refl, sym, ap, subst, ◌∙◌, arith, append_assoc, rules, Option, Some}
use Rattle.std.proofs.Common.{None}
use Rattle.std.specs.Prelude.{nat_le}
use Rattle.std.specs.Int.{w16, w32, to_le_bytes}
use Rattle.std.specs.List.{flat_map, AllByRecursion}
use Rattle.std.proofs.lemmas.Bool.{ltb-true, leb-true, eqb-true, lt-ltb, le-leb}
use Rattle.std.proofs.lemmas.Bool.Decides.{nat_tests}
use Rattle.jt_image.specs.declared.error.ImageError.TheVariants.{BadTable}
use Rattle.jt_image.specs.declared.version.Version.{Version}
use Rattle.jt_image.specs.declared.version.Version.TheVariants as version
use Rattle.jt_image.specs.Code.{SourceLoc}
use Rattle.jt_image.specs.Spelling.{version_number, template_bytes, loc_bytes, place_bytes}
use Rattle.jt_image.specs.IsCode.{IsTemplate, AscendTexts, IsLine, IsSourceLoc, IsPlaced}
use Rattle.jt_image.specs.Reading.{◌>>=◌, check, number_at, version_at, follows, last_text, text_after}
use Rattle.jt_image.specs.Reading.{template_at, templates_at, all_templates_at, template_number_at, is_line, line_at}
use Rattle.jt_image.specs.Reading.{loc_at, locs_at, Trailer, trailer_at}
use Rattle.jt_image.proofs.DecodeSoundLemmas.{AllOk, bind_from, check_all, cond_all, IsBytes, Takes}
use Rattle.jt_image.proofs.DecodeSoundLemmas.{Takes-then, Takes-as, Found, wide16, wide32, number_found, AllGood, Many}
use Rattle.jt_image.proofs.DecodeSoundLemmas.{many_found, and_true, each_good, good_each, table_found}
use Rattle.jt_image.proofs.DecodeSound.{IsNext, next_found}
use Rattle.jt_image.proofs.WholeImageSound.{last_push, follows_some}
use Rattle.jt_image.proofs.ReadPrefix.{all_weaker}
use Rattle.jt_image.proofs.RoundTripLemmas.{number_again, text_again, bind_again, check_again, many_again}

-- ---- the version

pub version_found : (bytes : List ℕ) → IsBytes bytes
    → AllOk (version_at bytes) (λ x. Takes bytes (to_le_bytes w16 (version_number x.0)) x.1)
unfolding version_at
version_found bytes fits =
    let P : Version × List ℕ → Type 0 = λ x. Takes bytes (to_le_bytes w16 (version_number x.0)) x.1 in
    bind_from (number_at w16 bytes) _ (λ n. Takes bytes (to_le_bytes w16 n.0) n.1 × (n.0 < 2 ^ 16)) P
    (number_found w16 (2 ^ 16) wide16 bytes fits) (λ n t.
    cond_all (eqb n.0 1) _ _ P
    (λ e. Takes-as bytes (to_le_bytes w16 n.0) (to_le_bytes w16 1) n.1 (ap (to_le_bytes w16) (eqb-true n.0 1 e)) t.0)
    (λ _.
    cond_all (eqb n.0 2) _ _ P
    (λ e. Takes-as bytes (to_le_bytes w16 n.0) (to_le_bytes w16 2) n.1 (ap (to_le_bytes w16) (eqb-true n.0 2 e)) t.0)
    (λ _. tt)))

pub version_again : (v : Version) (rest : List ℕ)
    → version_at (to_le_bytes w16 (version_number v) ++ rest) ≡ Ok (v, rest)
unfolding version_at
version_again version.One rest = search (arith, rules, bind_again, number_again, wide16)
version_again version.Two rest = search (arith, rules, bind_again, number_again, wide16)

-- ---- templates

-- A text that may follow these.
abbrev pub IsNextText : List (List ℕ) → List ℕ → Type 0
IsNextText before t = IsNext (last_text before) t

pub template_found : (before : List (List ℕ)) (bytes : List ℕ) → IsBytes bytes
    → Found template_bytes (IsNextText before) bytes (template_at before bytes)
template_found before bytes fits = next_found (last_text before) bytes fits

pub next_again : (last : Option (List ℕ)) (t rest : List ℕ) → IsNext last t
    → text_after last (template_bytes t ++ rest) ≡ Ok (t, rest)
unfolding text_after
next_again last t rest h =
    search (arith, rules, append_assoc, bind_again, number_again, wide16, text_again, check_again)

template_again : (before : List (List ℕ)) (t rest : List ℕ) → IsNextText before t
    → template_at before (template_bytes t ++ rest) ≡ Ok (t, rest)
template_again before t rest h = next_again (last_text before) t rest h

follows-push : (before : List (List ℕ)) (s t : List ℕ) → follows (last_text (before ++ s ∷ [])) t ≡ follows (Some s) t
follows-push before s t = ap (λ (o : Option (List ℕ)). follows o t) (last_push None before s)

are_templates : (before ts : List (List ℕ)) → AllGood IsNextText before ts → AllByRecursion IsTemplate ts
are_templates before [] h = tt
are_templates before (t ∷ ts) h = (
  record { some = follows_some (last_text before) t h.0.follows; fits = h.0.fits; utf8 = h.0.utf8 },
  are_templates (before ++ t ∷ []) ts h.1,
)

-- A text that is greater than these, or the first text and not empty.
abbrev pub Follows : List (List ℕ) → List ℕ → Type 0
Follows before t = follows (last_text before) t ≡ true

all_follow : (before ts : List (List ℕ)) → AllGood IsNextText before ts → AllGood Follows before ts
all_follow before [] h = tt
all_follow before (t ∷ ts) h = (h.0.follows, all_follow (before ++ t ∷ []) ts h.1)

pub some_texts : (before ts : List (List ℕ)) → AllGood Follows before ts → AllByRecursion (λ t. 0 < length t) ts
some_texts before [] h = tt
some_texts before (t ∷ ts) h = (follows_some (last_text before) t h.0, some_texts (before ++ t ∷ []) ts h.1)

ascend_from : (t : List ℕ) (before ts : List (List ℕ)) → AllGood Follows (before ++ t ∷ []) ts → AscendTexts (t ∷ ts)
ascend_from t before [] h = tt
ascend_from t before (s ∷ ts) h = (sym (follows-push before t s) ∙ h.0, ascend_from s (before ++ t ∷ []) ts h.1)

pub ascend_texts : (ts : List (List ℕ)) → AllGood Follows [] ts → AscendTexts ts
ascend_texts [] h = tt
ascend_texts (t ∷ ts) h = ascend_from t [] ts h.1

follow_from : (t : List ℕ) (before ts : List (List ℕ)) → AscendTexts (t ∷ ts) → AllGood Follows (before ++ t ∷ []) ts
follow_from t before [] up = tt
follow_from t before (s ∷ ts) up = (follows-push before t s ∙ up.0, follow_from s (before ++ t ∷ []) ts up.1)

pub follow_texts : (ts : List (List ℕ)) → AllByRecursion (λ t. 0 < length t) ts → AscendTexts ts → AllGood Follows [] ts
follow_texts [] some up = tt
follow_texts (t ∷ ts) some up = (lt-ltb _ _ some.0, follow_from t [] ts up)

all_next : (before ts : List (List ℕ)) → AllByRecursion IsTemplate ts → AllGood Follows before ts
    → AllGood IsNextText before ts
all_next before [] all h = tt
all_next before (t ∷ ts) all h =
    (record { fits = all.0.fits; utf8 = all.0.utf8; follows = h.0 }, all_next (before ++ t ∷ []) ts all.1 h.1)

good_templates : (ts : List (List ℕ)) → AllByRecursion IsTemplate ts → AscendTexts ts → AllGood IsNextText [] ts
good_templates ts all up = all_next [] ts all (follow_texts ts (all_weaker _ _ ts (λ t g. g.some) all) up)

-- A table of templates in order.
pub record AreTexts (ts : List (List ℕ)) : Type 0 where
  pub count : length ts < 2 ^ 16
  pub all : AllByRecursion IsTemplate ts
  pub ascend : AscendTexts ts

abbrev pub templates_bytes : List (List ℕ) → List ℕ
templates_bytes ts = to_le_bytes w16 (length ts) ++ flat_map template_bytes ts

pub templates_found : (bytes : List ℕ) → IsBytes bytes → Found templates_bytes AreTexts bytes (all_templates_at bytes)
unfolding all_templates_at
templates_found bytes fits =
    table_found template_at template_bytes IsNextText template_found AreTexts (λ ts count all.
    record { count = count; all = are_templates [] ts all; ascend = ascend_texts ts (all_follow [] ts all) }) bytes fits

templates_again : (ts : List (List ℕ)) (rest : List ℕ) → AreTexts ts
    → all_templates_at (to_le_bytes w16 (length ts) ++ (flat_map template_bytes ts ++ rest)) ≡ Ok (ts, rest)
unfolding all_templates_at
templates_again ts rest h =
    bind_again (number_at w16 (to_le_bytes w16 (length ts) ++ (flat_map template_bytes ts ++ rest)))
    (λ n. templates_at n.0 n.1) (length ts) (flat_map template_bytes ts ++ rest) (Ok (ts, rest))
    (number_again w16 (2 ^ 16) wide16 (length ts) (flat_map template_bytes ts ++ rest) h.count)
    (many_again template_at template_bytes IsNextText template_again [] ts rest (good_templates ts h.all h.ascend))

-- ---- encoded places

number_of_found : (templates : ℕ) (bytes : List ℕ) → IsBytes bytes
    → Found (to_le_bytes w16) (λ n. n ≤ templates) bytes (template_number_at templates bytes)
unfolding template_number_at
number_of_found templates bytes fits =
    let P : ℕ × List ℕ → Type 0 = λ n. Takes bytes (to_le_bytes w16 n.0) n.1 × (n.0 ≤ templates) in
    bind_from (number_at w16 bytes) (λ n. check (nat_le n.0 templates) BadTable (Ok n))
    (λ s. Takes bytes (to_le_bytes w16 s.0) s.1 × (s.0 < 2 ^ 16)) P (number_found w16 (2 ^ 16) wide16 bytes fits)
    (λ n t.
    check_all (nat_le n.0 templates) BadTable (Ok n) P (λ e. (t.0, leb-true _ _ e)))

not_zero : (n : ℕ) → eqb (suc n) 0 ≡ false
not_zero n = grind (arith, nat_tests)

pub line_holds : (template line : ℕ) → is_line template line ≡ true → IsLine template line
line_holds a0 line e = search (arith, rules, eqb-true, not_zero, and_true, ltb-true, leb-true)

pub holds_line : (template line : ℕ) → IsLine template line → is_line template line ≡ true
holds_line a0 line h = search (arith, rules, lt-ltb, le-leb, not_zero)

line_found : (template : ℕ) (bytes : List ℕ) → IsBytes bytes
    → Found (to_le_bytes w32) (IsLine template) bytes (line_at template bytes)
unfolding line_at
line_found template bytes fits =
    let P : ℕ × List ℕ → Type 0 = λ n. Takes bytes (to_le_bytes w32 n.0) n.1 × IsLine template n.0 in
    bind_from (number_at w32 bytes) (λ n. check (is_line template n.0) BadTable (Ok n))
    (λ s. Takes bytes (to_le_bytes w32 s.0) s.1 × (s.0 < 2 ^ 32)) P (number_found w32 (2 ^ 32) wide32 bytes fits)
    (λ n t.
    check_all (is_line template n.0) BadTable (Ok n) P (λ e. (t.0, line_holds template n.0 e)))

pub loc_found : (templates : ℕ) (bytes : List ℕ) → IsBytes bytes
    → Found loc_bytes (IsSourceLoc templates) bytes (loc_at templates bytes)
unfolding loc_at
loc_found templates bytes fits =
    let P : SourceLoc × List ℕ → Type 0 = λ s. Takes bytes (loc_bytes s.0) s.1 × IsSourceLoc templates s.0 in
    bind_from (template_number_at templates bytes)
    (λ t. line_at t.0 t.1 >>= λ l. Ok (record { template = t.0; line = l.0 }, l.1))
    (λ n. Takes bytes (to_le_bytes w16 n.0) n.1 × (n.0 ≤ templates)) P (number_of_found templates bytes fits) (λ t tt'.
    bind_from (line_at t.0 t.1) (λ l. Ok (record { template = t.0; line = l.0 }, l.1))
    (λ n. Takes t.1 (to_le_bytes w32 n.0) n.1 × IsLine t.0 n.0) P (line_found t.0 t.1 tt'.0.fits) (λ l tl. (
      Takes-then bytes (to_le_bytes w16 t.0) t.1 (to_le_bytes w32 l.0) l.1 tt'.0 tl.0,
      record { template = tt'.1; line = tl.1 },
    )))

pub small_line : (template line : ℕ) → IsLine template line → line < 2 ^ 32
small_line zero line h = omega (arith, h)
small_line (suc template) line h = omega (arith, h.1)

loc_again : (templates : ℕ) → templates < 2 ^ 16 → (before : List SourceLoc) (s : SourceLoc) (rest : List ℕ)
    → IsSourceLoc templates s → loc_at templates (loc_bytes s ++ rest) ≡ Ok (s, rest)
unfolding loc_at template_number_at line_at
loc_again templates small before s rest h =
    let r1 = to_le_bytes w32 s.line ++ rest in
    let number : template_number_at templates (to_le_bytes w16 s.template ++ r1) ≡ Ok (s.template, r1) =
    bind_again (number_at w16 (to_le_bytes w16 s.template ++ r1)) (λ n. check (nat_le n.0 templates) BadTable (Ok n))
    s.template r1 (Ok (s.template, r1))
    (number_again w16 (2 ^ 16) wide16 s.template r1 (omega (arith, h.template, small)))
    (check_again (nat_le s.template templates) BadTable (Ok (s.template, r1)) (le-leb _ _ h.template)) in
    let line : line_at s.template r1 ≡ Ok (s.line, rest) =
    bind_again (number_at w32 r1) (λ n. check (is_line s.template n.0) BadTable (Ok n)) s.line rest (Ok (s.line, rest))
    (number_again w32 (2 ^ 32) wide32 s.line rest (small_line s.template s.line h.line))
    (check_again (is_line s.template s.line) BadTable (Ok (s.line, rest)) (holds_line s.template s.line h.line)) in
    ap (loc_at templates) (append_assoc (to_le_bytes w16 s.template) (to_le_bytes w32 s.line) rest)
    ∙ bind_again (template_number_at templates (to_le_bytes w16 s.template ++ r1))
    (λ t. line_at t.0 t.1 >>= λ l. Ok (record { template = t.0; line = l.0 }, l.1)) s.template r1 (Ok (s, rest)) number
    (bind_again (line_at s.template r1) (λ l. Ok (record { template = s.template; line = l.0 }, l.1)) s.line rest
    (Ok (s, rest)) line refl)

abbrev pub good_loc : ℕ → List SourceLoc → SourceLoc → Type 0
good_loc templates before s = IsSourceLoc templates s

pub locs_again : (templates : ℕ) → templates < 2 ^ 16 → (ss : List SourceLoc) (rest : List ℕ)
    → AllByRecursion (IsSourceLoc templates) ss
    → locs_at templates (length ss) (flat_map loc_bytes ss ++ rest) ≡ Ok (ss, rest)
locs_again templates small ss rest h =
    many_again (λ _. loc_at templates) loc_bytes (good_loc templates) (loc_again templates small) [] ss rest
    (each_good (IsSourceLoc templates) [] ss h)

-- ---- templates and places

-- A trailer that the version permits after `n` instructions.
pub record IsTrailer (v : Version) (n : ℕ) (b : Trailer) : Type 0 where
  pub texts : AreTexts b.templates
  pub places : AllByRecursion (IsSourceLoc (length b.templates)) b.places
  pub placed : IsPlaced v n b.templates b.places

abbrev pub trailer_bytes : Version → Trailer → List ℕ
trailer_bytes v b = place_bytes v b.templates b.places

pub back_found : (v : Version) (n : ℕ) (bytes : List ℕ) → IsBytes bytes
    → Found (trailer_bytes v) (IsTrailer v n) bytes (trailer_at v n bytes)
unfolding trailer_at
back_found version.One n bytes fits = (
  record { parts = refl; fits = fits },
  record { texts = record { count = omega arith; all = tt; ascend = tt }; places = tt; placed = (refl, refl) },
)
back_found version.Two n bytes fits =
    let P : Trailer × List ℕ → Type 0 =
    λ b. Takes bytes (trailer_bytes version.Two b.0) b.1 × IsTrailer version.Two n b.0 in
    bind_from (all_templates_at bytes)
    (λ ts. locs_at (length ts.0) n ts.1 >>= λ ss. Ok (record { templates = ts.0; places = ss.0 }, ss.1))
    (λ x. Takes bytes (templates_bytes x.0) x.1 × AreTexts x.0) P (templates_found bytes fits) (λ ts t.
    bind_from (locs_at (length ts.0) n ts.1) (λ ss. Ok (record { templates = ts.0; places = ss.0 }, ss.1))
    (Many loc_bytes (good_loc (length ts.0)) n [] ts.1) P
    (many_found (λ _. loc_at (length ts.0)) loc_bytes (good_loc (length ts.0))
    (λ before bytes fits. loc_found (length ts.0) bytes fits) n [] ts.1 t.0.fits) (λ ss m. (
      Takes-as bytes (templates_bytes ts.0 ++ flat_map loc_bytes m.more)
          (trailer_bytes version.Two (record { templates = ts.0; places = ss.0 })) ss.1
          (append_assoc (to_le_bytes w16 (length ts.0)) (flat_map template_bytes ts.0) (flat_map loc_bytes m.more)
          ∙ ap (λ (xs : List SourceLoc).
          to_le_bytes w16 (length ts.0) ++ (flat_map template_bytes ts.0 ++ flat_map loc_bytes xs)) (sym m.is))
          (Takes-then bytes (templates_bytes ts.0) ts.1 (flat_map loc_bytes m.more) ss.1 t.0 m.takes),
      record {
        texts = t.1;
        places = subst (λ (xs : List SourceLoc). AllByRecursion (IsSourceLoc (length ts.0)) xs) (sym m.is)
            (good_each (IsSourceLoc (length ts.0)) [] m.more m.all);
        placed = ap length m.is ∙ m.count;
      },
    )))

pub back_again : (v : Version) (b : Trailer) (n : ℕ) (rest : List ℕ) → IsTrailer v n b
    → trailer_at v n (trailer_bytes v b ++ rest) ≡ Ok (b, rest)
unfolding trailer_at
back_again version.One b n rest h =
    let same : (let a : Trailer = record { templates = []; places = [] } in a) ≡ b = ap
    (λ (ts : List (List ℕ)). let a : Trailer = record { templates = ts; places = [] } in a) (sym h.placed.0)
    ∙ ap (λ (ss : List SourceLoc). let a : Trailer = record { templates = b.templates; places = ss } in a)
    (sym h.placed.1) in
    ap (λ (a : Trailer). let r : Trailer × List ℕ = (a, rest) in Ok r) same
back_again version.Two b n rest h =
    let ts = b.templates in
    let r1 = flat_map loc_bytes b.places ++ rest in
    let places : locs_at (length ts) n r1 ≡ Ok (b.places, rest) = ap (λ (k : ℕ). locs_at (length ts) k r1)
    (sym h.placed)
    ∙ locs_again (length ts) h.texts.count b.places rest h.places in
    ap (trailer_at version.Two n) (append_assoc (to_le_bytes w16 (length ts))
    (flat_map template_bytes ts ++ flat_map loc_bytes b.places) rest
    ∙ ap (λ (t : List ℕ). to_le_bytes w16 (length ts) ++ t)
    (append_assoc (flat_map template_bytes ts) (flat_map loc_bytes b.places) rest))
    ∙ bind_again (all_templates_at (to_le_bytes w16 (length ts) ++ (flat_map template_bytes ts ++ r1)))
    (λ ts. locs_at (length ts.0) n ts.1 >>= λ ss. Ok (record { templates = ts.0; places = ss.0 }, ss.1)) ts r1
    (Ok (b, rest)) (templates_again ts r1 h.texts)
    (bind_again (locs_at (length ts) n r1) (λ ss. Ok (record { templates = ts; places = ss.0 }, ss.1)) b.places rest
    (Ok (b, rest)) places refl)
