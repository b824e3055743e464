-- The tables of identifiers: whitespace and closers begin no name.
use Rattle.std.proofs.Common.{◌≡◌, ℕ, ◌<◌, ◌||◌, ◌==◌, ◌&&◌, Bool, true, false, [], ◌∷◌, ◌++◌, refl, sym, ap, subst}
use Rattle.std.proofs.Common.{◌∙◌, arith, Option, Some, rules}
use Rattle.std.proofs.lemmas.Bool.Decides.{nat_tests}
use Rattle.std.specs.Char.{is_ascii_alphabetic}
use Rattle.std.proofs.lemmas.Bool.{and_parts}
use Rattle.unicode_ident.proofs.IdentLemmas.{is_xid_start-ascii}
use Rattle.jt_scan.specs.declared.segment.TagKind.{TagKind}
use Rattle.jt_scan.specs.declared.segment.TagKind.TheVariants.{Variable, Block}
use Rattle.jt_scan.specs.declared.segment.Mark.{Mark}
use Rattle.jt_scan.specs.declared.segment.Mark.TheVariants as m
use Rattle.jt_scan.specs.Cut.{Text, closer, begins, starts_name, is_space, closing_text, closer_at, marked_closer}
use Rattle.jt_scan.specs.Cut.{may_close, first_mark, behind_mark, mark_text}
use Rattle.jt_scan.proofs.ParseResultSteps.{by_test, opener_says}

pub no_start : (c : ℕ) → c < 128 → (is_ascii_alphabetic c || (c == 95)) ≡ false → starts_name c ≡ false
no_start c h e = subst (λ b. (b || (c == 95)) ≡ false) (sym (is_xid_start-ascii c h)) e

turned : (a b : Bool) → (a ≡ true → b ≡ false) → b ≡ true → a ≡ false
turned true b f h = let g = f refl in cc
turned false b f h = refl

pub no_space : (c : ℕ) → starts_name c ≡ true → is_space c ≡ false
no_space c = turned (is_space c) (starts_name c) (λ h. no_start c (grind (arith, nat_tests)) (grind (arith, nat_tests)))

no_end : (k : TagKind) (c : ℕ) → starts_name c ≡ true → (c == closer k) ≡ false
no_end Variable c =
    turned (c == 125) (starts_name c) (λ h. no_start c (grind (arith, nat_tests)) (grind (arith, nat_tests)))
no_end Block c =
    turned (c == 37) (starts_name c) (λ h. no_start c (grind (arith, nat_tests)) (grind (arith, nat_tests)))

pub no_closer : (k : TagKind) (c : ℕ) (x : Text) → starts_name c ≡ true → begins (closer k) 125 (c ∷ x) ≡ false
no_closer k c [] h = refl
no_closer k c (d ∷ x) h = rw (no_end k c h)

-- ---- closers with marks

-- A closer begins with no whitespace.
pub closing_head : (k : TagKind) (mark : Mark) (rest : Text)
    → (c : ℕ) × (cs : Text) × (closing_text k mark rest ≡ c ∷ cs) × (is_space c ≡ false)
closing_head Variable m.Absent rest = (125, 125 ∷ rest, refl, refl)
closing_head Block m.Absent rest = (37, 125 ∷ rest, refl, refl)
closing_head k m.Minus rest = (45, closer k ∷ 125 ∷ rest, refl, refl)
closing_head k m.Plus rest = (43, closer k ∷ 125 ∷ rest, refl, refl)

pub closer_found : (k : TagKind) (mark : Mark) (rest : Text) → may_close k mark ≡ true
    → closer_at k (closing_text k mark rest) ≡ Some (mark, rest)
closer_found k mark rest h = search (arith, rules)

some_parts : {a b : Mark} {u v : Text} → ◌≡◌ {A = Option (Mark × Text)} (Some (a, u)) (Some (b, v)) → (a ≡ b) × (u ≡ v)
some_parts {a} {b} {u} {v} e = search (arith, rules)

abbrev pub IsCloser : TagKind → Mark → Text → Text → Type 0
IsCloser k mark x rest = (may_close k mark ≡ true) × (x ≡ closing_text k mark rest)

may_absent : (k : TagKind) → may_close k m.Absent ≡ true
may_absent Variable = refl
may_absent Block = refl

may_minus : (k : TagKind) → may_close k m.Minus ≡ true
may_minus Variable = refl
may_minus Block = refl

-- A text is its opening mark followed by the rest.
pub mark_split : (c : ℕ) (x : Text) (b d : Bool) → (c == 45) ≡ b → (c == 43) ≡ d
    → c ∷ x ≡ mark_text (first_mark (c ∷ x)) ++ behind_mark (c ∷ x)
mark_split c x b d h g = search (arith, rules, nat_tests)

pub marked : (x : Text) → x ≡ mark_text (first_mark x) ++ behind_mark x
marked [] = refl
marked (c ∷ x) = mark_split c x (c == 45) (c == 43) refl refl

behind_closes : (k : TagKind) (mark : Mark) (y rest : Text)
    → marked_closer k (first_mark y) (behind_mark y) ≡ Some (mark, rest)
    → (first_mark y ≡ mark) × (may_close k mark ≡ true) × (behind_mark y ≡ closer k ∷ 125 ∷ rest)
behind_closes k mark y rest e = by (first_mark y) (behind_mark y) e
  where
    by : (o : Mark) (z : Text) → marked_closer k o z ≡ Some (mark, rest)
        → (o ≡ mark) × (may_close k mark ≡ true) × (z ≡ closer k ∷ 125 ∷ rest)
    by m.Absent z h = cc
    by m.Minus z h =
        by_test (begins (closer k) 125 z) _ _ _ h
        (λ b q. let p = some_parts q in (
          p.0,
          subst (λ a. may_close k a ≡ true) p.0 (may_minus k),
          opener_says (closer k) 125 z b ∙ ap (λ w. closer k ∷ 125 ∷ w) p.1,
        ))
        (λ b q. cc)
    by m.Plus z h =
        by_test (may_close k m.Plus && begins (closer k) 125 z) _ _ _ h
        (λ b q. let p = some_parts q in let t = and_parts (may_close k m.Plus) (begins (closer k) 125 z) b in (
          p.0,
          subst (λ a. may_close k a ≡ true) p.0 t.0,
          opener_says (closer k) 125 z t.1 ∙ ap (λ w. closer k ∷ 125 ∷ w) p.1,
        ))
        (λ b q. cc)

pub closer_says : (k : TagKind) (mark : Mark) (x rest : Text) → closer_at k x ≡ Some (mark, rest)
    → IsCloser k mark x rest
closer_says k mark x rest e = search (arith, rules, by_test, some_parts, may_absent, opener_says, behind_closes, marked)
