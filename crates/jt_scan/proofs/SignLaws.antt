-- The scanner finds the longest sign at the start of a text, and nothing else.
use Rattle.std.proofs.Common.{◌≡◌, ℕ, ◌<◌, nat_lt, ◌&&◌, ◌||◌, ◌==◌, Bool, true, false, [], ◌∷◌, ◌++◌, length, Option}
use Rattle.std.proofs.Common.{Some, None, refl, sym, ap, subst, ◌∙◌, arith, cond, rules}
use Rattle.std.proofs.lemmas.Bool.Decides.{nat_tests}
use Rattle.std.specs.Char.{is_ascii_alphabetic}
use Rattle.std.proofs.lemmas.Bool.{and_parts}
use Rattle.jt_scan.specs.declared.segment.Sign.{Sign}
use Rattle.jt_scan.specs.declared.segment.Sign.TheVariants as s
use Rattle.jt_scan.specs.Cut.{Text, sign_text, goes_on, SignEnds, NoSign, starts_name, is_space}
use Rattle.jt_scan.specs.Literals.{digit_value, is_digit, is_quote}
use Rattle.jt_scan.specs.internal.Scanning.{one_sign, two_sign, alone, longest, sign_at}
use Rattle.jt_scan.proofs.ParseResultSteps.{by_test}
use Rattle.jt_scan.proofs.Tables.{no_start}

pub sign_found : (t : Sign) (rest : Text) → SignEnds t rest → sign_at (sign_text t ++ rest) ≡ Some (t, rest)
unfolding sign_at
sign_found t rest h = search (arith, rules)

-- If a text begins with the spelling of a sign, then some sign is found.
alone_there : (t : Sign) (o : Option Sign) (x : Text) → o ≡ Some t → alone o x ≡ None → ⊥
alone_there t None x w h = cc
alone_there t (Some s) x w h = cc

longest_there : (t : Sign) (o p : Option Sign) (more x : Text) → p ≡ Some t → longest o p more x ≡ None → ⊥
longest_there t (Some s) p more x w h = cc
longest_there t None p more x w h = alone_there t p x w h

one_there : (c : ℕ) (t : Sign) (rest : Text) → one_sign c ≡ Some t → sign_at (c ∷ rest) ≡ None → ⊥
unfolding sign_at
one_there c t [] w h = alone_there t (one_sign c) [] w h
one_there c t (d ∷ more) w h = longest_there t (two_sign c d) (one_sign c) more (d ∷ more) w h

two_there : (c d : ℕ) (t : Sign) (o : Option Sign) (more : Text) → two_sign c d ≡ o → o ≡ Some t
    → longest o (one_sign c) more (d ∷ more) ≡ None → ⊥
two_there c d t None more e w h = cc
two_there c d t (Some s) more e w h = cc

sign_there : (t : Sign) (rest : Text) → sign_at (sign_text t ++ rest) ≡ None → ⊥
unfolding sign_at
sign_there t rest h = search (arith, rules, one_there, two_there)

pub no_sign : (x : Text) → sign_at x ≡ None → NoSign x
no_sign x h = λ t rest e. sign_there t rest (ap sign_at (sym e) ∙ h)

nothing : {G : Type 0} (u : Sign) → ◌≡◌ {A = Option Sign} None (Some u) → G
nothing u e = cc

hit : (c n : ℕ) (t u : Sign) → (c == n) ≡ true → sign_text t ≡ n ∷ [] → ◌≡◌ {A = Option Sign} (Some t) (Some u)
    → sign_text u ≡ c ∷ []
hit c n t u h w e = search (arith, rules, nat_tests)

one_says : (c : ℕ) (u : Sign) → one_sign c ≡ Some u → sign_text u ≡ c ∷ []
one_says c u e =
    by_test (c == 43) _ _ _ e (λ h q. hit c 43 s.Plus u h refl q) (λ h q.
    by_test (c == 45) _ _ _ q (λ h q. hit c 45 s.Minus u h refl q) (λ h q.
    by_test (c == 42) _ _ _ q (λ h q. hit c 42 s.Times u h refl q) (λ h q.
    by_test (c == 37) _ _ _ q (λ h q. hit c 37 s.Percent u h refl q) (λ h q.
    by_test (c == 126) _ _ _ q (λ h q. hit c 126 s.Tilde u h refl q) (λ h q.
    by_test (c == 60) _ _ _ q (λ h q. hit c 60 s.Less u h refl q) (λ h q.
    by_test (c == 62) _ _ _ q (λ h q. hit c 62 s.Greater u h refl q) (λ h q.
    by_test (c == 61) _ _ _ q (λ h q. hit c 61 s.Assign u h refl q) (λ h q.
    by_test (c == 46) _ _ _ q (λ h q. hit c 46 s.Dot u h refl q) (λ h q.
    by_test (c == 44) _ _ _ q (λ h q. hit c 44 s.Comma u h refl q) (λ h q.
    by_test (c == 58) _ _ _ q (λ h q. hit c 58 s.Colon u h refl q) (λ h q.
    by_test (c == 124) _ _ _ q (λ h q. hit c 124 s.Pipe u h refl q) (λ h q.
    by_test (c == 40) _ _ _ q (λ h q. hit c 40 s.LeftParen u h refl q) (λ h q.
    by_test (c == 41) _ _ _ q (λ h q. hit c 41 s.RightParen u h refl q) (λ h q.
    by_test (c == 91) _ _ _ q (λ h q. hit c 91 s.LeftBracket u h refl q) (λ h q.
    by_test (c == 93) _ _ _ q (λ h q. hit c 93 s.RightBracket u h refl q) (λ h q.
    by_test (c == 123) _ _ _ q (λ h q. hit c 123 s.LeftBrace u h refl q) (λ h q.
    by_test (c == 125) _ _ _ q (λ h q. hit c 125 s.RightBrace u h refl q) (λ h q.
    nothing u q))))))))))))))))))

hit_two : (c d m n : ℕ) (t u : Sign) → (c == m && d == n) ≡ true → sign_text t ≡ m ∷ n ∷ []
    → ((x : Text) → SignEnds t x) → ◌≡◌ {A = Option Sign} (Some t) (Some u)
    → (sign_text u ≡ c ∷ d ∷ []) × ((x : Text) → SignEnds u x)
hit_two c d m n t u h w a e = search (arith, rules, and_parts, nat_tests)

ends_Power : (x : Text) → SignEnds s.Power x
ends_Power [] = tt
ends_Power (e ∷ x) = refl

ends_FloorDivide : (x : Text) → SignEnds s.FloorDivide x
ends_FloorDivide [] = tt
ends_FloorDivide (e ∷ x) = refl

ends_Equal : (x : Text) → SignEnds s.Equal x
ends_Equal [] = tt
ends_Equal (e ∷ x) = refl

ends_NotEqual : (x : Text) → SignEnds s.NotEqual x
ends_NotEqual [] = tt
ends_NotEqual (e ∷ x) = refl

ends_LessEqual : (x : Text) → SignEnds s.LessEqual x
ends_LessEqual [] = tt
ends_LessEqual (e ∷ x) = refl

ends_GreaterEqual : (x : Text) → SignEnds s.GreaterEqual x
ends_GreaterEqual [] = tt
ends_GreaterEqual (e ∷ x) = refl

two_says : (c d : ℕ) (u : Sign) → two_sign c d ≡ Some u → (sign_text u ≡ c ∷ d ∷ []) × ((x : Text) → SignEnds u x)
two_says c d u e =
    by_test (c == 42 && d == 42) _ _ _ e (λ h q. hit_two c d 42 42 s.Power u h refl ends_Power q) (λ h q.
    by_test (c == 47 && d == 47) _ _ _ q (λ h q. hit_two c d 47 47 s.FloorDivide u h refl ends_FloorDivide q) (λ h q.
    by_test (c == 61 && d == 61) _ _ _ q (λ h q. hit_two c d 61 61 s.Equal u h refl ends_Equal q) (λ h q.
    by_test (c == 33 && d == 61) _ _ _ q (λ h q. hit_two c d 33 61 s.NotEqual u h refl ends_NotEqual q) (λ h q.
    by_test (c == 60 && d == 61) _ _ _ q (λ h q. hit_two c d 60 61 s.LessEqual u h refl ends_LessEqual q) (λ h q.
    by_test (c == 62 && d == 61) _ _ _ q (λ h q. hit_two c d 62 61 s.GreaterEqual u h refl ends_GreaterEqual q) (λ h q.
    nothing u q))))))

-- If no sign of two characters is found, the one of a single character is the longest.
stuck : (b : Bool) (t : Sign) (o : Option Sign) → cond b (Some t) o ≡ None → b ≡ false
stuck true t o h = cc
stuck false t o h = refl

head_is : (c n : ℕ) → n ∷ [] ≡ c ∷ [] → c ≡ n
head_is c n h = cc

shut : (c d : ℕ) (u : Sign) → sign_text u ≡ c ∷ [] → two_sign c d ≡ None → goes_on u d ≡ false
shut c d u e h = search (arith, rules, stuck, head_is)

-- The spelling of the sign that is found is at the start of the text.
abbrev pub FoundSign : Sign → Text → Text → Type 0
FoundSign u x rest = (x ≡ sign_text u ++ rest) × SignEnds u rest × (length rest < length x)

alone_says : (c : ℕ) (rest : Text) (u : Sign) (z : Text) (o : Option Sign) → one_sign c ≡ o → alone o rest ≡ Some (u, z)
    → (one_sign c ≡ Some u) × (rest ≡ z)
alone_says c rest u z None w e = cc
alone_says c rest u z (Some t) w e =
    let p : (t, rest) ≡ (u, z) = cc in (w ∙ ap (λ (q : Sign × Text). Some q.0) p, ap (λ (q : Sign × Text). q.1) p)

short : (c : ℕ) (rest : Text) (u : Sign) (z : Text) → SignEnds u rest → one_sign c ≡ Some u → rest ≡ z
    → FoundSign u (c ∷ rest) z
short c rest u z a o r =
    (ap (λ y. c ∷ y) r ∙ sym (ap (λ y. y ++ z) (one_says c u o)), subst (SignEnds u) r a, omega (arith, ap length r))

behind_two : (c d : ℕ) (more z : Text) → more ≡ z → length z < length (c ∷ d ∷ more)
behind_two c d more z r = omega (arith, ap length r)

long : (c d : ℕ) (more : Text) (u : Sign) (z : Text) (o : Option Sign) → two_sign c d ≡ o
    → longest o (one_sign c) more (d ∷ more) ≡ Some (u, z) → FoundSign u (c ∷ d ∷ more) z
long c d more u z (Some t) w e = search (arith, rules, two_says, behind_two)
long c d more u z None w e =
    let a = alone_says c (d ∷ more) u z (one_sign c) refl e in
    short c (d ∷ more) u z (shut c d u (one_says c u a.0) w) a.0 a.1

pub sign_says : (x : Text) (u : Sign) (rest : Text) → sign_at x ≡ Some (u, rest) → FoundSign u x rest
unfolding sign_at
sign_says [] u rest e = cc
sign_says (c ∷ []) u rest e = let a = alone_says c [] u rest (one_sign c) refl e in short c [] u rest tt a.0 a.1
sign_says (c ∷ d ∷ more) u rest e = long c d more u rest (two_sign c d) refl e

no_name : (c : ℕ) → nat_lt c 128 ≡ true → (is_ascii_alphabetic c || (c == 95)) ≡ false → starts_name c ≡ false
no_name c h = no_start c (grind (arith, nat_tests))

-- A sign begins with no whitespace, and no other token begins with its first character.
pub sign_head : (t : Sign) → (c : ℕ) × (cs : Text) × (sign_text t ≡ c ∷ cs) × (starts_name c ≡ false)
    × (is_space c ≡ false) × (is_digit 10 c ≡ false) × (is_quote c ≡ false)
unfolding digit_value
sign_head s.Plus = (43, [], refl, no_name 43 refl refl, refl, refl, refl)
sign_head s.Minus = (45, [], refl, no_name 45 refl refl, refl, refl, refl)
sign_head s.Times = (42, [], refl, no_name 42 refl refl, refl, refl, refl)
sign_head s.Percent = (37, [], refl, no_name 37 refl refl, refl, refl, refl)
sign_head s.Tilde = (126, [], refl, no_name 126 refl refl, refl, refl, refl)
sign_head s.Less = (60, [], refl, no_name 60 refl refl, refl, refl, refl)
sign_head s.Greater = (62, [], refl, no_name 62 refl refl, refl, refl, refl)
sign_head s.Assign = (61, [], refl, no_name 61 refl refl, refl, refl, refl)
sign_head s.Dot = (46, [], refl, no_name 46 refl refl, refl, refl, refl)
sign_head s.Comma = (44, [], refl, no_name 44 refl refl, refl, refl, refl)
sign_head s.Colon = (58, [], refl, no_name 58 refl refl, refl, refl, refl)
sign_head s.Pipe = (124, [], refl, no_name 124 refl refl, refl, refl, refl)
sign_head s.LeftParen = (40, [], refl, no_name 40 refl refl, refl, refl, refl)
sign_head s.RightParen = (41, [], refl, no_name 41 refl refl, refl, refl, refl)
sign_head s.LeftBracket = (91, [], refl, no_name 91 refl refl, refl, refl, refl)
sign_head s.RightBracket = (93, [], refl, no_name 93 refl refl, refl, refl, refl)
sign_head s.LeftBrace = (123, [], refl, no_name 123 refl refl, refl, refl, refl)
sign_head s.RightBrace = (125, [], refl, no_name 125 refl refl, refl, refl, refl)
sign_head s.Power = (42, 42 ∷ [], refl, no_name 42 refl refl, refl, refl, refl)
sign_head s.FloorDivide = (47, 47 ∷ [], refl, no_name 47 refl refl, refl, refl, refl)
sign_head s.Equal = (61, 61 ∷ [], refl, no_name 61 refl refl, refl, refl, refl)
sign_head s.NotEqual = (33, 61 ∷ [], refl, no_name 33 refl refl, refl, refl, refl)
sign_head s.LessEqual = (60, 61 ∷ [], refl, no_name 60 refl refl, refl, refl, refl)
sign_head s.GreaterEqual = (62, 61 ∷ [], refl, no_name 62 refl refl, refl, refl, refl)
