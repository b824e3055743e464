use Rattle.std.proofs.Common.{◌≡◌, ℕ, ◌+◌, ◌-◌, ◌<◌, ◌≤◌, ◌==◌, List, length, take, drop, get_or, true, sym, ap}
use Rattle.std.proofs.Common.{◌∙◌, arith, get_or-take, get_or-drop, length-take, length-drop}
use Rattle.std.proofs.lemmas.Bool.Decides.{nat_tests}
use Rattle.memchr.specs.Find.{is_byte, Nowhere, Passes}
use Rattle.jt_scan.proofs.find.next_brace.Goals as goal

-- A position of the text is a position of its suffix from `start`, shifted by `start`.
shifted : (s : List ℕ) (start k : ℕ) → start ≤ length s → k < length s - start
    → get_or (take (length s - start) (drop start s)) k 0 ≡ get_or s (start + k) 0
shifted s start k le h = rw (get_or-take, get_or-drop)

long : (s : List ℕ) (start : ℕ) → start ≤ length s → length (take (length s - start) (drop start s)) ≡ length s - start
long s start le = simp (length-take, length-drop) (omega arith)

is_brace : (n : ℕ) → (n == 123) ≡ true → n ≡ 123
is_brace n h = grind (arith, nat_tests)

brace_is : (n : ℕ) → n ≡ 123 → (n == 123) ≡ true
brace_is n h = grind (arith, nat_tests)

nowhere : (s : List ℕ) (start i j : ℕ) → start ≤ length s → i ≤ length s - start
    → Nowhere (Passes (is_byte 123) (take (length s - start) (drop start s))) 0 i → j ≡ start + i → (k : ℕ) → start ≤ k
    → k < j → get_or s k 0 ≡ 123 → ⊥
nowhere s start i j le hi unseen e k low high is =
    let back : start + (k - start) ≡ k = omega arith in
    unseen (k - start) (omega arith) (omega arith)
    (brace_is _ (shifted s start (k - start) le (omega arith) ∙ ap (λ m. get_or s m 0) back ∙ is))

pub returns-in-Some : goal.returns-in-Some
returns-in-Some c =
    let s = c.args.text.now in let a = c.args.start in let k = c.in-Some.step in
    let f = c.in-Some.ensures in
    let le : a ≤ length s = c.requires in
    let high : k < length s - a = omega (arith, long s a le, f.0.high) in (
      record {
        low = omega arith;
        high = omega arith;
        before = nowhere s a k (a + k) le (omega arith) f.0.before (omega arith);
      },
      sym (shifted s a k le high) ∙ is_brace _ f.1,
    )

pub returns-in-None : goal.returns-in-None
returns-in-None c = grind (arith, nowhere, long)
