-- Numbers in the range of 64 signed bits.
use Rattle.std.proofs.Common.{◌≡◌, ℕ, zero, suc, ◌%◌, ◌^◌, ◌<◌, ◌≤◌, Bool, true, false, cond, Option, Some, None, ℤ}
use Rattle.std.proofs.Common.{pos, negsuc, neg_ℤ, refl, sym, ◌∙◌, arith}
use Rattle.std.specs.Prelude.{◌≢◌, Ok, Err, SomeIff, FitsSigned, nat_lt}
use Rattle.std.specs.Int.{w64, int_pow}
use Rattle.std.specs.Option.{ok_or}
use Rattle.std.proofs.lemmas.Bool.Decides.{nat_tests}
use Rattle.std.proofs.Math.Nat.{pow-zero, pow-suc, mul-le-mul}
use Rattle.std.proofs.Math.Pow.{pow_mono}
use Rattle.jt_value.specs.declared.fault.Fault.TheVariants.{Overflow}
use Rattle.jt_op_semantics.specs.Arithmetic.{in_range}

-- A checked operation returns the number in range, or an overflow.
pub in_range_is : (r : Option ℤ) (z : ℤ) → SomeIff r (FitsSigned w64 z) z → ok_or r Overflow ≡ in_range z
in_range_is None (pos n) h =
    let none : n < 2 ^ 63 → ⊥ = λ lt. h (record { sfits = lt }) in
    let f : nat_lt n (2 ^ 63) ≡ false = grind (arith, nat_tests) in
    rw f refl
in_range_is None (negsuc n) h =
    let none : n < 2 ^ 63 → ⊥ = λ lt. h (record { sfits = lt }) in
    let f : nat_lt n (2 ^ 63) ≡ false = grind (arith, nat_tests) in
    rw f refl
in_range_is (Some x) (pos n) h =
    let some : n < 2 ^ 63 = h.0.sfits in
    let f : nat_lt n (2 ^ 63) ≡ true = grind (arith, nat_tests) in
    rw (f, h.1) refl
in_range_is (Some x) (negsuc n) h =
    let some : n < 2 ^ 63 = h.0.sfits in
    let f : nat_lt n (2 ^ 63) ≡ true = grind (arith, nat_tests) in
    rw (f, h.1) refl

-- ---- Great powers

pub zero_pow : (e : ℕ) → 0 < e → 0 ^ e ≡ 0
zero_pow zero h = absurd (omega arith)
zero_pow (suc e) h = pow-suc 0 e ∙ omega arith

pub one_pow : (e : ℕ) → 1 ^ e ≡ 1
one_pow zero = refl
one_pow (suc e) = pow-suc 1 e ∙ (rw (one_pow e) refl)

pub two_pow_le : (a e : ℕ) → 2 ≤ a → 2 ^ e ≤ a ^ e
two_pow_le a zero h = rw (pow-zero a) (omega arith)
two_pow_le a (suc e) h = rw (pow-suc 2 e, pow-suc a e) (mul-le-mul (two_pow_le a e h) h)

pub great_pow : (a e : ℕ) → 2 ≤ a → 64 ≤ e → 2 ^ 64 ≤ a ^ e
great_pow a e h g = let k : 2 ^ 64 ≤ 2 ^ e = pow_mono g in omega (arith, two_pow_le a e h)

pub power_of_zero : (x : ℤ) (e : ℕ) → x ≡ pos 0 → 64 ≤ e → Ok (pos 0) ≡ in_range (int_pow x e)
power_of_zero x e i h = let g : 0 < e = omega arith in rw (i, zero_pow e g) refl

pub power_of_one : (x : ℤ) (e : ℕ) → x ≡ pos 1 → 64 ≤ e → Ok (pos 1) ≡ in_range (int_pow x e)
power_of_one x e i h = rw (i, one_pow e) refl

pub power_even : (x : ℤ) (e : ℕ) → x ≡ negsuc 0 → e % 2 ≡ 0 → Ok (pos 1) ≡ in_range (int_pow x e)
power_even x e i h = rw (i, h, one_pow e) refl

pub power_odd : (x : ℤ) (e : ℕ) → x ≡ negsuc 0 → e % 2 ≢ 0 → Ok (negsuc 0) ≡ in_range (int_pow x e)
power_odd x e i h = let o : e % 2 ≡ 1 = omega arith in rw (i, o, one_pow e) refl

far_up : (m : ℕ) → 2 ^ 64 ≤ m → in_range (pos m) ≡ Err Overflow
far_up m h = let f : nat_lt m (2 ^ 63) ≡ false = grind (arith, nat_tests) in rw f refl

far_down : (m : ℕ) → 2 ^ 64 ≤ m → in_range (neg_ℤ (pos m)) ≡ Err Overflow
far_down zero h = absurd (omega arith)
far_down (suc m) h = let f : nat_lt m (2 ^ 63) ≡ false = grind (arith, nat_tests) in rw f refl

far_either : (b : Bool) (m : ℕ) → 2 ^ 64 ≤ m → in_range (cond b (pos m) (neg_ℤ (pos m))) ≡ Err Overflow
far_either true m h = far_up m h
far_either false m h = far_down m h

pub power_beyond : (x : ℤ) (e : ℕ) → x ≢ pos 0 → x ≢ pos 1 → x ≢ negsuc 0 → 64 ≤ e
    → Err Overflow ≡ in_range (int_pow x e)
power_beyond (pos zero) e a b c h = absurd (a refl)
power_beyond (pos (suc zero)) e a b c h = absurd (b refl)
power_beyond (pos (suc (suc n))) e a b c h = sym (far_up _ (great_pow (suc (suc n)) e (omega arith) h))
power_beyond (negsuc zero) e a b c h = absurd (c refl)
power_beyond (negsuc (suc n)) e a b c h = sym (far_either _ _ (great_pow (suc (suc n)) e (omega arith) h))

-- The powers with a great exponent.
pub ruleset great_powers = (power_of_zero, power_of_one, power_even, power_odd, power_beyond)
