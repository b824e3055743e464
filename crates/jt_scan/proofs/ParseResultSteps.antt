-- Steps of parse results, and runs of characters.
use Rattle.std.proofs.Common.{◌≡◌, ℕ, Bool, true, false, cond, [], ◌∷◌, ◌++◌, drop, refl, ap, sym, ◌∙◌, arith, Ok}
use Rattle.std.proofs.Common.{Err, rules}
use Rattle.std.proofs.lemmas.Bool.Decides.{nat_tests}
use Rattle.std.proofs.lemmas.Bool.{and_parts}
use Rattle.unicode_ident.specs.Ident.{is_xid_continue}
use Rattle.jt_scan.specs.Cut.{Text, AllContinue, NameEnds, NoneBegins, begins}
use Rattle.jt_scan.specs.internal.Scanning.{ParseResult, ◌>>=◌, front, run, clear_run}

pub by_test : {A G : Type 0} (b : Bool) (x y z : A) → cond b x y ≡ z → (b ≡ true → x ≡ z → G) → (b ≡ false → y ≡ z → G)
    → G
by_test true x y z e hit miss = hit refl e
by_test false x y z e hit miss = miss refl e

pub ok_parts : {A : Type 0} {a b : A} {u v : Text} → ◌≡◌ {A = ParseResult A} (Ok (a, u)) (Ok (b, v)) → (a ≡ b) × (u ≡ v)
ok_parts {A} {a} {b} {u} {v} e =
    let p : (a, u) ≡ (b, v) = cc in (ap (λ (q : A × Text). q.0) p, ap (λ (q : A × Text). q.1) p)

pub bind_ok : {A B : Type 0} (o : ParseResult A) (f : A → Text → ParseResult B) (b : B) (rest : Text)
    → (o >>= f) ≡ Ok (b, rest) → (a : A) × (u : Text) × (o ≡ Ok (a, u)) × (f a u ≡ Ok (b, rest))
bind_ok (Ok p) f b rest e = (p.0, p.1, refl, e)
bind_ok (Err x) f b rest e = cc

pub begins_says : (a b c : ℕ) (cs : Text) → begins a b (c ∷ cs) ≡ true → (c ≡ a) × (cs ≡ b ∷ drop 1 cs)
begins_says a0 a1 a2 a3 a4 = search (arith, rules, and_parts, nat_tests)

pub opener_says : (a b : ℕ) (x : Text) → begins a b x ≡ true → x ≡ a ∷ b ∷ drop 2 x
opener_says a b x h = search (arith, rules, begins_says)

-- A run is the longest one.
run_ends : (rest : Text) → NameEnds rest → run rest ≡ ([], rest)
unfolding run
run_ends [] h = refl
run_ends (c ∷ rest) h = rw h

pub run_of : (x rest : Text) → AllContinue x → NameEnds rest → run (x ++ rest) ≡ (x, rest)
unfolding run
run_of [] rest a h = run_ends rest h
run_of (c ∷ x) rest a h = rw (a.0, run_of x rest a.1 h)

pub run_says : (cs : Text) → (cs ≡ (run cs).0 ++ (run cs).1) × AllContinue (run cs).0 × NameEnds (run cs).1
unfolding run
run_says [] = (refl, tt, tt)
run_says (c ∷ cs) = stepped c cs (is_xid_continue c) refl (run_says cs)
  where
    stepped : (c : ℕ) (cs : Text) (b : Bool) → is_xid_continue c ≡ b
        → (cs ≡ (run cs).0 ++ (run cs).1) × AllContinue (run cs).0 × NameEnds (run cs).1 →
        let p : Text × Text = cond b (front c (run cs)) ([], c ∷ cs) in
        ((c ∷ cs) ≡ p.0 ++ p.1) × AllContinue p.0 × NameEnds p.1
    stepped c cs true h r = (ap (λ x. c ∷ x) r.0, (h, r.1), r.2)
    stepped c cs false h r = (refl, tt, h)

-- The text is empty, or the test holds at its start.
abbrev pub Stops : (Text → Bool) → Text → Type 0
Stops test [] = Unit {0}
Stops test (c ∷ cs) = test (c ∷ cs) ≡ true

clear_stops : (test : Text → Bool) (x : Text) → Stops test x → clear_run test x ≡ ([], x)
unfolding clear_run
clear_stops test [] h = refl
clear_stops test (c ∷ cs) h = rw h

pub clear_of : (test : Text → Bool) (d x : Text) → NoneBegins test d x → Stops test x → clear_run test (d ++ x) ≡ (d, x)
unfolding clear_run
clear_of test [] x i h = clear_stops test x h
clear_of test (c ∷ d) x i h = rw (i.0, clear_of test d x i.1 h)

pub clear_says : (test : Text → Bool) (ts : Text)
    → (ts ≡ (clear_run test ts).0 ++ (clear_run test ts).1)
    × NoneBegins test (clear_run test ts).0 (clear_run test ts).1 × Stops test (clear_run test ts).1
unfolding clear_run
clear_says test [] = (refl, tt, tt)
clear_says test (c ∷ cs) = stepped (test (c ∷ cs)) refl (clear_says test cs)
  where
    stepped : (b : Bool) → test (c ∷ cs) ≡ b → (cs ≡ (clear_run test cs).0 ++ (clear_run test cs).1)
        × NoneBegins test (clear_run test cs).0 (clear_run test cs).1 × Stops test (clear_run test cs).1
        →
        let p : Text × Text = cond b ([], c ∷ cs) (front c (clear_run test cs)) in
        ((c ∷ cs) ≡ p.0 ++ p.1) × NoneBegins test p.0 p.1 × Stops test p.1
    stepped true h r = (refl, tt, h)
    stepped false h r = (ap (λ x. c ∷ x) r.0, (ap (λ x. test (c ∷ x)) (sym r.0) ∙ h, r.1), r.2)
