-- Suffixes of texts, and the text that is trimmed there.
use Rattle.std.proofs.Common.{◌≡◌, ◌≢◌, ℕ, ◌-◌, ◌<◌, ◌≤◌, ◌==◌, ◌&&◌, Bool, true, false, List, [], ◌∷◌, ◌++◌, length}
use Rattle.std.proofs.Common.{take, refl, sym, ap, subst, ◌∙◌, arith, append_assoc, append-nil, length-append, IsUtf8}
use Rattle.std.proofs.Common.{⊎_elim}
use Rattle.std.proofs.lemmas.Bool.{cases_lt, and_parts}
use Rattle.std.proofs.lemmas.Str.{encodes-chars, encodes-append, length-le-encodes, chars-append}
use Rattle.std.specs.Str.{chars}
use lib.Utf8.{encodes}
use Rattle.jt_scan.specs.Cut.{Text, EndsWith, is_space, after_space}
use Rattle.jt_parse.specs.Kept.{after_lf, all_pass, ending, ending_starts, without_end, Neighbour, is_start, after_left}
use Rattle.jt_parse.specs.Kept.{removed_right, kept}
use Rattle.jt_scan.specs.declared.options.Options.{Options}
use Rattle.jt_scan.proofs.Bytes.{bytes_end}
use Rattle.std.proofs.Math.Bool.{and-false}

pub whole_end : (x : Text) → EndsWith x x
whole_end x = ([], refl)

pub empty_end : (x : Text) → EndsWith x []
empty_end x = (x, sym (append-nil x))

pub space_end : (x : Text) → EndsWith x (after_space x)
unfolding after_space
space_end [] = ([], refl)
space_end (c ∷ cs) = by (is_space c) refl (space_end cs)
  where
    by : (b : Bool) → is_space c ≡ b → EndsWith cs (after_space cs) → EndsWith (c ∷ cs) (after_space (c ∷ cs))
    by true h e = rw h (c ∷ e.0, ap (λ z. c ∷ z) e.1)
    by false h e = rw h ([], refl)

pub lf_end : (x : Text) → EndsWith x (after_lf x)
lf_end [] = ([], refl)
lf_end (c ∷ cs) = by (c == 10) refl
  where
    by : (b : Bool) → (c == 10) ≡ b → EndsWith (c ∷ cs) (after_lf (c ∷ cs))
    by true h = rw h (c ∷ [], refl)
    by false h = rw h ([], refl)

-- ---- the longest suffix whose characters pass

-- The run is the text between and the rest. The characters between pass the test, and the longest
-- suffix of the source is that of the run.
pub record IsRun (test : ℕ → Bool) (start : Bool) (source : Text) (starts : Bool) (run rest : Text) : Type 0 where
  pub between : Text
  pub is : run ≡ between ++ rest
  pub pass : all_pass test between ≡ true
  pub value : ending test source ≡ ending test run
  pub begins : ending_starts test start source ≡ ending_starts test starts run
  pub end : EndsWith source run

pub run_none : (test : ℕ → Bool) (start : Bool) (x : Text) → IsRun test start x start x x
run_none test start x = record { between = []; is = refl; pass = refl; value = refl; begins = refl; end = whole_end x }

pass_more : (test : ℕ → Bool) (u : Text) (c : ℕ) → all_pass test u ≡ true → test c ≡ true
    → all_pass test (u ++ (c ∷ [])) ≡ true
pass_more test [] c h t = rw t refl
pass_more test (d ∷ u) c h t = let p = and_parts (test d) (all_pass test u) h in rw p.0 (pass_more test u c p.1 t)

pass_not : (test : ℕ → Bool) (u : Text) (c : ℕ) (x : Text) → test c ≡ false → all_pass test (u ++ (c ∷ x)) ≡ false
pass_not test [] c x t = rw t refl
pass_not test (d ∷ u) c x t = rw (pass_not test u c x t) (and-false (test d))

skip : (test : ℕ → Bool) (u : Text) (c : ℕ) (x : Text) → test c ≡ false → ending test (u ++ (c ∷ x)) ≡ ending test x
unfolding ending
skip test [] c x t = rw t refl
skip test (d ∷ u) c x t = rw (pass_not test (d ∷ u) c x t) (skip test u c x t)

skip_starts : (test : ℕ → Bool) (b : Bool) (u : Text) (c : ℕ) (x : Text) → test c ≡ false
    → ending_starts test b (u ++ (c ∷ x)) ≡ ending_starts test (c == 10) x
unfolding ending_starts
skip_starts test b [] c x t = rw t refl
skip_starts test b (d ∷ u) c x t = rw (pass_not test (d ∷ u) c x t) (skip_starts test (d == 10) u c x t)

pub run_passes : (test : ℕ → Bool) (start : Bool) (source : Text) (starts : Bool) (run rest : Text) (c : ℕ)
    (more : Text)
    → IsRun test start source starts run rest → rest ≡ c ∷ more → test c ≡ true
    → IsRun test start source starts run more
run_passes test start source starts run rest c more r e t =
    record {
      between = r.between ++ (c ∷ []);
      is = r.is ∙ ap (λ z. r.between ++ z) e ∙ sym (append_assoc r.between (c ∷ []) more);
      pass = pass_more test r.between c r.pass t;
      value = r.value;
      begins = r.begins;
      end = r.end;
    }

pub run_breaks : (test : ℕ → Bool) (start : Bool) (source : Text) (starts : Bool) (run rest : Text) (c : ℕ)
    (more : Text) (b : Bool)
    → IsRun test start source starts run rest → rest ≡ c ∷ more → test c ≡ false → b ≡ (c == 10)
    → IsRun test start source b more more
run_breaks test start source starts run rest c more b r e t g =
    let w : run ≡ r.between ++ (c ∷ more) = r.is ∙ ap (λ z. r.between ++ z) e in
    record {
      between = [];
      is = refl;
      pass = refl;
      value = r.value ∙ ap (ending test) w ∙ skip test r.between c more t;
      begins =
          r.begins ∙ ap (ending_starts test starts) w ∙ skip_starts test starts r.between c more t
          ∙ ap (λ k. ending_starts test k more) (sym g);
      end = (
        r.end.0 ++ (r.between ++ (c ∷ [])),
        r.end.1 ∙ ap (λ z. r.end.0 ++ z) (w ∙ sym (append_assoc r.between (c ∷ []) more))
            ∙ sym (append_assoc r.end.0 (r.between ++ (c ∷ [])) more),
      );
    }

all_end : (test : ℕ → Bool) (x : Text) → all_pass test x ≡ true → ending test x ≡ x
unfolding ending
all_end test [] h = refl
all_end test (c ∷ x) h = rw h refl

all_starts : (test : ℕ → Bool) (b : Bool) (x : Text) → all_pass test x ≡ true → ending_starts test b x ≡ b
unfolding ending_starts
all_starts test b [] h = refl
all_starts test b (c ∷ x) h = rw h refl

run_all : (test : ℕ → Bool) (start : Bool) (source : Text) (starts : Bool) (run rest : Text)
    → IsRun test start source starts run rest → rest ≡ [] → all_pass test run ≡ true
run_all test start source starts run rest r e =
    subst (λ z. all_pass test z ≡ true) (sym (r.is ∙ ap (λ z. r.between ++ z) e ∙ append-nil r.between)) r.pass

pub run_value : (test : ℕ → Bool) (start : Bool) (source : Text) (starts : Bool) (run rest : Text)
    → IsRun test start source starts run rest → rest ≡ [] → run ≡ ending test source
run_value test start source starts run rest r e =
    sym (r.value ∙ all_end test run (run_all test start source starts run rest r e))

pub run_starts : (test : ℕ → Bool) (start : Bool) (source : Text) (starts : Bool) (run rest : Text)
    → IsRun test start source starts run rest → rest ≡ [] → starts ≡ ending_starts test start source
run_starts test start source starts run rest r e =
    sym (r.begins ∙ all_starts test starts run (run_all test start source starts run rest r e))

-- ---- and_parts ends

bytes_of : (x : List ℕ) → IsUtf8 x → length x ≡ length (encodes (chars x))
bytes_of x u = ap length (sym (encodes-chars x u))

-- Of two suffixes of a text, the shorter one is a suffix of the longer one.
end_of_end : (y a z b : Text) → y ++ a ≡ z ++ b → length b ≤ length a → EndsWith a b
end_of_end [] a z b e le = (z, e)
end_of_end (c ∷ y) a [] b e le = absurd (omega (arith, ap length e, length-append y a))
end_of_end (c ∷ y) a (d ∷ z) b e le = let t : y ++ a ≡ z ++ b = cc in end_of_end y a z b t le

longer : (a b : Text) → EndsWith a b → length b ≤ length a
longer a b e = omega (arith, ap length e.1, length-append e.0 b)

strictly : (a b : Text) → EndsWith a b → length b < length a → length (encodes b) < length (encodes a)
strictly a b e lt = grind (arith, encodes-append, length-append, length-le-encodes)

-- A suffix with fewer bytes than another one is a suffix of it.
shorter_end : (t a b : List ℕ) → IsUtf8 a → IsUtf8 b → EndsWith (chars t) (chars a) → EndsWith (chars t) (chars b)
    → length b < length a → EndsWith (chars a) (chars b)
shorter_end t a b u v e f lt = grind (arith, bytes_of, strictly, end_of_end, cases_lt)

take_front : (x y : Text) → take (length (x ++ y) - length y) (x ++ y) ≡ x
take_front x y =
    let n : length (x ++ y) - length y ≡ length x = omega (arith, length-append x y) in
    rw n (front x y)
  where
    front : (x y : Text) → take (length x) (x ++ y) ≡ x
    front [] y = refl
    front (c ∷ x) y = ap (λ z. c ∷ z) (front x y)

-- If a text is a prefix followed by a suffix in bytes, it is so in characters.
pub chars_cut : (a b r : List ℕ) (n : ℕ) → IsUtf8 r → a ≡ take (length a - n) a ++ b → r ≡ take (length a - n) a
    → chars a ≡ chars r ++ chars b
chars_cut a b r n u e t = ap chars (e ∙ ap (λ z. z ++ b) (sym t)) ∙ chars-append r b u

pub kept_between : (front end r : Text) → front ≡ r ++ end → r ≡ without_end (length end) front
kept_between front end r e = sym (ap (λ z. take (length z - length end) z) e ∙ take_front r end)

-- If a suffix has no more bytes than another one, it has no more characters.
nothing_between : (t a b : List ℕ) → IsUtf8 a → IsUtf8 b → EndsWith (chars t) (chars a) → EndsWith (chars t) (chars b)
    → length a ≤ length b → [] ≡ without_end (length (chars b)) (chars a)
nothing_between t a b u v e f le =
    ⊎_elim
    (λ (lt : length (chars b) < length (chars a)).
    absurd (omega (
      arith,
      bytes_of a u,
      bytes_of b v,
      strictly (chars a) (chars b) (end_of_end e.0 (chars a) f.0 (chars b) (sym e.1 ∙ f.1) (omega arith)) lt,
    )))
    (λ (ge : length (chars a) ≤ length (chars b)).
    let n : length (chars a) - length (chars b) ≡ 0 = omega arith in rw n refl)
    (cases_lt (length (chars b)) (length (chars a)))

-- Of two suffixes a and b of a text, if b is no suffix of a in bytes, a without b is empty.
pub nothing_left : (t a b : List ℕ) → IsUtf8 a → IsUtf8 b → EndsWith (chars t) (chars a) → EndsWith (chars t) (chars b)
    → ((y : List ℕ) → a ≢ y ++ b) → [] ≡ without_end (length (chars b)) (chars a)
nothing_left t a b u v e f apart =
    ⊎_elim
    (λ (lt : length b < length a). let w = bytes_end a b u v (shorter_end t a b u v e f lt) in absurd (apart w.0 w.1))
    (λ (le : length a ≤ length b). nothing_between t a b u v e f le)
    (cases_lt (length b) (length a))

pub turned : (r b : Bool) → r ≡ b → r ≡ true → b ≡ true
turned r b e h = sym e ∙ h

pub unturned : (r b : Bool) → r ≡ b → r ≡ false → b ≡ false
unturned r b e h = sym e ∙ h

-- The trimmed text, from its two ends.
pub kept_of : (o : Options) (left right : Neighbour) (d front end : Text) (start : Bool) → start ≡ is_start left
    → front ≡ after_left o left d → end ≡ removed_right o start right d
    → without_end (length end) front ≡ kept o left right d
kept_of o left right d front end start s a r = cc
