-- A sink that takes pieces in sequence takes their bytes in order.
use Rattle.jt_machine.proofs.Vocabulary.{TookTo, Appends-nil, Appends-trans, append-nil, take-append-drop, Appends}
use Rattle.std.proofs.Common.{◌≡◌, ℕ, List, [], ◌∷◌, ◌++◌, ◌-◌, length, take, drop, length-drop, Option, refl, sym, ap}
use Rattle.std.proofs.Common.{◌∙◌, append_assoc, arith, rules}
use Rattle.std.proofs.Math.Seq.{take-length}
use Rattle.jt_machine.specs.Sinks.{TookFront}

pub none_taken : (all : List ℕ) (old : Option (List ℕ)) → TookTo all all old old
none_taken all old = record { front = []; parts = refl; taken = Appends-nil old }

pub more_taken : (n : ℕ) (rest all : List ℕ) (old mid new : Option (List ℕ)) → TookTo rest all old mid
    → Appends mid new (take n rest) → TookTo (drop n rest) all old new
more_taken n rest all old mid new t a = record {
  front = t.front ++ take n rest;
  parts =
      t.parts ∙ ap (λ (l : List ℕ). t.front ++ l) (sym (take-append-drop n rest))
      ∙ sym (append_assoc t.front (take n rest) (drop n rest));
  taken = Appends-trans old mid new t.front (take n rest) t.taken a;
}

rest_whole : (n : ℕ) (rest : List ℕ) → take (length rest - n) (drop n rest) ≡ drop n rest
rest_whole n rest = search (arith, rules, length-drop n rest, take-length (drop n rest))

pub goes_on : (n : ℕ) (rest all : List ℕ) (old mid new : Option (List ℕ)) → TookTo rest all old mid
    → Appends mid new (take n rest) → TookTo (take (length rest - n) (drop n rest)) all old new
goes_on n rest all old mid new t a = rw (rest_whole n rest) (more_taken n rest all old mid new t a)

pub front_taken : (rest all : List ℕ) (old mid new : Option (List ℕ)) → TookTo rest all old mid → Appends mid new []
    → TookFront all old new
front_taken rest all old mid new t a = search (arith, rules, append-nil)

nothing_left : (rest : List ℕ) → length rest ≡ 0 → rest ≡ []
nothing_left [] e = refl
nothing_left (x ∷ rest) e = absurd (omega (arith, e))

pub all_taken : (rest all : List ℕ) (old new : Option (List ℕ)) → TookTo rest all old new → length rest ≡ 0
    → Appends old new all
all_taken rest all old new t e = search (arith, rules, nothing_left, append-nil)
