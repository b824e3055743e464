-- The relation of two computations with one outcome: both have related results, or one fault, or
-- both call too deep.
use Rattle.std.proofs.Common.{◌≡◌, Bool, if◌then◌else◌, Option, refl, sym, subst, arith, rules}
use Rattle.std.specs.Prelude.{Result}
use Rattle.jt_value.specs.declared.fault.Fault.{Fault}
use Rattle.jt_value.specs.Place.{Place}
use Rattle.jt_eval.specs.Eval.{Eval, gives, fails, deeper, bind, checked, at}

pub data SameEval {A B : Type 0} (R : A → B → Type 0) : Eval A → Eval B → Type 0 where
  both : {x : A} {y : B} → R x y → SameEval R (gives x) (gives y)
  fault : {e : Fault} {p : Option Place} → SameEval R (fails e p) (fails e p)
  deep : SameEval R deeper deeper

pub bind_both : {A B C D : Type 0} {R : A → B → Type 0} {S : C → D → Type 0} {g : Eval A} {h : Eval B} {f : A → Eval C}
    {k : B → Eval D}
    → SameEval R g h → ((x : A) (y : B) → R x y → SameEval S (f x) (k y)) → SameEval S (bind g f) (bind h k)
bind_both (both {x = x} {y = y} r) s = s x y r
bind_both fault s = fault
bind_both deep s = deep

pub at_both : {A B : Type 0} {R : A → B → Type 0} {g : Eval A} {h : Eval B} (p : Place) → SameEval R g h
    → SameEval R (at p g) (at p h)
at_both p x2 = search (arith, rules, both, fault, deep)

pub if_both : {A B : Type 0} {R : A → B → Type 0} (b : Bool) {g f : Eval A} {h k : Eval B} → SameEval R g h
    → SameEval R f k → SameEval R (if b then g else f) (if b then h else k)
if_both b u v = search (arith, rules)

-- Two computations that agree also agree for a weaker relation.
pub weaken : {A B : Type 0} {R S : A → B → Type 0} {g : Eval A} {h : Eval B} → ((x : A) (y : B) → R x y → S x y)
    → SameEval R g h → SameEval S g h
weaken w y = search (arith, rules, both, fault, deep)

-- Two computations still agree after a step on the right side alone.
pub right_both : {A B D : Type 0} {S : A → D → Type 0} {g : Eval A} {h : Eval B} (f : B → D)
    → SameEval (λ x y. S x (f y)) g h → SameEval S g (bind h (λ y. gives (f y)))
right_both f x2 = search (arith, rules, both, fault, deep)

-- Two computations still agree after a step on the left side alone.
pub left_both : {A B C : Type 0} {S : C → B → Type 0} {g : Eval A} {h : Eval B} (f : A → C)
    → SameEval (λ x y. S (f x) y) g h → SameEval S (bind g (λ x. gives (f x))) h
left_both f x2 = search (arith, rules, both, fault, deep)

pub at_bind : {A B : Type 0} (p : Place) (g : Eval A) (f : A → Eval B)
    → at p (bind g f) ≡ bind (at p g) (λ x. at p (f x))
at_bind p g f = search (arith, rules)

pub bind_gives : {A : Type 0} (g : Eval A) → bind g (λ x. gives x) ≡ g
bind_gives g = search (arith, rules)

pub bind_assoc : {A B C : Type 0} (g : Eval A) (f : A → Eval B) (h : B → Eval C)
    → bind (bind g f) h ≡ bind g (λ x. bind (f x) h)
bind_assoc g f h = search (arith, rules)

pub bind_ext : {A B : Type 0} (g : Eval A) (f h : A → Eval B) → ((x : A) → f x ≡ h x) → bind g f ≡ bind g h
bind_ext g f h e = search (arith, rules)

pub by_left : {A B : Type 0} {R : A → B → Type 0} {g f : Eval A} {h : Eval B} → f ≡ g → SameEval R g h → SameEval R f h
by_left {R = R} {h = h} e u = subst (λ x. SameEval R x h) (sym e) u

pub by_right : {A B : Type 0} {R : A → B → Type 0} {g : Eval A} {h k : Eval B} → k ≡ h → SameEval R g h → SameEval R g k
by_right {R = R} {g = g} e u = subst (λ x. SameEval R g x) (sym e) u

-- A checked result agrees with itself.
pub checked_both : {A : Type 0} (r : Result A Fault) → SameEval (λ x y. y ≡ x) (checked r) (checked r)
checked_both r = search (arith, rules, both, fault)

-- A computation agrees with itself.
pub same_both : {A : Type 0} (g : Eval A) → SameEval (λ x y. y ≡ x) g g
same_both (gives x) = both refl
same_both (fails e p) = fault
same_both deeper = deep
