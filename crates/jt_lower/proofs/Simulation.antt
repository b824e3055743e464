-- Simulation: if each run does what its meaning states, a sequence of such runs does what the
-- sequence of the meanings states.
use Rattle.std.proofs.Common.{◌≡◌, Bool, if◌then◌else◌, Option, Some, None, sym, subst, arith, rules}
use Rattle.jt_image.specs.Config.{State}
use Rattle.jt_value.specs.Place.{Place}
use Rattle.jt_eval.specs.Eval.{Eval, gives, fails, deeper, bind, at}
use Rattle.jt_lower.specs.Asm.{AsmEval, does, stops, too_deep, and_then, place_or}

-- If the meaning has a result, the run ends in the state of this result, for which an invariant
-- holds. If it fails, the run stops with this fault and its place, or with the place of the tag if
-- the fault has none.
abbrev pub Does : {A : Type 0} → Option Place → (A → Type 0) → (A → State) → AsmEval → Eval A → Type 0
Does o inv to r (gives x) = (r ≡ does (to x)) × inv x
Does o inv to r (fails e q) = r ≡ stops e (place_or q o)
Does o inv to r deeper = r ≡ too_deep

-- A run that is equal to one that does what a meaning states does so.
pub same_run : {A : Type 0} (o : Option Place) (inv : A → Type 0) (to : A → State) (r r' : AsmEval) (m : Eval A)
    → r ≡ r' → Does o inv to r' m → Does o inv to r m
same_run o inv to r r' m e h = subst (λ y. Does o inv to y m) (sym e) h

-- A run that does what a meaning states does what an equal meaning states.
pub same_meaning : {A : Type 0} (o : Option Place) (inv : A → Type 0) (to : A → State) (r : AsmEval) (m m' : Eval A)
    → m ≡ m' → Does o inv to r m' → Does o inv to r m
same_meaning o inv to r m m' e h = subst (λ y. Does o inv to r y) (sym e) h

-- If each of two runs does what its meaning states, the second run after the first does.
pub then_does : {A B : Type 0} (o : Option Place) (inv : A → Type 0) (to : A → State) (inv' : B → Type 0)
    (to' : B → State) (r : AsmEval) (m : Eval A) (g : State → AsmEval) (f : A → Eval B)
    → Does o inv to r m → ((x : A) → inv x → Does o inv' to' (g (to x)) (f x))
    → Does o inv' to' (and_then r g) (bind m f)
then_does o inv to inv' to' r m g f h step = search (arith, rules)

-- If each of two runs does what its meaning states and the second always succeeds, the second run
-- after the first does.
pub then_gives : {A B : Type 0} (o : Option Place) (inv : A → Type 0) (to : A → State) (inv' : B → Type 0)
    (to' : B → State) (r : AsmEval) (m : Eval A) (g : State → AsmEval) (f : A → B)
    → Does o inv to r m → ((x : A) → inv x → (g (to x) ≡ does (to' (f x))) × inv' (f x))
    → Does o inv' to' (and_then r g) (bind m (λ x. gives (f x)))
then_gives o inv to inv' to' r m g f h step = then_does o inv to inv' to' r m g (λ x. gives (f x)) h step

-- If a run does what its meaning states, the run followed by a change of the state does what it
-- states.
pub finished : {A : Type 0} (o : Option Place) (inv : A → Type 0) (to : A → State) (to' : A → State) (r : AsmEval)
    (m : Eval A) (g : State → AsmEval)
    → Does o inv to r m → ((x : A) → inv x → g (to x) ≡ does (to' x)) → Does o inv to' (and_then r g) m
finished o inv to to' r m g h step = search (arith, rules)

-- A run that does what a meaning states does so for another state and invariant of the result.
pub carried : {A : Type 0} (o : Option Place) (inv : A → Type 0) (to : A → State) (inv' : A → Type 0) (to' : A → State)
    (r : AsmEval) (m : Eval A)
    → Does o inv to r m → ((x : A) → inv x → (to x ≡ to' x) × inv' x) → Does o inv' to' r m
carried o inv to inv' to' r m h step = search (arith, rules)

-- A run that does what a meaning states does so for another result with its state and invariant.
pub mapped_does : {A B : Type 0} (o : Option Place) (inv : A → Type 0) (to : A → State) (inv' : B → Type 0)
    (to' : B → State) (r : AsmEval) (m : Eval A) (f : A → B)
    → Does o inv to r m → ((x : A) → inv x → (to x ≡ to' (f x)) × inv' (f x))
    → Does o inv' to' r (bind m (λ x. gives (f x)))
mapped_does o inv to inv' to' r m f h step = search (arith, rules)

-- A fault gets the place of a tag.
pub placed : {A : Type 0} (p : Place) (inv : A → Type 0) (to : A → State) (r : AsmEval) (m : Eval A)
    → Does (Some p) inv to r m → Does None inv to r (at p m)
placed p inv to r m h = search (arith, rules)

-- If each of two runs does what its meaning states, the one that a condition selects does.
pub either : {A : Type 0} (b : Bool) (o : Option Place) (inv : A → Type 0) (to : A → State) (r r' : AsmEval)
    (m m' : Eval A)
    → Does o inv to r m → Does o inv to r' m' → Does o inv to (if b then r else r') (if b then m else m')
either b o inv to r r' m m' h h' = search (arith, rules)

pub and_then_assoc : (r : AsmEval) (f g : State → AsmEval)
    → and_then (and_then r f) g ≡ and_then r (λ s. and_then (f s) g)
and_then_assoc r f g = search (arith, rules)

pub bind_assoc : {A B C : Type 0} (m : Eval A) (f : A → Eval B) (g : B → Eval C)
    → bind (bind m f) g ≡ bind m (λ x. bind (f x) g)
bind_assoc m f g = search (arith, rules)
