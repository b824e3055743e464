-- The result of the scanner determines the segments of a source, or is a correct refusal.
use Rattle.std.proofs.Common.{◌≡◌, ℕ, ◌+◌, ◌≤◌, List, length, Result, Ok, Err, MatchResult, IfOk, IfErr, arith, rules}
use Rattle.jt_scan.specs.declared.error.ScanError.{ScanError}
use Rattle.jt_scan.specs.declared.error.ScanError.TheVariants as error
use Rattle.jt_scan.specs.declared.segment.TagKind.{TagKind}
use Rattle.jt_scan.specs.Cut.{Text, Segment, Cuts, no_more, more, IsCut, weight_of}
use Rattle.jt_scan.specs.Refused.{IsBroken, no_closer, no_quote, bad_escape, too_large, no_token, behind_space}
use Rattle.jt_scan.specs.Refused.{behind_token, IsFaulty, IsFaultOf, IsRefusal}
use Rattle.jt_scan.specs.internal.Scanning.{cut, IsGiven}
use Rattle.jt_scan.proofs.CutLaws.{cut_found, cut_says, cut_refuses, FaultyAt}
use Rattle.jt_scan.proofs.Weight.{weighs}

-- The result of the code is that of the function `cut`, or a lack of memory.
abbrev pub Answers : {V : Type 0} → (V → List Segment) → Text → Result V ScanError → Type 0
Answers f x r = MatchResult r (λ v. cut x (length x + 1) x ≡ Ok (f v)) (λ e. IsGiven e (cut x (length x + 1) x))

pub answers_cut : {V : Type 0} (f : V → List Segment) (x : Text) (r : Result V ScanError) → Answers f x r
    → IfOk r (λ v. IsCut (f v) x)
answers_cut f x (Ok v) a = cut_says x (length x + 1) (f v) x a
answers_cut f x (Err e) a = tt

pub answers_weigh : {V : Type 0} (f : V → List Segment) (x : Text) (r : Result V ScanError) → Answers f x r
    → IfOk r (λ v. weight_of (f v) ≤ length x)
answers_weigh f x (Ok v) a = weighs (cut_says x (length x + 1) (f v) x a)
answers_weigh f x (Err e) a = tt

only_memory : (e : ScanError) (o : Result (List Segment) ScanError) (ss : List Segment) → o ≡ Ok ss → IsGiven e o
    → e ≡ error.NoMemory
only_memory e o ss h g = search (arith, rules)

pub answers_only : {V : Type 0} (f : V → List Segment) (x : Text) (r : Result V ScanError) → Answers f x r
    → (ss : List Segment) → IsCut ss x → MatchResult r (λ v. f v ≡ ss) (λ e. e ≡ error.NoMemory)
answers_only f x (Ok v) a ss c = let h = cut_found c (length x + 1) (omega arith) in cc
answers_only f x (Err e) a ss c = only_memory e (cut x (length x + 1) x) ss (cut_found c (length x + 1) (omega arith)) a

-- The errors that a tag may have.
abbrev MayBe : ScanError → Type 0
MayBe (error.UnclosedTag n) = Unit {0}
MayBe (error.UnclosedText n) = Unit {0}
MayBe (error.BadCharacter n) = Unit {0}
MayBe (error.BadEscape n) = Unit {0}
MayBe (error.NumberTooLarge n) = Unit {0}
MayBe (error.UnclosedRaw n) = Unit {0}
MayBe (error.SourceTooLong n) = ⊥
MayBe error.NoMemory = ⊥

broken_may : {k : TagKind} {n depth : ℕ} {e : ScanError} {x : Text} → IsBroken k n depth e x → MayBe e
broken_may no_closer = tt
broken_may (no_quote q u) = tt
broken_may (bad_escape z q n h) = tt
broken_may (too_large m l) = tt
broken_may (no_token a b d q n c) = tt
broken_may (behind_space h i) = broken_may i
broken_may (behind_token b s i) = broken_may i

faulty_may : {n : ℕ} {e : ScanError} {x : Text} → IsFaulty n e x → MayBe e
faulty_may x1 = search (arith, rules, broken_may)

cuts_may : {source : Text} {e : ScanError} {ss : List Segment} {x : Text} → Cuts source (FaultyAt source e) ss x
    → MayBe e
cuts_may (no_more f) = faulty_may f
cuts_may (more p c) = cuts_may c

found : (e : ScanError) (x : Text) → cut x (length x + 1) x ≡ Err e → IsFaultOf e x
found e x h = cut_refuses x (length x + 1) e x (omega arith) h

holds : (e : ScanError) (x : Text) → IsGiven e (cut x (length x + 1) x) → IsRefusal e x
holds e x h = search (arith, rules, found, cuts_may)

pub answers_refused : {V : Type 0} (f : V → List Segment) (x : Text) (r : Result V ScanError) → Answers f x r
    → IfErr r (λ e. IsRefusal e x)
answers_refused f x (Ok v) a = tt
answers_refused f x (Err e) a = holds e x a
