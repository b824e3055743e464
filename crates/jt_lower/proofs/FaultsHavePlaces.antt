-- Each fault of a program has the place of a tag.
use Rattle.std.proofs.Common.{ℕ, suc, Bool, true, if◌then◌else◌, List, [], ◌∷◌, Option, Some, None, arith, rules}
use Rattle.jt_value.specs.Tree.{Tree}
use Rattle.jt_value.specs.Place.{Place}
use Rattle.jt_eval.specs.Eval.{Eval, gives, fails, deeper, bind, at}
use Rattle.jt_eval.specs.Filters.{Filters}
use Rattle.jt_eval.specs.Loops.{Loop}
use Rattle.jt_ir.specs.Slots as slots
use Rattle.jt_ir.specs.Slots.{SRow, Targets, SlotStmt, SBody, Program, Memory, SCalls, store, sturns, seval_loop}
use Rattle.jt_ir.specs.Slots.{in_front, svalues, smeaning, smeanings}
use Rattle.jt_lower.specs.Fits.{IsBare, StmtFits, BodyFits}

abbrev pub HasPlace : {A : Type 0} → Eval A → Type 0
HasPlace (gives x) = Unit {0}
HasPlace (fails e None) = ⊥
HasPlace (fails e (Some q)) = Unit {0}
HasPlace deeper = Unit {0}

abbrev pub CallsPlaced : SCalls → Type 0
CallsPlaced call = (u : ℕ) (ts gs : List Tree) → HasPlace (call u ts gs)

at_has : {A : Type 0} (p : Place) (g : Eval A) → HasPlace (at p g)
at_has p g = search (arith, rules)

pub bind_has : {A B : Type 0} (g : Eval A) (f : A → Eval B) → HasPlace g → ((x : A) → HasPlace (f x))
    → HasPlace (bind g f)
bind_has g f h k = search (arith, rules)

if_has : {A : Type 0} (b : Bool) (g h : Eval A) → HasPlace g → HasPlace h → HasPlace (if b then g else h)
if_has b g h w v = search (arith, rules)

module _ (filters : Filters) (constant : ℕ → Tree) (call : SCalls) (calls : CallsPlaced call) (p : Program)
    (count : ℕ) where
  row_has : (r : SRow ℕ) (l : Option Loop) (m : Memory) → IsBare r → HasPlace (svalues filters constant call r l m)
  row_has (slots.item (slots.pooled i) r) l m b = search (arith, rules, bind_has, row_has r l m b)
  row_has (slots.item (slots.variable s) r) l m b = search (arith, rules, bind_has, row_has r l m b)
  row_has r l m b = search (arith, rules)

  turns_has : (means : Option Loop → Memory → Eval Memory) → ((l : Option Loop) (m : Memory) → HasPlace (means l m))
      → (xs : Targets) (tag : Place) (all : List Tree) (i : ℕ) (vs : List Tree) (m : Memory)
      → HasPlace (sturns means xs tag all i vs m)
  turns_has means h xs tag all i [] m = tt
  turns_has means h xs tag all i (v ∷ vs) m =
      search (arith, rules, bind_has, at_has, turns_has means h xs tag all (suc i) vs)

  over_has : (means : Option Loop → Memory → Eval Memory) (other : Memory → Eval Memory)
      → ((l : Option Loop) (m : Memory) → HasPlace (means l m)) → ((m : Memory) → HasPlace (other m))
      → (xs : Targets) (tag : Place) (vs : List Tree) (m : Memory) → HasPlace (seval_loop means other xs tag vs m)
  over_has means other h g xs tag vs m = search (arith, rules, turns_has)

  mutual
    stmt_has : (s : SlotStmt ℕ) (inside : Bool) (l : Option Loop) (m : Memory) → StmtFits p count inside s
        → HasPlace (smeaning filters constant call s l m)
    stmt_has (slots.put_pooled i) inside l m f = tt
    stmt_has (slots.print tag escaping e) inside l m f = at_has tag _
    stmt_has (slots.assign tag xs e) inside l m f = at_has tag _
    stmt_has (slots.if_else tag c a b) inside l m f =
        search (arith, rules, bind_has, at_has, if_has, body_has a inside l, body_has b inside l)
    stmt_has (slots.for_each tag xs e c body other) inside l m f =
        search (arith, rules, bind_has, at_has, over_has, body_has body true, body_has other inside l)
    stmt_has (slots.capture escaping s body) inside l m f = search (arith, rules, bind_has, body_has body inside l)
    stmt_has (slots.run u r) inside l m f = search (arith, rules, bind_has, row_has)

    pub body_has : (b : SBody ℕ) (inside : Bool) (l : Option Loop) (m : Memory) → BodyFits p count inside b
        → HasPlace (smeanings filters constant call b l m)
    body_has slots.end inside l m f = tt
    body_has (slots.stmt s rest) inside l m f =
        bind_has (smeaning filters constant call s l m) (smeanings filters constant call rest l)
        (stmt_has s inside l m f.0) (λ n. body_has rest inside l n f.1)
