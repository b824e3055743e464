-- The names of slots, as a table takes them one after the other.
use Rattle.std.proofs.Common.{◌≡◌, ◌+◌, ◌<◌, ◌≤◌, ℕ, Bool, true, false, eqb, cond, List, ◌∷◌, Option, Some, None}
use Rattle.std.proofs.Common.{length, drop, get_or, refl, sym, ap, ◌∙◌, arith, inl, inr}
use Rattle.std.specs.Prelude.{nat_lt, slice_get}
use Rattle.std.specs.Borrow.{Bor}
use Rattle.std.specs.Option.{option_or}
use Rattle.std.proofs.lemmas.Bool.{cases_lt}
use Rattle.std.proofs.lemmas.Bool.Decides.{nat_tests}
use Rattle.std.proofs.lemmas.List.{drop_all, get_or_past}
use Rattle.jt_image.specs.Code.{Name, Code}
use Rattle.jt_show.specs.Instructions.{name_of_slot}
use Rattle.jt_show.specs.internal.SlotNames.{AreNames, named_at, named_by}
use Rattle.jt_show.proofs.NumberedLines.{drop_get}

-- A name that is taken before the names that are left comes first of all.
first_cons : (known : Option (List ℕ)) (name : Name) (names : List Name) (slot : ℕ)
    → option_or (option_or known (named_by name slot)) (name_of_slot names slot)
    ≡ option_or known (name_of_slot (name ∷ names) slot)
first_cons (Some text) name names slot = refl
first_cons None name names slot = by (eqb name.slot slot)
  where
    by : (b : Bool) → option_or (cond b (Some name.text) None) (name_of_slot names slot)
        ≡ cond b (Some name.text) (name_of_slot names slot)
    by true = refl
    by false = refl

pub names_next : (names : List Name) (i : ℕ) (name : Name) (slot : ℕ) (known new all : Option (List ℕ))
    → Some name ≡ slice_get names i → new ≡ option_or known (named_by name slot)
    → option_or known (name_of_slot (drop i names) slot) ≡ all
    → option_or new (name_of_slot (drop (i + 1) names) slot) ≡ all
names_next names i name slot known new all is put same =
    rw put (first_cons known name (drop (i + 1) names) slot
    ∙ ap (λ (l : List Name). option_or known (name_of_slot l slot)) (sym (drop_get names i name is))
    ∙ same)

nothing_more : (known : Option (List ℕ)) → option_or known None ≡ known
nothing_more (Some text) = refl
nothing_more None = refl

-- After all names the table has the names of the globals.
pub names_all : (k : Code) (slots : List (Option (Bor (List ℕ)))) (i : ℕ) → length slots ≡ k.globals
    → length k.names ≤ i
    → ((slot : ℕ) → slot < k.globals
    → option_or (named_at slots slot) (name_of_slot (drop i k.names) slot) ≡ name_of_slot k.names slot)
    → AreNames k slots
names_all k slots i len far each slot = elim (cases_lt slot k.globals) [
  | inl inside ↦
      let test : nat_lt slot k.globals ≡ true = grind (arith, nat_tests) in
      rw test (sym (nothing_more (named_at slots slot))
      ∙ ap (λ (l : List Name). option_or (named_at slots slot) (name_of_slot l slot)) (sym (drop_all i k.names far))
      ∙ each slot inside)
  | inr outside ↦
      let test : nat_lt slot k.globals ≡ false = grind (arith, nat_tests) in
      let none : get_or slots slot None ≡ None = get_or_past slots slot None (omega (arith, len, outside)) in
      rw (test, none) refl
]
