-- A typed code has no flaw that a refusal states.
use Rattle.std.proofs.Common.{◌≡◌, ℕ, List, [], ◌∷◌, ◌++◌, length, Option, Some, None, Result, Ok, Err, refl, sym}
use Rattle.std.proofs.Common.{subst, ◌∙◌, ap, arith, inl, inr, rules}
use Rattle.std.specs.Prelude.{slice_get, option_map}
use Rattle.jt_verify.specs.Findings.{OutcomeHolds}
use Rattle.std.specs.List.{AllByRecursion}
use Rattle.jt_image.specs.declared.kind.Flaw.{Flaw}
use Rattle.jt_image.specs.declared.kind.Flaw.TheVariants as flaw
use Rattle.jt_image.specs.declared.instruction.Instruction.{Instruction}
use Rattle.jt_image.specs.Code.{Section, Code}
use Rattle.jt_image.specs.Effect.{Shape, Successors, effect_of, effect_at}
use Rattle.jt_image.specs.Typed.{Shapes, Reaches, at_start, along, IsTypedBy, IsTypedUnit, IsTyped, Equal, HasSame}
use Rattle.jt_image.specs.Typed.{Among}
use Rattle.jt_verify.specs.Differing.{DifferBy}
use Rattle.jt_verify.specs.Refusing.{HasClash, HasFlaw, HoldsAt, RefusalHolds}
use Rattle.jt_verify.specs.Typing.{IsTall}
use Rattle.jt_verify.specs.Search.{WorkItem, Table, Refused, shape_at}
use Rattle.jt_verify.specs.Working.{unit_of, ClashesAt, Clashes, StepFlaw, Comes, IsWorking, RefusesUnit}
use Rattle.jt_verify.specs.declared.refusal.Refusal.{Refusal}
use Rattle.jt_verify.specs.declared.refusal.Refusal.TheVariants as refusal
use Rattle.jt_verify.proofs.ShapeTables.{all_among, paths_last}

-- ---- refusals hold

module _ (k : Code) (u : Section) (q : ℕ) (s : Shape) (reached : Reaches k u q s) where
  clash_at : (o : Option Shape) (f : Flaw) (other : Option Shape) → ((r : Shape) → o ≡ Some r → Reaches k u q r)
      → ClashesAt o s f other → HasClash k u q f
  clash_at o f other known (inl deep) = inl (s, reached, deep.0)
  clash_at o f other known (inr c) = inr (c.1.0, s, known c.1.0 c.1.1, reached, c.1.2)

pub clash_refuses : (k : Code) (u : Section) (t : Table) (w : List WorkItem) (x : WorkItem) (r : Refused)
    → IsWorking k u t (w ++ x ∷ []) → Clashes t x r → HoldsAt k u r.point r.flaw
clash_refuses k u t w x r i c =
    let comes = (paths_last (Comes k u) w x i.coming).0 in
    rw c.0 (inr (clash_at k u x.point x.shape comes.1 (shape_at t x.point) r.flaw r.other
    (λ s found. i.reached x.point s found) c.1))

-- An effect that leads to a point with too many entries brings them to that point.
tall_clash : (k : Code) (u : Section) (x : WorkItem) (q : ℕ) (o : Result Successors Flaw) → Reaches k u x.point x.shape
    → effect_at k u x.point x.shape ≡ o → IsTall q o → HasClash k u q flaw.TooDeep
tall_clash k u x q (Ok l) reached e h =
    let among : Among q l.points = subst (λ (ps : List ℕ). Among q ps) (sym h.0) (inl refl) in
    inl (l.shape, along x.point x.shape l q reached e among, (refl, h.1))
tall_clash k u x q (Err f) reached e h = absurd h

step_holds : (k : Code) (u : Section) (x : WorkItem) (f : Flaw) (q : ℕ) → Reaches k u x.point x.shape
    → StepFlaw k u x.point x.shape f q → HoldsAt k u q f
step_holds k u x f q reached a6 = search (arith, rules, tall_clash)

pub step_refuses : (k : Code) (u : Section) (t : Table) (w : List WorkItem) (x : WorkItem) (f : Flaw) (q : ℕ)
    → IsWorking k u t (w ++ x ∷ []) → StepFlaw k u x.point x.shape f q → HoldsAt k u q f
step_refuses k u t w x f q i h = step_holds k u x f q (paths_last (Comes k u) w x i.coming).0.1 h

pub empty_refuses : (k : Code) (u : Section) → length u.code ≡ 0 → HoldsAt k u 0 flaw.FallsOff
empty_refuses k u e = inl ([], at_start, falls u.code e)
  where
    falls : (c : List Instruction) → length c ≡ 0 → effect_of k u 0 (slice_get c 0) [] ≡ Err flaw.FallsOff
    falls [] e = refl
    falls (i ∷ c) e = absurd (omega arith)

pub unit_refused : (k : Code) (n : ℕ) (r : Refusal) → slice_get k.units n ≡ Some (unit_of k n)
    → RefusesUnit k (unit_of k n) n r → RefusalHolds k r
unit_refused k n a2 is h = search (arith, rules)

-- ---- the shapes of paths are those of any typing

-- Equal shapes do not differ.
same_differ : (s t : Shape) (f : Flaw) → s ≡ t → DifferBy s t f → ⊥
same_differ s t a2 e d = search (arith, rules)

module _ (k : Code) (u : Section) (shapes : Shapes) (h : IsTypedBy Equal k u shapes) where
  pub agrees : (p : ℕ) (s : Shape) → Reaches k u p s → shapes p ≡ Some s
  agrees _ _ at_start = h.start
  agrees _ _ (along p r leads q before e a) =
      let f = h.fine p r (agrees p r before) in
      let both : ◌≡◌ {A = Result Successors Flaw} (Ok f.leads) (Ok leads) = sym f.effect ∙ e in
      let same : f.leads ≡ leads = cc in
      let has = all_among (HasSame Equal shapes leads.shape) leads.points q
      (subst (λ (l : Successors). AllByRecursion (HasSame Equal shapes l.shape) l.points) same f.agree) a in
      subst (λ (y : Shape). shapes q ≡ Some y) has.2 has.1

  clash_untyped : (p : ℕ) (f : Flaw) → HasClash k u p f → ⊥
  clash_untyped p f a2 = search (arith, rules, agrees, same_differ)

  flaw_untyped : (p : ℕ) (f : Flaw) → HasFlaw k u p f → ⊥
  flaw_untyped p f c =
      let g = h.fine p c.0 (agrees p c.0 c.1) in
      let e : ◌≡◌ {A = Result Successors Flaw} (Err f) (Ok g.leads) = sym c.2 ∙ g.effect in cc

untyped : (k : Code) (u : Section) (p : ℕ) (f : Flaw) → HoldsAt k u p f → IsTypedUnit Equal k u → ⊥
untyped k u p f (inl c) (shapes, h) = flaw_untyped k u shapes h p f c
untyped k u p f (inr c) (shapes, h) = clash_untyped k u shapes h p f c

pub exact : (k : Code) (r : Refusal) → RefusalHolds k r → IsTyped k → r ≡ refusal.NoMemory
exact k refusal.NoMemory h t = refl
exact k (refusal.Flaw f n p) h t = absurd (untyped k h.0 p f h.2 (t n h.0 h.1))

-- ---- the outcome of a unit

-- The point and the flaw of a refusal.
abbrev pub facts : Option Refused → Option (ℕ × Flaw)
facts o = option_map (λ r. (r.point, r.flaw)) o

pub unit_typed : (k : Code) (u : Section) (t : Table) (o : Option Refused) → OutcomeHolds k u t o → None ≡ facts o
    → IsTypedUnit Equal k u
unit_typed k u t None h e = (shape_at t, h.0)
unit_typed k u t (Some r) h e = cc

pub outcome_refuses : (k : Code) (u : Section) (t : Table) (o : Option Refused) (p : ℕ) (f : Flaw)
    → OutcomeHolds k u t o → Some (p, f) ≡ facts o → HoldsAt k u p f
outcome_refuses k u t None p f h e = cc
outcome_refuses k u t (Some r) p f h e =
    let both : ◌≡◌ {A = ℕ × Flaw} (p, f) (r.point, r.flaw) = cc in
    let point : r.point ≡ p = sym (ap (λ (x : ℕ × Flaw). x.0) both) in
    let flaw : r.flaw ≡ f = sym (ap (λ (x : ℕ × Flaw). x.1) both) in
    subst (λ (x : Flaw). HoldsAt k u p x) flaw (subst (λ (n : ℕ). HoldsAt k u n r.flaw) point h)
