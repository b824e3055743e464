-- What is found from a state is what is found from the state after the next path.
use Rattle.std.proofs.Common.{◌≡◌, ◌≢◌, ℕ, zero, suc, ◌<◌, ◌≤◌, Bool, true, false, List, [], ◌∷◌, ◌++◌, length, eqb}
use Rattle.std.proofs.Common.{Some, None, Ok, Err, refl, ap, ◌∙◌, arith, inl, inr}
use Rattle.std.specs.Prelude.{nat_lt, slice_set}
use Rattle.std.proofs.lemmas.Bool.Decides.{nat_tests}
use Rattle.jt_image.specs.declared.kind.Kind.TheVariants as kind
use Rattle.jt_image.specs.declared.kind.Flaw.{Flaw}
use Rattle.jt_image.specs.declared.kind.Flaw.TheVariants as flaw
use Rattle.jt_image.specs.Code.{Section, Code}
use Rattle.jt_image.specs.Effect.{Shape, Successors, effect_at}
use Rattle.jt_image.specs.Typed.{max_entries}
use Rattle.jt_verify.specs.Differing.{DifferBy}
use Rattle.jt_verify.specs.Search.{WorkItem, Table, Refused, After, shape_at, accepted, refuses}
use Rattle.jt_verify.specs.Search.{are_same, difference, sends, passes, meets, comes, arrives, explores}
use Rattle.jt_verify.specs.Working.{ClashesAt, Clashes}

-- ---- two shapes at one point

same_self : (s : Shape) → are_same s s ≡ true
same_self [] = refl
same_self (kind.Value ∷ s) = same_self s
same_self (kind.Frame ∷ s) = same_self s
same_self (kind.Capture ∷ s) = same_self s

are_equal : (s r : Shape) → are_same s r ≡ true → s ≡ r
are_equal [] [] e = refl
are_equal (kind.Value ∷ s) (kind.Value ∷ r) e = ap (λ (x : Shape). kind.Value ∷ x) (are_equal s r e)
are_equal (kind.Frame ∷ s) (kind.Frame ∷ r) e = ap (λ (x : Shape). kind.Frame ∷ x) (are_equal s r e)
are_equal (kind.Capture ∷ s) (kind.Capture ∷ r) e = ap (λ (x : Shape). kind.Capture ∷ x) (are_equal s r e)
are_equal [] (l ∷ r) e = cc
are_equal (k ∷ s) [] e = cc
are_equal (kind.Value ∷ s) (kind.Frame ∷ r) e = cc
are_equal (kind.Value ∷ s) (kind.Capture ∷ r) e = cc
are_equal (kind.Frame ∷ s) (kind.Value ∷ r) e = cc
are_equal (kind.Frame ∷ s) (kind.Capture ∷ r) e = cc
are_equal (kind.Capture ∷ s) (kind.Value ∷ r) e = cc
are_equal (kind.Capture ∷ s) (kind.Frame ∷ r) e = cc

not_same : (s r : Shape) → s ≢ r → are_same s r ≡ false
not_same s r ne = by (are_same s r) refl
  where
    by : (b : Bool) → are_same s r ≡ b → b ≡ false
    by true e = absurd (ne (are_equal s r e))
    by false e = refl

difference_self : (s : Shape) → difference s s ≡ None
difference_self s =
    let test : eqb (length s) (length s) ≡ true = grind (arith, nat_tests) in
    rw (test, same_self s) refl

difference_is : (r s : Shape) (f : Flaw) → DifferBy r s f → difference r s ≡ Some f
difference_is r s flaw.DepthDiffers d =
    let test : eqb (length r) (length s) ≡ false = grind (arith, nat_tests) in
    rw test refl
difference_is r s flaw.KindDiffers d =
    let same : length r ≡ length s = d.0 in
    let test : eqb (length r) (length s) ≡ true = grind (arith, nat_tests) in
    rw (test, not_same r s d.1) refl
difference_is r s flaw.MissingOperand d = absurd d
difference_is r s flaw.WrongKind d = absurd d
difference_is r s flaw.JumpOut d = absurd d
difference_is r s flaw.BadIndex d = absurd d
difference_is r s flaw.BadReturn d = absurd d
difference_is r s flaw.FallsOff d = absurd d
difference_is r s flaw.TooDeep d = absurd d

-- ---- the next path

fits : (s : Shape) → length s ≤ max_entries → nat_lt max_entries (length s) ≡ false
fits s small = grind (arith, nat_tests)

tall : (s : Shape) → max_entries < length s → nat_lt max_entries (length s) ≡ true
tall s big = grind (arith, nat_tests)

module _ (k : Code) (u : Section) (left : ℕ) (t : Table) (w : List WorkItem) (x : WorkItem) where
  abbrev after : After
  after t w = explores left k u t w

  one : explores (suc left) k u t (x ∷ w) ≡ arrives k u after t w x
  unfolding explores
  one = refl

  small_comes : length x.shape ≤ max_entries → arrives k u after t w x ≡ comes k u after t w x (shape_at t x.point)
  small_comes small = rw (fits x.shape small) refl

  pub explores_met : length x.shape ≤ max_entries → shape_at t x.point ≡ Some x.shape
      → explores (suc left) k u t (x ∷ w) ≡ explores left k u t w
  explores_met small is =
      one ∙ small_comes small ∙ ap (comes k u after t w x) is ∙ ap (meets after t w x) (difference_self x.shape)

  new_comes : length x.shape ≤ max_entries → shape_at t x.point ≡ None
      → explores (suc left) k u t (x ∷ w) ≡ passes after t w x (effect_at k u x.point x.shape)
  new_comes small none = one ∙ small_comes small ∙ ap (comes k u after t w x) none

  pub explores_next : (l : Successors) → length x.shape ≤ max_entries → shape_at t x.point ≡ None
      → effect_at k u x.point x.shape ≡ Ok l
      → explores (suc left) k u t (x ∷ w) ≡ explores left k u (slice_set t x.point (Some x.shape)) (sends l ++ w)
  explores_next l small none effect = new_comes small none ∙ ap (passes after t w x) effect

  pub explores_flaw : (f : Flaw) → length x.shape ≤ max_entries → shape_at t x.point ≡ None
      → effect_at k u x.point x.shape ≡ Err f
      → explores (suc left) k u t (x ∷ w) ≡ refuses (slice_set t x.point (Some x.shape)) x.point f None
  explores_flaw f small none effect = new_comes small none ∙ ap (passes after t w x) effect

  pub explores_tall : max_entries < length x.shape
      → explores (suc left) k u t (x ∷ w) ≡ refuses t x.point flaw.TooDeep None
  explores_tall big = one ∙ rw (tall x.shape big) refl

  pub explores_clash : (r : Refused) → Clashes t x r
      → explores (suc left) k u t (x ∷ w) ≡ record { shapes = t; refused = Some r }
  explores_clash r c = by (c.1)
    where
      by : ClashesAt (shape_at t x.point) x.shape r.flaw r.other
          → explores (suc left) k u t (x ∷ w) ≡ record { shapes = t; refused = Some r }
      by (inl deep) = rw (c.0, deep.0.0, deep.1) (explores_tall deep.0.1)
      by (inr (small, (known, is, differ), other)) =
          rw (c.0, other) (one ∙ small_comes small ∙ ap (comes k u after t w x) is
          ∙ ap (meets after t w x) (difference_is known x.shape r.flaw differ))

-- No path is left.
pub explores_done : (left : ℕ) (k : Code) (u : Section) (t : Table) → explores left k u t [] ≡ accepted t
unfolding explores
explores_done zero k u t = refl
explores_done (suc left) k u t = refl

-- A path whose only successor gets a shape that is too long is refused there.
pub explores_tall_next : (k : Code) (u : Section) (left : ℕ) (t : Table) (w : List WorkItem) (x : WorkItem)
    (l : Successors) (q : ℕ) → length x.shape ≤ max_entries → shape_at t x.point ≡ None
    → effect_at k u x.point x.shape ≡ Ok l → l.points ≡ q ∷ [] → max_entries < length l.shape
    → explores (suc (suc left)) k u t (x ∷ w) ≡ refuses (slice_set t x.point (Some x.shape)) q flaw.TooDeep None
explores_tall_next k u left t w x l q small none effect to big =
    let item : WorkItem = record { point = q; shape = l.shape } in
    let sent : sends l ≡ item ∷ [] = rw to refl in
    explores_next k u (suc left) t w x l small none effect
    ∙ ap (λ (v : List WorkItem). explores (suc left) k u (slice_set t x.point (Some x.shape)) (v ++ w)) sent
    ∙ explores_tall k u left (slice_set t x.point (Some x.shape)) w item big
