-- No run of an image of version 1 has a fault with a place.
use Rattle.std.proofs.Common.{◌≡◌, ℕ, zero, suc, [], Option, Some, None, refl, arith, rules}
use Rattle.jt_value.specs.Pairs.{Pairs}
use Rattle.jt_value.specs.declared.fault.Fault.{Fault}
use Rattle.jt_image.specs.declared.instruction.Instruction.{Instruction}
use Rattle.jt_image.specs.declared.version.Version.TheVariants as version
use Rattle.jt_image.specs.Code.{Section, Code}
use Rattle.jt_image.specs.IsCode.{IsCode}
use Rattle.jt_value.specs.Place.{Place}
use Rattle.jt_image.specs.Places.{place_at}
use Rattle.jt_image.specs.Config as config
use Rattle.jt_image.specs.Config.{Budget, Config}
use Rattle.jt_image.specs.Run.{Next, Ends, placed, next_at, next, start, then_goes, after, RunFrom, Run}

no_place : (k : Code) → k.places ≡ [] → (u p : ℕ) → place_at k u p ≡ None
no_place k e u p = search (arith, rules)

placed_by : (z : Option Place) (n : Next) (f : Fault) (q : Option Place) → placed z n ≡ Ends (config.fault f q) → q ≡ z
placed_by z a1 f q e = search (arith, rules)

module _ (k : Code) (bare : k.places ≡ []) (f : Fault) (q : Option Place) where
  bare_at : (o : Option (Section × Instruction)) (c : Config) → next_at k o c ≡ Ends (config.fault f q) → q ≡ None
  bare_at None c e = absurd cc
  bare_at (Some (u, i)) c e = search (arith, rules, placed_by, no_place)

  bare_then : (n : ℕ) (c : Config) (x : Next) → next k c ≡ x → then_goes x (after k n) ≡ Ends (config.fault f q)
      → ((d : Config) → after k n d ≡ Ends (config.fault f q) → q ≡ None) → q ≡ None
  bare_then n c a2 is e h = search (arith, rules, bare_at)

  bare_after : (n : ℕ) (c : Config) → after k n c ≡ Ends (config.fault f q) → q ≡ None
  bare_after zero c e = absurd cc
  bare_after (suc n) c e = bare_then n c (next k c) refl e (λ d e'. bare_after n d e')

  bare_from : (p : Option config.Limit) (x : Pairs) (b : Budget) → RunFrom p k x b (config.fault f q) → q ≡ None
  bare_from (Some l) x b r = absurd cc
  bare_from None x b r = bare_after r.0 (start k x b) r.1

pub no_places : (k : Code) → IsCode k → k.version ≡ version.One
    → (x : Pairs) (b : Budget) (f : Fault) (q : Option Place) → Run k x b (config.fault f q) → q ≡ None
no_places k h one x b f q r = search (arith, rules, bare_from)
