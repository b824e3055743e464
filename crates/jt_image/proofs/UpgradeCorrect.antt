-- An upgraded image has the spelling of version 2, and the runs of the old image.
use Rattle.std.proofs.Common.{◌≡◌, ℕ, zero, suc, ◌+◌, ◌*◌, ◌≤◌, List, [], ◌++◌, length, drop, replicate}
use Rattle.std.proofs.Common.{Option, Some, None, refl, sym, ap, ◌∙◌, arith, append_assoc, rules}
use Rattle.std.specs.Prelude.{slice_get}
use Rattle.std.specs.Option.{option_and_then}
use Rattle.std.specs.Int.{w16, to_le_bytes}
use Rattle.std.specs.List.{flat_map, AllByRecursion}
use Rattle.std.proofs.lemmas.List.{append-nil, length-append}
use Rattle.std.proofs.lemmas.List.Concat.{flat_map-cons}
use Rattle.jt_value.specs.Pairs.{Pairs}
use Rattle.jt_image.specs.declared.instruction.Instruction.{Instruction}
use Rattle.jt_image.specs.declared.version.Version.{Version}
use Rattle.jt_image.specs.declared.version.Version.TheVariants as version
use Rattle.jt_image.specs.Code.{Section, SourceLoc, Code}
use Rattle.jt_image.specs.Spelling.{magic, name_bytes, constant_bytes, header_bytes, loc_bytes, place_bytes, spelling}
use Rattle.jt_image.specs.IsCode.{total_len, IsSourceLoc, IsCode, max_bytes}
use Rattle.jt_image.specs.Places.{place_of, place_at}
use Rattle.jt_image.specs.Upgrading.{unplaced}
use Rattle.jt_image.specs.Config as config
use Rattle.jt_image.specs.Config.{Budget, Outcome, MachineState, Config}
use Rattle.jt_image.specs.Step.{action, in_tables, strict, fetch}
use Rattle.jt_image.specs.Run.{Next, next_at, next, passed, start, then_goes, after, RunFrom, Run}
use Rattle.jt_image.proofs.AssembleCorrect.{spelled_len}
use Rattle.jt_image.proofs.DecodeSound.{code_bytes}

abbrev pub no_loc : SourceLoc
no_loc = record { template = 0; line = 0 }

-- ---- the spelling

zeros : (n : ℕ) → replicate (6 * n) 0 ≡ flat_map loc_bytes (replicate n no_loc)
zeros zero = refl
zeros (suc n) =
    let six : 6 * suc n ≡ suc (suc (suc (suc (suc (suc (6 * n)))))) = omega arith in
    ap (λ (m : ℕ). replicate m 0) six ∙ ap (λ (b : List ℕ). loc_bytes no_loc ++ b) (zeros n)
    ∙ sym (flat_map-cons loc_bytes no_loc (replicate n no_loc))

abbrev behind : Code → List ℕ
behind k = to_le_bytes w16 k.globals
    ++ (to_le_bytes w16 (length k.names) ++ (flat_map name_bytes k.names
    ++ (to_le_bytes w16 (length k.constants) ++ (flat_map constant_bytes k.constants
    ++ (to_le_bytes w16 (length k.units) ++ (flat_map header_bytes k.units ++ flat_map code_bytes k.units))))))

regroup : (g ln fn lc fc lu fh fu z : List ℕ)
    → (g ++ (ln ++ (fn ++ (lc ++ (fc ++ (lu ++ (fh ++ fu))))))) ++ z
    ≡ g ++ (ln ++ (fn ++ (lc ++ (fc ++ (lu ++ (fh ++ (fu ++ z)))))))
regroup g ln fn lc fc lu fh fu z = simp append_assoc

grouped : (k : Code) (z : List ℕ) → behind k ++ z ≡ to_le_bytes w16 k.globals
    ++ (to_le_bytes w16 (length k.names) ++ (flat_map name_bytes k.names
    ++ (to_le_bytes w16 (length k.constants) ++ (flat_map constant_bytes k.constants
    ++ (to_le_bytes w16 (length k.units) ++ (flat_map header_bytes k.units ++ (flat_map code_bytes k.units ++ z)))))))
grouped k z = search (arith, rules, regroup, code_bytes)

none_behind : (k : Code) → k.version ≡ version.One → place_bytes k.version k.templates k.places ≡ []
none_behind k e = ap (λ (v : Version). place_bytes v k.templates k.places) e

-- After the magic number and the version, version 1 has exactly these bytes.
pub behind_start : (k : Code) → k.version ≡ version.One → drop 6 (spelling k) ≡ behind k
behind_start k e = search (arith, rules, grouped, none_behind, append-nil)

-- The places follow all that follows the version.
pub tail_spelled : (k : Code) → k.version ≡ version.One
    → drop 6 (spelling (unplaced k))
    ≡ drop 6 (spelling k) ++ place_bytes version.Two [] (replicate (total_len k.units) no_loc)
tail_spelled k e =
    let z = place_bytes version.Two [] (replicate (total_len k.units) no_loc) in
    sym (ap (λ (b : List ℕ). b ++ z) (behind_start k e) ∙ grouped k z)

pub unplaced_spelled : (k : Code) → k.version ≡ version.One
    → magic ++ (to_le_bytes w16 2 ++ (drop 6 (spelling k) ++ replicate (2 + 6 * total_len k.units) 0))
    ≡ spelling (unplaced k)
unplaced_spelled k e = search (arith, rules, behind_start, zeros, grouped)

length_zeros : (n : ℕ) → length (flat_map loc_bytes (replicate n no_loc)) ≡ 6 * n
length_zeros zero = omega arith
length_zeros (suc n) = search (arith, rules, flat_map-cons, length-append, length_zeros n)

pub unplaced_len : (k : Code) → k.version ≡ version.One
    → length (spelling (unplaced k)) ≡ length (spelling k) + (2 + 6 * total_len k.units)
unplaced_len k e =
    let behind : length (place_bytes version.Two [] (replicate (total_len k.units) no_loc))
    ≡ suc (suc (length (flat_map loc_bytes (replicate (total_len k.units) no_loc)))) = refl in
    omega (
      arith,
      spelled_len k,
      spelled_len (unplaced k),
      ap length (none_behind k e),
      behind,
      length_zeros (total_len k.units),
    )

-- ---- it is a code

pub locs_fit : (n : ℕ) → AllByRecursion (IsSourceLoc 0) (replicate n no_loc)
locs_fit zero = tt
locs_fit (suc n) = (record { template = omega arith; line = refl }, locs_fit n)

pub length_replicate : (n : ℕ) → length (replicate n no_loc) ≡ n
length_replicate zero = refl
length_replicate (suc n) = ap suc (length_replicate n)

pub is_unplaced : (k : Code) → IsCode k → length (spelling (unplaced k)) ≤ max_bytes → IsCode (unplaced k)
is_unplaced k h le = search (arith, rules, locs_fit, length_replicate)

-- ---- the runs

no_place : (n i : ℕ) → option_and_then (place_of []) (slice_get (replicate n no_loc) i) ≡ None
no_place zero i = refl
no_place (suc n) zero = refl
no_place (suc n) (suc i) = no_place n i

module _ (k : Code) (bare : k.places ≡ []) where
  same_place : (u p : ℕ) → place_at (unplaced k) u p ≡ place_at k u p
  same_place u p = search (arith, rules, no_place)

  same_action : (u : Section) (i : Instruction) (m : MachineState) → action (unplaced k) u i m ≡ action k u i m
  same_action u a1 m = search (arith, rules)

  same_tables : (i : Instruction) (s : config.State) → in_tables (unplaced k) i s ≡ in_tables k i s
  same_tables a0 s = search (arith, rules)

  same_strict : (u : Section) (i : Instruction) (m : MachineState) → strict (unplaced k) u i m ≡ strict k u i m
  same_strict u i m = search (arith, rules, same_tables, same_action)

  same_at : (q : Option (Section × Instruction)) (c : Config) → next_at (unplaced k) q c ≡ next_at k q c
  same_at a0 c = search (arith, rules, same_place, same_strict)

  same_next : (c : Config) → next (unplaced k) c ≡ next k c
  same_next c = same_at (fetch k c.machine.unit c.machine.point) c

  then_same : (n : ℕ) (x : Next) → ((c : Config) → after (unplaced k) n c ≡ after k n c)
      → then_goes x (after (unplaced k) n) ≡ then_goes x (after k n)
  then_same n a1 h = search (arith, rules)

  same_after : (n : ℕ) (c : Config) → after (unplaced k) n c ≡ after k n c
  same_after zero c = refl
  same_after (suc n) c =
      ap (λ x. then_goes x (after (unplaced k) n)) (same_next c) ∙ then_same n (next k c) (λ d. same_after n d)

  same_from : (p : Option config.Limit) (x : Pairs) (b : Budget) (o : Outcome) → RunFrom p k x b o
      → RunFrom p (unplaced k) x b o
  same_from (Some l) x b o r = r
  same_from None x b o r = (r.0, same_after r.0 (start k x b) ∙ r.1)

  pub same_run : (x : Pairs) (b : Budget) (o : Outcome) → Run k x b o → Run (unplaced k) x b o
  same_run x b o r = same_from (passed b x k.names) x b o r

pub put_together : (out m v d z one two three four : List ℕ) → one ≡ out ++ m → two ≡ one ++ v → three ≡ two ++ d
    → four ≡ three ++ z → four ≡ out ++ (m ++ (v ++ (d ++ z)))
put_together out m v d z one two three four e1 e2 e3 e4 = rw (e4, e3, e2, e1) (simp append_assoc)
