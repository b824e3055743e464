-- The state of a unit's verification stays valid, by the ids of its shapes.
use Rattle.std.proofs.Common.{◌≡◌, ℕ, zero, suc, ◌+◌, ◌*◌, ◌<◌, ◌≤◌, List, [], ◌∷◌, ◌++◌, length, map, replicate}
use Rattle.std.proofs.Common.{Option, Some, None, Result, Ok, Err, inl, inr, refl, sym, ap, subst, ◌∙◌, arith, rules}
use Rattle.std.specs.Prelude.{slice_set, option_map, reverse}
use Rattle.std.specs.List.{AllByRecursion}
use Rattle.std.proofs.lemmas.List.{map-append, map-set, length-append, length-map, reverse-append}
use Rattle.jt_image.specs.Code.{Section, Code}
use Rattle.jt_image.specs.Effect.{Shape, pushes, effect_at}
use Rattle.jt_image.specs.declared.kind.Flaw.{Flaw}
use Rattle.jt_image.specs.Typed.{Reaches, IsTypedBy, Equal, max_entries}
use Rattle.jt_verify.specs.declared.nodes.ShapeId.{ShapeId}
use Rattle.jt_verify.specs.declared.effect.Successors.{Successors}
use Rattle.jt_verify.specs.declared.verifier.WorkItem.{WorkItem as Waiting}
use Rattle.jt_verify.specs.Arena.{Lists, shape_in, IsIn, IsKept}
use Rattle.jt_verify.specs.Typing.{as_list, points_of, AreWithin, IsTall}
use Rattle.jt_verify.specs.Refusing.{HoldsAt}
use Rattle.jt_verify.specs.Findings.{FoundHolds}
use Rattle.jt_verify.specs.declared.halt.Refused.{Refused as Halted}
use Rattle.jt_image.specs.declared.kind.Flaw.TheVariants as flaw
use Rattle.jt_image.specs.Effect as effects
use Rattle.jt_verify.specs.Search.{WorkItem, Table, Refused, Found, shape_at, refuses, sends, explores, unit_found}
use Rattle.jt_verify.specs.Working.{unknown, work_left, IsWorking, Clashes, StepFlaw, sent, path_in}
use Rattle.jt_verify.specs.Working.{paths_in, table_in}
use Rattle.jt_verify.specs.Working.{IsInPath, IsInIf, Works, Steps, HaltsIn, EndsIn, handles_sent}
use Rattle.jt_verify.specs.Working.{IsRefusedWith}
use Rattle.jt_verify.specs.Working.{refused_in, found_in}
use Rattle.jt_verify.specs.declared.halt.Halt.{Halt}
use Rattle.jt_verify.specs.declared.halt.Halt.TheVariants as halt
use Rattle.jt_verify.proofs.ShapeTables.{paths_last, paths_append}
use Rattle.jt_verify.proofs.WorklistInvariant.{met, stepped, less_if_met, less_if_stepped, in_table, starts, no_paths}
use Rattle.jt_verify.proofs.WorklistInvariant.{reached_set}
use Rattle.jt_verify.proofs.RefusalsSound.{clash_refuses, step_refuses, empty_refuses, agrees}
use Rattle.jt_image.specs.declared.instruction.Instruction.{Instruction}
use Rattle.jt_verify.proofs.PathsExplored.{explores_met, explores_next, explores_flaw, explores_clash, explores_done}
use Rattle.jt_verify.proofs.PathsExplored.{explores_tall_next}

-- ---- an arena that grows

abbrev at_point : ℕ → Shape → WorkItem
at_point p s = record { point = p; shape = s }

module _ (t r : Lists) (k : IsKept t r) where
  shape_kept : (h : ShapeId) → IsIn t h → shape_in r h ≡ shape_in t h
  shape_kept h l = ap (λ (s : Shape). pushes h.values s) (k.same h.node l)

  in_kept : (h : ShapeId) → IsIn t h → IsIn r h
  in_kept h l = omega (arith, k.more, l)

  table_kept : (hs : List (Option ShapeId)) → AllByRecursion (IsInIf t) hs → table_in r hs ≡ table_in t hs
  table_kept [] a = refl
  table_kept (None ∷ hs) a = ap (λ (x : Table). None ∷ x) (table_kept hs a.1)
  table_kept (Some h ∷ hs) a =
      ap (λ (s : Shape). Some s ∷ table_in r hs) (shape_kept h a.0)
      ∙ ap (λ (x : Table). Some (shape_in t h) ∷ x) (table_kept hs a.1)

  all_kept : (hs : List (Option ShapeId)) → AllByRecursion (IsInIf t) hs → AllByRecursion (IsInIf r) hs
  all_kept [] a = tt
  all_kept (None ∷ hs) a = (tt, all_kept hs a.1)
  all_kept (Some h ∷ hs) a = (in_kept h a.0, all_kept hs a.1)

  paths_kept : (w : List Waiting) → AllByRecursion (IsInPath t) w → paths_in r w ≡ paths_in t w
  paths_kept [] a = refl
  paths_kept (x ∷ w) a =
      ap (λ (s : Shape). at_point x.point s ∷ paths_in r w) (shape_kept x.shape a.0)
      ∙ ap (λ (v : List WorkItem). path_in t x ∷ v) (paths_kept w a.1)

  waiting_kept : (w : List Waiting) → AllByRecursion (IsInPath t) w → AllByRecursion (IsInPath r) w
  waiting_kept [] a = tt
  waiting_kept (x ∷ w) a = (in_kept x.shape a.0, waiting_kept w a.1)

-- ---- tables and paths by shape ids

all_set : (t : Lists) (hs : List (Option ShapeId)) (p : ℕ) (h : ShapeId) → AllByRecursion (IsInIf t) hs → IsIn t h
    → AllByRecursion (IsInIf t) (slice_set hs p (Some h))
all_set t (x ∷ hs) (suc p) h a l = (a.0, all_set t hs p h a.1 l)
all_set t a1 a2 h a l = search (arith, rules)

abbrev to_each : ShapeId → List ℕ → List Waiting
to_each h ps = map (λ p. record { point = p; shape = h }) ps

abbrev shapes_to_each : Shape → List ℕ → List WorkItem
shapes_to_each s ps = map (λ p. record { point = p; shape = s }) ps

sent_in : (t : Lists) (h : ShapeId) (ps : List ℕ) → paths_in t (to_each h ps) ≡ shapes_to_each (shape_in t h) ps
sent_in t h [] = refl
sent_in t h (p ∷ ps) = ap (λ (v : List WorkItem). at_point p (shape_in t h) ∷ v) (sent_in t h ps)

all_sent : (t : Lists) (h : ShapeId) (ps : List ℕ) → IsIn t h → AllByRecursion (IsInPath t) (to_each h ps)
all_sent t h [] l = tt
all_sent t h (p ∷ ps) l = (l, all_sent t h ps l)

paths_push : (t : Lists) (w : List Waiting) (x : Waiting) → paths_in t (w ++ x ∷ []) ≡ paths_in t w ++ path_in t x ∷ []
paths_push t w x = map-append (path_in t) w (x ∷ [])

-- ---- a path that is followed

module _ {k : Code} {u : Section} {t : Lists} {hs : List (Option ShapeId)} (w : List Waiting) (x : Waiting)
    (i : Works k u t hs (w ++ x ∷ [])) where
  working : IsWorking k u (table_in t hs) (paths_in t w ++ path_in t x ∷ [])
  working = subst (λ (v : List WorkItem). IsWorking k u (table_in t hs) v) (paths_push t w x) i.working

  pub path_inside : IsIn t x.shape
  path_inside = (paths_last (IsInPath t) w x i.worklist).0

  pub path_within : x.point < length hs
  path_within =
      omega (
        arith,
        in_table k u (table_in t hs) (paths_in t w) (path_in t x) working,
        length-map hs (option_map (shape_in t)),
      )

  pub path_in_code : x.point < length u.code
  path_in_code = omega (arith, in_table k u (table_in t hs) (paths_in t w) (path_in t x) working, working.len)

  pub clash_holds : (r : Refused) → Clashes (table_in t hs) (path_in t x) r → HoldsAt k u r.point r.flaw
  clash_holds r c = clash_refuses k u (table_in t hs) (paths_in t w) (path_in t x) r working c

  pub step_flaw_holds : (f : Flaw) (q : ℕ) → StepFlaw k u x.point (shape_in t x.shape) f q → HoldsAt k u q f
  step_flaw_holds f q c = step_refuses k u (table_in t hs) (paths_in t w) (path_in t x) f q working c

  -- The next path comes first.
  next : reverse (paths_in t (w ++ x ∷ [])) ≡ path_in t x ∷ reverse (paths_in t w)
  next = ap reverse (paths_push t w x) ∙ reverse-append (paths_in t w) (path_in t x ∷ [])

  abbrev found_before : ℕ → Found
  found_before left = explores left k u (table_in t hs) (reverse (paths_in t (w ++ x ∷ [])))

  pub same_met : shape_at (table_in t hs) x.point ≡ Some (shape_in t x.shape) → (left : ℕ)
      → found_before (suc left) ≡ explores left k u (table_in t hs) (reverse (paths_in t w))
  same_met is left =
      ap (λ (v : List WorkItem). explores (suc left) k u (table_in t hs) v) next
      ∙ explores_met k u left (table_in t hs) (reverse (paths_in t w)) (path_in t x)
      (working.small x.point (shape_in t x.shape) is) is

  pub same_clash : (r : Refused) → Clashes (table_in t hs) (path_in t x) r → (left : ℕ)
      → found_before (suc left) ≡ record { shapes = table_in t hs; refused = Some r }
  same_clash r c left =
      ap (λ (v : List WorkItem). explores (suc left) k u (table_in t hs) v) next
      ∙ explores_clash k u left (table_in t hs) (reverse (paths_in t w)) (path_in t x) r c

  pub holds_clash : (r : Halted) → Clashes (table_in t hs) (path_in t x) (refused_in t r)
      → FoundHolds k u (found_in t hs (Some r))
  holds_clash r c = record { reached = working.reached; outcome = clash_holds (refused_in t r) c }

  pub works_met : shape_at (table_in t hs) x.point ≡ Some (shape_in t x.shape) → Works k u t hs w
  works_met e = record {
    table = i.table;
    worklist = (paths_last (IsInPath t) w x i.worklist).1;
    working = met k u (table_in t hs) (paths_in t w) (path_in t x) e working;
  }

  pub less_met : work_left (table_in t hs) (paths_in t w) < work_left (table_in t hs) (paths_in t (w ++ x ∷ []))
  less_met =
      subst (λ (v : List WorkItem). work_left (table_in t hs) (paths_in t w) < work_left (table_in t hs) v)
      (sym (paths_push t w x)) (less_if_met (table_in t hs) (paths_in t w) (path_in t x))

  module _ {r : Lists} (kept : IsKept t r) (none : shape_at (table_in t hs) x.point ≡ None) where
    in_table_before : x.point < length (table_in t hs)
    in_table_before = omega (arith, path_within, length-map hs (option_map (shape_in t)))

    tables : table_in r (slice_set hs x.point (Some x.shape))
        ≡ slice_set (table_in t hs) x.point (Some (shape_in t x.shape))
    tables =
        map-set (option_map (shape_in r)) hs x.point (Some x.shape)
        ∙ ap (λ (y : Table). slice_set y x.point (Some (shape_in r x.shape))) (table_kept t r kept hs i.table)
        ∙ ap (λ (s : Shape). slice_set (table_in t hs) x.point (Some s)) (shape_kept t r kept x.shape path_inside)

    pub all_set_there : AllByRecursion (IsInIf r) (slice_set hs x.point (Some x.shape))
    all_set_there =
        all_set r hs x.point x.shape (all_kept t r kept hs i.table) (in_kept t r kept x.shape path_inside)

    pub holds_step : (e : Halted) → StepFlaw k u x.point (shape_in t x.shape) e.flaw e.point
        → FoundHolds k u (found_in r (slice_set hs x.point (Some x.shape)) (Some e))
    holds_step e c = record {
      reached =
          subst (λ (y : Table). (p : ℕ) (s : Shape) → shape_at y p ≡ Some s → Reaches k u p s) (sym tables)
          (reached_set k u (table_in t hs) (paths_in t w) (path_in t x) (record { next = None; target = None }) []
          in_table_before none working);
      outcome = step_flaw_holds e.flaw e.point c;
    }

    -- An instruction with a flaw, or with a shape that is too long for its successor.
    pub same_flaw : (e : Halted) → e.other ≡ None → length (shape_in t x.shape) ≤ max_entries
        → StepFlaw k u x.point (shape_in t x.shape) e.flaw e.point → (left : ℕ)
        → found_before (suc (suc left)) ≡ found_in r (slice_set hs x.point (Some x.shape)) (Some e)
    same_flaw e other small (inl c) left =
        rw (other, c.0, tables) (ap (λ (v : List WorkItem). explores (suc (suc left)) k u (table_in t hs) v) next
        ∙ explores_flaw k u (suc left) (table_in t hs) (reverse (paths_in t w)) (path_in t x) e.flaw small none c.1)
    same_flaw e other small (inr c) left =
        rw (other, c.0, tables) (ap (λ (v : List WorkItem). explores (suc (suc left)) k u (table_in t hs) v) next
        ∙ goes_too_far (effect_at k u x.point (shape_in t x.shape)) refl c.1)
      where
        goes_too_far : (o : Result effects.Successors Flaw) → effect_at k u x.point (shape_in t x.shape) ≡ o
            → IsTall e.point o
            → explores (suc (suc left)) k u (table_in t hs) (path_in t x ∷ reverse (paths_in t w))
            ≡ refuses (slice_set (table_in t hs) x.point (Some (shape_in t x.shape))) e.point flaw.TooDeep None
        goes_too_far (Ok l) is far =
            explores_tall_next k u left (table_in t hs) (reverse (paths_in t w)) (path_in t x) l e.point small none is
            far.0 far.1
        goes_too_far (Err f) is far = absurd far

    pub halts_step : (h : Halt) → Steps r k u x.point (shape_in t x.shape) (Err h)
        → HaltsIn k u r (slice_set hs x.point (Some x.shape)) h
    halts_step (halt.Refused e) s = record {
      inside = (all_set_there, subst (λ (o : Option ShapeId). IsInIf r o) (sym s.0) tt);
      holds = holds_step e s.1;
    }
    halts_step halt.NoMemory s = tt

    pub ends_step : (h : Halt) → length (shape_in t x.shape) ≤ max_entries
        → Steps r k u x.point (shape_in t x.shape) (Err h)
        → EndsIn found_before r (slice_set hs x.point (Some x.shape)) h
    ends_step (halt.Refused e) small s = same_flaw e s.0 small s.1
    ends_step halt.NoMemory small s = tt

  module _ {r : Lists} (kept : IsKept t r) (l : Successors) (h : ShapeId) (inside : IsIn r h)
      (none : shape_at (table_in t hs) x.point ≡ None) where
    worklist : paths_in r (w ++ handles_sent l h) ≡ paths_in t w ++ sent l (shape_in r h)
    worklist = search (arith, rules, map-append, paths_kept, paths_last, sent_in)

    pub works_stepped : length (shape_in t x.shape) ≤ max_entries
        → effect_at k u x.point (shape_in t x.shape) ≡ Ok (record { shape = shape_in r h; points = points_of l })
        → AreWithin (length u.code) l → Works k u r (slice_set hs x.point (Some x.shape)) (w ++ handles_sent l h)
    works_stepped small effect within = record {
      table = all_set_there kept none;
      worklist =
          paths_append (IsInPath r) w (handles_sent l h)
          (waiting_kept t r kept w (paths_last (IsInPath t) w x i.worklist).1)
          (all_sent r h (as_list l.target ++ as_list l.next) inside);
      working =
          let done = stepped k u (table_in t hs) (paths_in t w) (path_in t x) l (shape_in r h)
          (omega (arith, path_within, length-map hs (option_map (shape_in t)))) none working small effect within in
          subst (λ (y : Table). IsWorking k u y (paths_in r (w ++ handles_sent l h))) (sym (tables kept none))
          (subst
          (λ (v : List WorkItem). IsWorking k u (slice_set (table_in t hs) x.point (Some (shape_in t x.shape))) v)
          (sym worklist) done);
    }

    pub less_stepped : work_left (table_in r (slice_set hs x.point (Some x.shape))) (paths_in r (w ++ handles_sent l h))
        < work_left (table_in t hs) (paths_in t (w ++ x ∷ []))
    less_stepped =
        let less = less_if_stepped (table_in t hs) (paths_in t w) (path_in t x) l (shape_in r h)
        (omega (arith, path_within, length-map hs (option_map (shape_in t)))) none in
        omega (
          arith,
          less,
          ap (λ (y : Table). work_left y (paths_in r (w ++ handles_sent l h))) (tables kept none),
          ap (λ (v : List WorkItem). work_left (slice_set (table_in t hs) x.point (Some (shape_in t x.shape))) v)
              worklist,
          ap (λ (v : List WorkItem). work_left (table_in t hs) v) (paths_push t w x),
        )

    sent_reversed : reverse (sent l (shape_in r h)) ≡ sends (record { shape = shape_in r h; points = points_of l })
    sent_reversed = by l.next l.target
      where
        by : (a b : Option ℕ)
            → reverse (shapes_to_each (shape_in r h) (as_list b ++ as_list a))
            ≡ shapes_to_each (shape_in r h) (as_list a ++ as_list b)
        by None None = refl
        by None (Some q) = refl
        by (Some p) None = refl
        by (Some p) (Some q) = refl

    pub same_stepped : length (shape_in t x.shape) ≤ max_entries
        → effect_at k u x.point (shape_in t x.shape) ≡ Ok (record { shape = shape_in r h; points = points_of l })
        → (left : ℕ)
        → found_before (suc left)
        ≡ explores left k u (table_in r (slice_set hs x.point (Some x.shape)))
        (reverse (paths_in r (w ++ handles_sent l h)))
    same_stepped small effect left =
        let stack : reverse (paths_in r (w ++ handles_sent l h))
        ≡ sends (record { shape = shape_in r h; points = points_of l }) ++ reverse (paths_in t w) =
        ap reverse worklist ∙ reverse-append (paths_in t w) (sent l (shape_in r h))
        ∙ ap (λ (v : List WorkItem). v ++ reverse (paths_in t w)) sent_reversed in
        rw (tables kept none, stack)
        (ap (λ (v : List WorkItem). explores (suc left) k u (table_in t hs) v) next
        ∙ explores_next k u left (table_in t hs) (reverse (paths_in t w)) (path_in t x)
        (record { shape = shape_in r h; points = points_of l }) small none effect)

-- ---- the first table, and the last

none_in : (t : Lists) (n : ℕ) → table_in t (replicate n None) ≡ replicate n None
none_in t zero = refl
none_in t (suc n) = ap (λ (x : Table). None ∷ x) (none_in t n)

all_none : (t : Lists) (n : ℕ) → AllByRecursion (IsInIf t) (replicate n None)
all_none t zero = tt
all_none t (suc n) = (tt, all_none t n)

pub works_at_start : (k : Code) (u : Section) (n : ℕ) → n ≡ length u.code → 0 < n
    → Works k u ([] ∷ []) (replicate n None) (record { point = 0; shape = record { values = 0; node = 0 } } ∷ [])
works_at_start k u n is some = record {
  table = all_none ([] ∷ []) n;
  worklist = (omega arith, tt);
  working =
      subst (λ (y : Table). IsWorking k u y (record { point = 0; shape = [] } ∷ [])) (sym (none_in ([] ∷ []) n))
      (starts k u n is some);
}

pub works_done : (k : Code) (u : Section) (t : Lists) (hs : List (Option ShapeId)) (w : List Waiting) → length w ≡ 0
    → Works k u t hs w → IsTypedBy Equal k u (shape_at (table_in t hs))
works_done k u t hs w e i =
    no_paths k u (table_in t hs) (paths_in t w) (omega (arith, e, length-map w (path_in t))) i.working

pub holds_done : (k : Code) (u : Section) (t : Lists) (hs : List (Option ShapeId)) (w : List Waiting) → length w ≡ 0
    → Works k u t hs w → FoundHolds k u (found_in t hs None)
holds_done k u t hs w e i =
    let typed = works_done k u t hs w e i in
    record { reached = i.working.reached; outcome = (typed, agrees k u (shape_at (table_in t hs)) typed) }

-- When no path is left, what is found is the table.
pub same_done : (k : Code) (u : Section) (t : Lists) (hs : List (Option ShapeId)) (w : List Waiting) (left : ℕ)
    (all : Found) → length w ≡ 0 → explores left k u (table_in t hs) (reverse (paths_in t w)) ≡ all
    → found_in t hs None ≡ all
same_done k u t hs [] left all e same = sym (explores_done left k u (table_in t hs)) ∙ same
same_done k u t hs (x ∷ w) left all e same = absurd (omega (arith, e))

-- ---- how many paths may still be followed

unknown_all : (n : ℕ) → unknown (replicate n None) ≡ n
unknown_all zero = refl
unknown_all (suc n) = omega (arith, unknown_all n)

pub left_at_start : (u : Section) (n : ℕ) → n ≡ length u.code
    → work_left (table_in ([] ∷ []) (replicate n None))
    (paths_in ([] ∷ []) (record { point = 0; shape = record { values = 0; node = 0 } } ∷ []))
    < 2 * length u.code + 2
left_at_start u n is =
    omega (arith, is, ap unknown (none_in ([] ∷ []) n), unknown_all n)

pub same_at_start : (k : Code) (u : Section) (n : ℕ) → n ≡ length u.code
    → explores (2 * length u.code + 2) k u (table_in ([] ∷ []) (replicate n None))
    (reverse (paths_in ([] ∷ []) (record { point = 0; shape = record { values = 0; node = 0 } } ∷ [])))
    ≡ unit_found k u
unfolding unit_found
same_at_start k u n is =
    ap (λ (t : Table). explores (2 * length u.code + 2) k u t (record { point = 0; shape = [] } ∷ []))
    (none_in ([] ∷ []) n ∙ ap (λ (m : ℕ). replicate m None) is)

pub same_next : (left before after : ℕ) (from to : ℕ → Found) (all : Found) → before < left → after < before
    → ((m : ℕ) → from (suc m) ≡ to m) → from left ≡ all → (m : ℕ) × (after < m) × (to m ≡ all)
same_next zero before after from to all more less same is = absurd (omega (arith, more))
same_next (suc m) before after from to all more less same is = (m, omega (arith, more, less), sym (same m) ∙ is)

pub same_refused : (left before : ℕ) (from : ℕ → Found) (found all : Found) → before < left → 0 < before
    → ((m : ℕ) → from (suc (suc m)) ≡ found) → from left ≡ all → found ≡ all
same_refused zero before from found all more some same is = absurd (omega (arith, more))
same_refused (suc zero) before from found all more some same is = absurd (omega (arith, more, some))
same_refused (suc (suc m)) before from found all more some same is = sym (same m) ∙ is

-- A path that waits is left to follow.
pub some_left : (t : Lists) (hs : List (Option ShapeId)) (w : List Waiting) (x : Waiting)
    → 0 < work_left (table_in t hs) (paths_in t (w ++ x ∷ []))
some_left t hs w x = omega (arith, length-map (w ++ x ∷ []) (path_in t), length-append w (x ∷ []))

-- ---- a unit without instructions

pub found_in_none : (k : Code) (u : Section) → length u.code ≡ 0
    → refuses [] 0 flaw.FallsOff None ≡ unit_found k u
unfolding unit_found
found_in_none k u e = by u.code e
  where
    by : (c : List Instruction) → length c ≡ 0
        → refuses [] 0 flaw.FallsOff None
        ≡ explores (2 * length c + 2) k
        (record { parameters = u.parameters; kind = u.kind; locals = u.locals; code = c })
        (replicate (length c) None) (record { point = 0; shape = [] } ∷ [])
    by [] e =
        sym (explores_flaw k (record { parameters = u.parameters; kind = u.kind; locals = u.locals; code = [] }) 1 []
        [] (record { point = 0; shape = [] }) flaw.FallsOff (omega arith) refl refl)
    by (i ∷ c) e = absurd (omega (arith, e))

pub holds_in_none : (k : Code) (u : Section) → length u.code ≡ 0 → FoundHolds k u (refuses [] 0 flaw.FallsOff None)
holds_in_none k u e = record { reached = λ p s f. absurd (none p s f); outcome = empty_refuses k u e }
  where
    none : (p : ℕ) (s : Shape) → shape_at [] p ≡ Some s → ⊥
    none p s f = cc

-- ---- a refusal, by the reason why a path does not go on

pub refused_ends : (before : ℕ → Found) (t : Lists) (hs : List (Option ShapeId)) (h : Halt) (r : Halted)
    → h ≡ halt.Refused r → EndsIn before t hs h → (left : ℕ) → before (suc (suc left)) ≡ found_in t hs (Some r)
refused_ends before t hs h r is ends = subst (λ (x : Halt). EndsIn before t hs x) is ends

pub refused_halts : (k : Code) (u : Section) (t : Lists) (hs : List (Option ShapeId)) (h : Halt) (r : Halted)
    → h ≡ halt.Refused r → HaltsIn k u t hs h → IsRefusedWith k u t hs r
refused_halts k u t hs h r is halts = subst (λ (x : Halt). HaltsIn k u t hs x) is halts
