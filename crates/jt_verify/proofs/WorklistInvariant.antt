-- The invariant of a unit's table and worklist holds while paths are followed.
use Rattle.std.proofs.Common.{◌≡◌, ℕ, ◌<◌, ◌≤◌, List, [], ◌∷◌, ◌++◌, length, Option, Some, None, Ok, refl, sym, subst}
use Rattle.std.proofs.Common.{◌∙◌, arith, inl, inr, rules}
use Rattle.std.specs.Prelude.{slice_set, replicate}
use Rattle.std.proofs.lemmas.List.{length-set, length-append, length-replicate}
use Rattle.jt_image.proofs.ReadPrefix.{all_weaker}
use Rattle.jt_image.specs.Code.{Section, Code}
use Rattle.jt_image.specs.Effect.{Shape, effect_at}
use Rattle.jt_image.specs.Typed.{Reaches, at_start, along, IsTypedBy, Equal, HasSame, Among, max_entries}
use Rattle.jt_verify.specs.Typing.{as_list, points_of, AreWithin}
use Rattle.jt_verify.specs.Search.{WorkItem, Table, shape_at}
use Rattle.jt_verify.specs.Working.{work_left, IsDue, IsFollowed, Comes, IsWorking}
use Rattle.jt_verify.specs.Working.{sent}
use Rattle.jt_verify.specs.declared.effect.Successors.{Successors}
use Rattle.jt_verify.proofs.NodeNumbers.{same_or}
use Rattle.jt_verify.proofs.ShapeTables.{set_here, set_there, set_keeps, set_gives, unknown-set, none_at, among_swapped}
use Rattle.jt_verify.proofs.ShapeTables.{all_among, all_of, waits_left, waits_right, waits_either, waits_sent, all_to}
use Rattle.jt_verify.proofs.ShapeTables.{paths_last, paths_append, paths_sent}

-- ---- a path that ends because its shape is known

module _ (k : Code) (u : Section) (t : Table) (w : List WorkItem) (x : WorkItem)
    (is : shape_at t x.point ≡ Some x.shape) where
  due_met : (s : Shape) (q : ℕ) → IsDue t (w ++ x ∷ []) s q → IsDue t w s q
  due_met s q a2 = search (arith, rules, waits_either)

  pub met : IsWorking k u t (w ++ x ∷ []) → IsWorking k u t w
  met i = record {
    len = i.len;
    start = due_met [] 0 i.start;
    small = i.small;
    reached = i.reached;
    coming = (paths_last (Comes k u) w x i.coming).1;
    fine = λ p s e. let f = i.fine p s e in record {
      leads = f.leads;
      effect = f.effect;
      due =
          all_weaker (IsDue t (w ++ x ∷ []) f.leads.shape) (IsDue t w f.leads.shape) f.leads.points
          (λ q d. due_met f.leads.shape q d) f.due;
    };
  }

-- ---- a path that is followed over one instruction

module _ (k : Code) (u : Section) (t : Table) (w : List WorkItem) (x : WorkItem) (l : Successors) (r : Shape)
    (lt : x.point < length t) (none : shape_at t x.point ≡ None) where
  abbrev after_set : Table
  after_set = slice_set t x.point (Some x.shape)

  due_set : (s : Shape) (q : ℕ) → IsDue t (w ++ x ∷ []) s q → IsDue after_set (w ++ sent l r) s q
  due_set s q (inl e) = inl (set_keeps t x.point x.shape none q s e)
  due_set s q (inr h) = search (arith, rules, waits_either, waits_left, set_here)

  due_next : (q : ℕ) → Among q (points_of l) → IsDue after_set (w ++ sent l r) r q
  due_next q a =
      inr (waits_right w (sent l r) r q
      (waits_sent r (as_list l.target ++ as_list l.next) q (among_swapped q (as_list l.next) (as_list l.target) a)))

  -- The shapes that are known come from paths, with the new shape too.
  pub reached_set : IsWorking k u t (w ++ x ∷ []) → (p : ℕ) (s : Shape) → shape_at after_set p ≡ Some s
      → Reaches k u p s
  reached_set i p s e =
      let last = paths_last (Comes k u) w x i.coming in
      elim (same_or p x.point) [
        | inl same ↦ subst (λ (y : Shape). Reaches k u p y) (set_gives t x.point x.shape lt p s same e)
            (subst (λ (n : ℕ). Reaches k u n x.shape) (sym same) last.0.1)
        | inr other ↦ i.reached p s (sym (set_there t x.point p x.shape other) ∙ e)
      ]

  pub stepped : IsWorking k u t (w ++ x ∷ []) → length x.shape ≤ max_entries
      → effect_at k u x.point x.shape ≡ Ok (record { shape = r; points = points_of l }) → AreWithin (length u.code) l
      → IsWorking k u after_set (w ++ sent l r)
  stepped i small effect within =
      let last = paths_last (Comes k u) w x i.coming in
      record {
        len = length-set t x.point (Some x.shape) ∙ i.len;
        start = due_set [] 0 i.start;
        small = λ p s e. elim (same_or p x.point) [
          | inl same ↦ subst (λ (y : Shape). length y ≤ max_entries) (set_gives t x.point x.shape lt p s same e) small
          | inr other ↦ i.small p s (sym (set_there t x.point p x.shape other) ∙ e)
        ];
        reached = reached_set i;
        coming =
            paths_append (Comes k u) w (sent l r) last.1
            (paths_sent (Comes k u) r (as_list l.target ++ as_list l.next) (λ q a.
            let b = among_swapped q (as_list l.target) (as_list l.next) a in (
              all_among (λ n. n < length u.code) (points_of l) q within b,
              along x.point x.shape (record { shape = r; points = points_of l }) q last.0.1 effect b,
            )));
        fine = λ p s e. elim (same_or p x.point) [
          | inl same ↦ subst (λ (y : Shape). IsFollowed k u after_set (w ++ sent l r) p y)
              (set_gives t x.point x.shape lt p s same e)
              (subst (λ (n : ℕ). IsFollowed k u after_set (w ++ sent l r) n x.shape) (sym same) new)
          | inr other ↦ let f = i.fine p s (sym (set_there t x.point p x.shape other) ∙ e) in record {
            leads = f.leads;
            effect = f.effect;
            due =
                all_weaker (IsDue t (w ++ x ∷ []) f.leads.shape) (IsDue after_set (w ++ sent l r) f.leads.shape)
                f.leads.points (λ q d. due_set f.leads.shape q d) f.due;
          }
        ];
      }
    where
      new : IsFollowed k u after_set (w ++ sent l r) x.point x.shape
      new = search (arith, rules, all_of, due_next)

-- ---- the remaining work decreases

length-sent : (l : Successors) (s : Shape) → length (sent l s) ≤ 2
length-sent l s = search (arith, rules, all_to)

pub less_if_met : (t : Table) (w : List WorkItem) (x : WorkItem) → work_left t w < work_left t (w ++ x ∷ [])
less_if_met t w x = omega (arith, length-append w (x ∷ []))

pub less_if_stepped : (t : Table) (w : List WorkItem) (x : WorkItem) (l : Successors) (r : Shape) → x.point < length t
    → shape_at t x.point ≡ None
    → work_left (slice_set t x.point (Some x.shape)) (w ++ sent l r) < work_left t (w ++ x ∷ [])
less_if_stepped t w x l r lt none =
    omega (
      arith,
      length-append w (x ∷ []),
      length-append w (sent l r),
      length-sent l r,
      unknown-set t x.point x.shape lt none,
    )

-- ---- the point of a path is in the table

pub in_table : (k : Code) (u : Section) (t : Table) (w : List WorkItem) (x : WorkItem) → IsWorking k u t (w ++ x ∷ [])
    → x.point < length t
in_table k u t w x i = omega (arith, (paths_last (Comes k u) w x i.coming).0.0, i.len)

-- ---- the first table and the last

pub starts : (k : Code) (u : Section) (n : ℕ) → n ≡ length u.code → 0 < n
    → IsWorking k u (replicate n None) (record { point = 0; shape = [] } ∷ [])
starts k u n is some = record {
  len = length-replicate n None ∙ is;
  start = inr (inl (refl, refl));
  small = λ p s e. absurd (not_known p s e);
  reached = λ p s e. absurd (not_known p s e);
  coming = ((omega (arith, is, some), at_start), tt);
  fine = λ p s e. absurd (not_known p s e);
}
  where
    not_known : (p : ℕ) (s : Shape) → shape_at (replicate n None) p ≡ Some s → ⊥
    not_known p s e = let f : ◌≡◌ {A = Option Shape} None (Some s) = sym (none_at n p) ∙ e in cc

-- If the worklist is empty, each shape that is due is known.
known_if_due : (t : Table) (s : Shape) (q : ℕ) → IsDue t [] s q → shape_at t q ≡ Some s
known_if_due t s q a3 = search (arith, rules)

-- If the worklist is empty, the unit is typed.
pub is_typed : (k : Code) (u : Section) (t : Table) → IsWorking k u t [] → IsTypedBy Equal k u (shape_at t)
is_typed k u t i = record {
  start = known_if_due t [] 0 i.start;
  small = i.small;
  fine = λ p s e. let f = i.fine p s e in record {
    leads = f.leads;
    effect = f.effect;
    agree =
        all_weaker (IsDue t [] f.leads.shape) (HasSame Equal (shape_at t) f.leads.shape) f.leads.points
        (λ q d. (f.leads.shape, known_if_due t f.leads.shape q d, refl)) f.due;
  };
}

pub no_paths : (k : Code) (u : Section) (t : Table) (w : List WorkItem) → length w ≡ 0 → IsWorking k u t w
    → IsTypedBy Equal k u (shape_at t)
no_paths k u t [] e i = is_typed k u t i
no_paths k u t (x ∷ w) e i = absurd (omega arith)
