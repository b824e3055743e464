use Rattle.jt_ir.specs.declared.program.Slot as code_slot
use Rattle.jt_bind.proofs
use proofs.{is_some, reverse, ◌≡◌, ℕ, ◌+◌, ◌-◌, ◌<◌, ◌≤◌, List, [], ◌∷◌, ◌++◌, map, drop, length, get_or, option_map}
use proofs.{kept_slots, table_of, names_view, slot_view, slot_in, Text, Table, among, Option, Some, None, if◌then◌else◌}
use proofs.{String, string_bytes, bytes_eq, reverse-append, arith, rules, names_left, Global}
use Rattle.jt_bind.proofs.resolver.Resolver.kept_slots.Goals as goal

module _ (ks : List (String Global)) (i : ℕ) (k : String Global) (lt : i < length ks) (is : k ≡ get_or ks i k) where
  abbrev rest : List Text
  rest = names_view (drop (i + 1) ks)

  kept_step : (t : Table) (ss : List (Option code_slot.Slot)) (o : Option code_slot.Slot)
      → option_map slot_view o ≡ (if among (string_bytes k) rest then None else slot_in (string_bytes k) t)
      → map (option_map slot_view) (reverse ss) ≡ kept_slots t rest
      → map (option_map slot_view) (reverse (ss ++ o ∷ [])) ≡ kept_slots t (names_view (drop i ks))
  kept_step t ss o has so = rw (reverse-append, has, so, names_left ks i k lt is)

  seen_step : (x : Text) (v : Option ℕ) (n : ℕ) → is_some v ≡ among x rest
      → is_some (if bytes_eq (string_bytes k) x then Some n else v) ≡ among x (names_view (drop i ks))
  seen_step x v n e = rw (names_left ks i k lt is) (search (arith, rules))

pub loop-left-preserved : goal.loop-left-preserved
loop-left-preserved c =
    let l = c.loop-left in
    let ks = c.args.names.now in
    let i = l.left - 1 in
    let k = c.index-names-left.result in
    let within : l.left ≤ length ks = l.invariant.within in
    let lt : i < length ks = omega arith in
    let next : l.left ≡ i + 1 = omega arith in
    let t = table_of c.args.self.now in
    record {
      within = omega arith;
      kept = rw c.in_ok-push.ensures.items (kept_step ks i k lt c.index-names-left.is t l.slots.items c.kept_slot.result
          (rw (← c.as_str-name.ensures.value, ← next, ← l.invariant.seen c.as_str-name.result.now) c.kept_slot.ensures)
          (rw next at l.invariant.kept));
      seen = λ x. rw (c.in_ok-put.ensures x, c.as_str-name.ensures.value)
          (seen_step ks i k lt c.index-names-left.is x _ i (rw next at (l.invariant.seen x)));
    }

pub returns : goal.returns
returns c =
    let none : c.loop-left.left ≡ 0 = omega arith in
    rw c.reverse.ensures.items (rw none at c.loop-left.invariant.kept)
