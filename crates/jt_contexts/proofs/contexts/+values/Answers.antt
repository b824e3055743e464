use Rattle.std.proofs.Common.{◌≡◌, ◌∙◌, ◌++◌, [], ◌∷◌, Some, ap, append_assoc, map, string_bytes, sym, refl}
use Rattle.std.proofs.Common.{arith, rules}
use Rattle.std.proofs.lemmas.List.{map-append, nil_from_length}
use Rattle.std.proofs.lemmas.Result.{err_from_is_err_and}
use Rattle.jt_value.specs.Pairs.{pairs}
use Rattle.jt_value.specs.View.{view}
use Rattle.jt_value.specs.declared.text.Text.{Text}
use Rattle.jt_contexts.proofs.MemberValues.{Entry, Member, entries_from, item_flaw, items_from, member_flaw, one_more}
use Rattle.jt_contexts.proofs.MemberValues.{shown, value_in}
use Rattle.jt_contexts.proofs.contexts.+values.Goals as goal

pub entries_of-loop-key-init : goal.entries_of-loop-key-init
entries_of-loop-key-init t c = (
  sym c.into_iter-key-iterator.ensures.into_iter_gives.0,
  ap (λ es. map Some (pairs es)) (sym c.in_ok-entries.ensures.items),
)

pub entries_of-returns-in_err-value-clause-err : goal.entries_of-returns-in_err-value-clause-err
entries_of-returns-in_err-value-clause-err t c =
    let done = c.loop-key.yielded in
    let m : Member = (c.in-Some.key, c.in-Some.member) in
    let left = c.next.new.self in
    let all : c.args.members.entries ≡ done ++ m ∷ left =
    c.loop-key.invariant.0 ∙ ap (λ es. done ++ es) c.in-Some.ensures.steps in
    let p = err_from_is_err_and c.from_residual-in_err-value.result c.from_residual-in_err-value.ensures.1 in
    rw (p.1, p.2, all) (member_flaw done m left c.in_err-value.field-0.0 c.in_err-value.ensures.err)

pub entries_of-loop-key-preserved : goal.entries_of-loop-key-preserved
entries_of-loop-key-preserved t c =
    let done = c.loop-key.yielded in
    let m : Member = (c.in-Some.key, c.in-Some.member) in
    let left = c.next.new.self in
    let all : c.args.members.entries ≡ done ++ m ∷ left =
    c.loop-key.invariant.0 ∙ ap (λ es. done ++ es) c.in-Some.ensures.steps in
    let x : Entry = (string_bytes c.in-Some.key, c.in_ok-value.value) in
    let old = pairs c.loop-key.entries.items in
    let given : shown m ≡ Some (x.0, view x.1) = rw c.in_ok-value.ensures.ok refl in
    let now : pairs c.push.new.self.items ≡ old ++ (x.0, view x.1) ∷ [] =
    ap pairs c.in_ok-push.ensures.items
    ∙ ap (λ (k : Text). pairs (c.loop-key.entries.items ++ (k, c.in_ok-value.value) ∷ [])) c.in_ok-key.ensures
    ∙ map-append (λ (e : Entry). (e.0, view e.1)) c.loop-key.entries.items (x ∷ []) in (
      all ∙ sym (append_assoc done (m ∷ []) left),
      rw now (one_more shown done old m (x.0, view x.1) c.loop-key.invariant.1 given),
    )

pub entries_of-returns-clause-ok : goal.entries_of-returns-clause-ok
entries_of-returns-clause-ok t c = search (arith, rules, entries_from)

pub items_of-loop-item-init : goal.items_of-loop-item-init
items_of-loop-item-init t c = (
  sym c.into_iter-item-iterator.ensures.into_iter_gives.0,
  ap (λ vs. map Some (map view vs)) (sym c.in_ok-values.ensures.items),
)

pub items_of-returns-in_err-value_of-clause-err : goal.items_of-returns-in_err-value_of-clause-err
items_of-returns-in_err-value_of-clause-err t c = search (arith, rules, err_from_is_err_and, item_flaw)

pub items_of-loop-item-preserved : goal.items_of-loop-item-preserved
items_of-loop-item-preserved t c =
    let done = c.loop-item.yielded in
    let left = c.next.new.self.rest.items in
    let all : c.args.items.items ≡ done ++ c.in-Some.item ∷ left =
    c.loop-item.invariant.0 ∙ ap (λ js. done ++ js) c.in-Some.ensures.steps.0 in
    let v = c.in_ok-value_of.field-0 in
    let now : map view c.push.new.self.items ≡ map view c.loop-item.values.items ++ view v ∷ [] =
    ap (map view) c.in_ok-push.ensures.items ∙ map-append view c.loop-item.values.items (v ∷ []) in (
      all ∙ sym (append_assoc done (c.in-Some.item ∷ []) left),
      rw now (one_more value_in done (map view c.loop-item.values.items) c.in-Some.item (view v) c.loop-item.invariant.1
          c.in_ok-value_of.ensures.ok),
    )

pub items_of-returns-clause-ok : goal.items_of-returns-clause-ok
items_of-returns-clause-ok t c = search (arith, rules, nil_from_length, items_from)
