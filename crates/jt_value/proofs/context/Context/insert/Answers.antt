use Rattle.std.proofs.Common.{◌≡◌, ◌<◌, ◌++◌, [], ◌∷◌, ℕ, List, Some, None, length, sym, ap, ◌∙◌, subst}
use Rattle.std.proofs.Common.{arith}
use Rattle.jt_value.specs.KeySearch.{Finds}
use Rattle.jt_value.specs.Pairs.{Pairs, pairs, look, put, HasDistinctNames}
use Rattle.jt_value.specs.View.{view, entries_view}
use Rattle.jt_value.proofs.ContextLookup.{absent, distinct_put, finds_new, look-put, moved, put_at, put_new}
use Rattle.jt_value.proofs.ContextLookup.{still_finds, unless_failed}
use Rattle.jt_value.proofs.KeyIndices.{indexed}
use Rattle.jt_value.proofs.Lists.{Pair}
use Rattle.jt_value.proofs.context.Context.insert.Goals as goal

pub index_mut-requires : goal.index_mut-requires
index_mut-requires c =
    let es = c.self.inside.entries.items in
    let name = c.args.name in
    let here = moved (Some c.in-Some.index) c.deref-2.result.now name c.deref.result.now es c.in-Some.ensures
    c.deref-2.ensures c.deref.ensures.value in
    let lt : c.in-Some.index < length es = (indexed es name c.in-Some.index here).0 in
    omega (arith, lt, c.self.inside.entries.ok.0)

pub invariant_of-self : goal.invariant_of-self
invariant_of-self c =
    let es = c.self.inside.entries.items in
    let name = c.args.name in
    let here = moved (Some c.in-Some.index) c.deref-2.result.now name c.deref.result.now es c.in-Some.ensures
    c.deref-2.ensures c.deref.ensures.value in
    let changed = put_at name es c.in-Some.index c.args.value c.index_mut.result.now here c.index_mut.ensures.value in (
      subst HasDistinctNames (sym changed) (distinct_put name (view c.args.value) (pairs es) c.self.invariant.0),
      still_finds c.self.inside.search es c.in-Some.index c.args.value c.index_mut.result.now c.index_mut.ensures.value
          c.self.invariant.1,
    )

pub returns-in-Some-clause-ok : goal.returns-in-Some-clause-ok
returns-in-Some-clause-ok c =
    let es = c.self.inside.entries.items in
    let name = c.args.name in
    let here = moved (Some c.in-Some.index) c.deref-2.result.now name c.deref.result.now es c.in-Some.ensures
    c.deref-2.ensures c.deref.ensures.value in
    let changed = put_at name es c.in-Some.index c.args.value c.index_mut.result.now here c.index_mut.ensures.value in
    changed ∙ ap (λ (t : Pairs × ℕ). put name (view c.args.value) t.0) c.self.view_is

pub returns-in-Some-clause-found : goal.returns-in-Some-clause-found
returns-in-Some-clause-found c = λ other.
    let es = c.self.inside.entries.items in
    let name = c.args.name in
    let here = moved (Some c.in-Some.index) c.deref-2.result.now name c.deref.result.now es c.in-Some.ensures
    c.deref-2.ensures c.deref.ensures.value in
    let changed = put_at name es c.in-Some.index c.args.value c.index_mut.result.now here c.index_mut.ensures.value in
    ap (look other) (changed ∙ ap (λ (t : Pairs × ℕ). put name (view c.args.value) t.0) c.self.view_is)
    ∙ look-put name (view c.args.value) c.args.self.now.0 other

pub returns-in-Some-clause-distinct : goal.returns-in-Some-clause-distinct
returns-in-Some-clause-distinct c =
    let es = c.self.inside.entries.items in
    let name = c.args.name in
    let here = moved (Some c.in-Some.index) c.deref-2.result.now name c.deref.result.now es c.in-Some.ensures
    c.deref-2.ensures c.deref.ensures.value in
    let changed = put_at name es c.in-Some.index c.args.value c.index_mut.result.now here c.index_mut.ensures.value in
    subst HasDistinctNames (sym changed) (distinct_put name (view c.args.value) (pairs es) c.self.invariant.0)

pub returns-then-is_err-clause-absent : goal.returns-then-is_err-clause-absent
returns-then-is_err-clause-absent c =
    let es = c.self.inside.entries.items in
    let name = c.args.name in
    let none = moved None c.deref-2.result.now name c.deref.result.now es c.in_default.ensures c.deref-2.ensures
    c.deref.ensures.value in
    ap (λ (t : Pairs × ℕ). look name t.0) (sym c.self.view_is) ∙ absent name es none

pub returns-then-is_err-2-clause-absent : goal.returns-then-is_err-2-clause-absent
returns-then-is_err-2-clause-absent c =
    let es = c.self.inside.entries.items in
    let name = c.args.name in
    let none = moved None c.deref-2.result.now name c.deref.result.now es c.in_default.ensures c.deref-2.ensures
    c.deref.ensures.value in
    ap (λ (t : Pairs × ℕ). look name t.0) (sym c.self.view_is) ∙ absent name es none

pub invariant_of-self-2 : goal.invariant_of-self-2
invariant_of-self-2 c =
    let es = c.self.inside.entries.items in
    let name = c.args.name in
    let none = moved None c.deref-2.result.now name c.deref.result.now es c.in_default.ensures c.deref-2.ensures
    c.deref.ensures.value in
    let added : c.push_reserved.new.self.items ≡ es ++ (c.args.name, c.args.value) ∷ [] = c.push_reserved.ensures.items
    ∙ ap (λ (xs : List Pair). xs ++ (c.args.name, c.args.value) ∷ []) c.reserve.ensures.items in
    let changed : pairs c.push_reserved.new.self.items ≡ put name (view c.args.value) (pairs es) = ap pairs added
    ∙ put_new c.args.name c.args.value es (sym none) in
    let found = unless_failed c.add.result _ c.if-is_err-2.ensures.value c.add.ensures.ok in (
      subst HasDistinctNames (sym changed) (distinct_put name (view c.args.value) (pairs es) c.self.invariant.0),
      subst (λ xs. Finds c.add.new.self (entries_view xs)) (sym added)
          (finds_new c.add.new.self c.args.name c.args.value es c.deref-3.result.now c.deref-4.result.now
          (c.deref-3.ensures.value ∙ c.reserve.ensures.items) c.deref-4.ensures found),
    )

pub returns-clause-ok : goal.returns-clause-ok
returns-clause-ok c =
    let es = c.self.inside.entries.items in
    let name = c.args.name in
    let none = moved None c.deref-2.result.now name c.deref.result.now es c.in_default.ensures c.deref-2.ensures
    c.deref.ensures.value in
    let added : c.push_reserved.new.self.items ≡ es ++ (c.args.name, c.args.value) ∷ [] = c.push_reserved.ensures.items
    ∙ ap (λ (xs : List Pair). xs ++ (c.args.name, c.args.value) ∷ []) c.reserve.ensures.items in
    let changed : pairs c.push_reserved.new.self.items ≡ put name (view c.args.value) (pairs es) = ap pairs added
    ∙ put_new c.args.name c.args.value es (sym none) in
    changed ∙ ap (λ (t : Pairs × ℕ). put name (view c.args.value) t.0) c.self.view_is

pub returns-clause-found : goal.returns-clause-found
returns-clause-found c = λ other.
    let es = c.self.inside.entries.items in
    let name = c.args.name in
    let none = moved None c.deref-2.result.now name c.deref.result.now es c.in_default.ensures c.deref-2.ensures
    c.deref.ensures.value in
    let added : c.push_reserved.new.self.items ≡ es ++ (c.args.name, c.args.value) ∷ [] = c.push_reserved.ensures.items
    ∙ ap (λ (xs : List Pair). xs ++ (c.args.name, c.args.value) ∷ []) c.reserve.ensures.items in
    let changed : pairs c.push_reserved.new.self.items ≡ put name (view c.args.value) (pairs es) = ap pairs added
    ∙ put_new c.args.name c.args.value es (sym none) in
    ap (look other) (changed ∙ ap (λ (t : Pairs × ℕ). put name (view c.args.value) t.0) c.self.view_is)
    ∙ look-put name (view c.args.value) c.args.self.now.0 other

pub returns-clause-distinct : goal.returns-clause-distinct
returns-clause-distinct c =
    let es = c.self.inside.entries.items in
    let name = c.args.name in
    let none = moved None c.deref-2.result.now name c.deref.result.now es c.in_default.ensures c.deref-2.ensures
    c.deref.ensures.value in
    let added : c.push_reserved.new.self.items ≡ es ++ (c.args.name, c.args.value) ∷ [] = c.push_reserved.ensures.items
    ∙ ap (λ (xs : List Pair). xs ++ (c.args.name, c.args.value) ∷ []) c.reserve.ensures.items in
    let changed : pairs c.push_reserved.new.self.items ≡ put name (view c.args.value) (pairs es) = ap pairs added
    ∙ put_new c.args.name c.args.value es (sym none) in
    subst HasDistinctNames (sym changed) (distinct_put name (view c.args.value) (pairs es) c.self.invariant.0)
