use Rattle.std.proofs.Common.{◌≡◌, ◌∙◌, ◌++◌, [], ◌∷◌, Some, ap, append_assoc, map, string_bytes, string_cmp, subst}
use Rattle.std.proofs.Common.{sym, refl, arith, rules}
use Rattle.std.specs.List.Sorted.{IsStrictlySortedBy}
use Rattle.std.specs.Map.{keys_of}
use Rattle.std.proofs.lemmas.Result.{err_from_is_err_and}
use Rattle.jt_value.specs.ContextView.{pairs_of}
use Rattle.jt_value.specs.Pairs.{put}
use Rattle.jt_value.specs.View.{view}
use Rattle.jt_value.specs.declared.text.Text.{Text}
use Rattle.jt_contexts.proofs.MemberValues.{Member, member_flaw, one_more, pairs_from, put_last, shown}
use Rattle.jt_value.proofs.ContextLookup.{unless_failed}
use Rattle.jt_contexts.proofs.contexts.context_of.Goals as goal

pub loop-name-init : goal.loop-name-init
loop-name-init c =
    (sym c.into_iter-name-iterator.ensures.into_iter_gives.0, ap (map Some) (sym c.in_ok-context.ensures.empty))

pub returns-in_err-value-clause-err : goal.returns-in_err-value-clause-err
returns-in_err-value-clause-err c =
    let done = c.loop-name.yielded in
    let m : Member = (c.in-Some.name, c.in-Some.member) in
    let left = c.next.new.self in
    let all : c.args.members.entries ≡ done ++ m ∷ left =
    c.loop-name.invariant.0 ∙ ap (λ es. done ++ es) c.in-Some.ensures.steps in
    let p = err_from_is_err_and c.from_residual-in_err-value.result c.from_residual-in_err-value.ensures.1 in
    rw (p.1, p.2, all) (member_flaw done m left c.in_err-value.field-0.0 c.in_err-value.ensures.err)

pub loop-name-preserved : goal.loop-name-preserved
loop-name-preserved c =
    let done = c.loop-name.yielded in
    let m : Member = (c.in-Some.name, c.in-Some.member) in
    let left = c.next.new.self in
    let all : c.args.members.entries ≡ done ++ m ∷ left =
    c.loop-name.invariant.0 ∙ ap (λ es. done ++ es) c.in-Some.ensures.steps in
    let ordered =
    subst (λ es. IsStrictlySortedBy string_cmp (keys_of es)) all c.into_iter-name-iterator.ensures.into_iter_gives.5 in
    let new = unless_failed c.insert.result _ c.if-is_err.ensures.value c.insert.ensures.ok
    ∙ ap (λ (k : Text). put k (view c.in_ok-value.value) (pairs_of c.loop-name.context)) c.in_ok-name.ensures in
    let old = pairs_of c.loop-name.context in
    let last = put_last done m left old (view c.in_ok-value.value) ordered c.loop-name.invariant.1 in
    let given : shown m ≡ Some (string_bytes c.in-Some.name, view c.in_ok-value.value) =
    rw c.in_ok-value.ensures.ok refl in (
      all ∙ sym (append_assoc done (m ∷ []) left),
      rw (new ∙ last) (one_more shown done old m (string_bytes c.in-Some.name, view c.in_ok-value.value)
          c.loop-name.invariant.1 given),
    )

pub returns-clause-ok : goal.returns-clause-ok
returns-clause-ok c = search (arith, rules, pairs_from)
