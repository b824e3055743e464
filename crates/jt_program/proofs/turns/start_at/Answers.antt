use Rattle.std.proofs.Common.{◌≡◌, List, Some, inl, inr, rules, subst, ℕ}
use Rattle.std.proofs.lemmas.Result.{err_from_is_err_and}
use Rattle.jt_host.specs.Calls.{IsNoImage}
use Rattle.jt_value.specs.ContextView.{pairs_of}
use Rattle.jt_program.specs.Commands.{IsOfContext}
use Rattle.jt_program.proofs.Endings.{unread_still}
use Rattle.jt_program.proofs.turns.start_at.Goals as goal

pub returns-in_err-bytes-clause-err : goal.returns-in_err-bytes-clause-err
returns-in_err-bytes-clause-err g c =
    let p = err_from_is_err_and c.from_residual.result c.from_residual.ensures.1 in
    rw (p.1, p.2) (inl c.in_err-bytes.ensures.err)

pub returns-in_err-context-clause-err : goal.returns-in_err-context-clause-err
returns-in_err-context-clause-err g c =
    let p = err_from_is_err_and c.from_residual-in_err-context.result c.from_residual-in_err-context.ensures.1 in
    let unread =
    unread_still g.F.Files.known _ _ (IsOfContext (Some c.args.pair.context)) (Some c.args.pair.context)
    c.in_err-context.field-0.0 c.in_ok-bytes.ensures.kept c.in_err-context.ensures.err in
    rw (p.1, p.2) (inr (c.in_ok-bytes.bytes.items, c.in_ok-bytes.ensures.held, inl unread))

pub returns-in_err-code-clause-err : goal.returns-in_err-code-clause-err
returns-in_err-code-clause-err g c =
    let p = err_from_is_err_and c.from_residual-in_err-code.result c.from_residual-in_err-code.ensures.1 in
    let same : c.deref.result.now ≡ c.in_ok-bytes.bytes.items = search rules in
    let none = subst (λ (bs : List ℕ). IsNoImage bs c.in_err-code.field-0.0) same c.in_err-code.ensures in
    let given = rw c.in_ok-bytes.ensures.kept at c.in_ok-context.ensures.given in
    rw (p.1, p.2) (inr (
      c.in_ok-bytes.bytes.items,
      c.in_ok-bytes.ensures.held,
      inr (pairs_of c.in_ok-context.context, given, none),
    ))
