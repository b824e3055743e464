use Rattle.std.proofs.Common.{◌≡◌, ◌-◌, ◌^◌, min, Err, Ok, rules, refl, ap, sym, ◌∙◌, subst}
use Rattle.std.specs.Prelude.{IfErr, Result}
use Rattle.jt_value.specs.Payload.{joined_items}
use Rattle.jt_value.specs.Tree as tree
use Rattle.jt_value.specs.Tree.{Tree, Items}
use Rattle.jt_ops.specs.Limited.{limited_by, Answers}
use Rattle.jt_ops.specs.declared.limits.OpError.{OpError}
use Rattle.jt_ops.specs.declared.limits.OpError.TheVariants as error
use Rattle.jt_ops.proofs.RefusalsPropagate.{answers_refusal, answers_no_memory}
use Rattle.jt_ops.proofs.joining.append_within.Goals as goal

pub returns-in_err-allow-clause-refused : goal.returns-in_err-allow-clause-refused
returns-in_err-allow-clause-refused c =
    let t = tree.list (joined_items c.args.list.now.value c.args.more.now) in
    let size : c.joined_measure-measure.result.0 ≡ min (tree.size t) (2 ^ 64 - 1) =
    rw (← c.deref.ensures) c.joined_measure-measure.ensures.size in
    let nesting : c.joined_measure-measure.result.1 ≡ min (tree.nesting t) (2 ^ 32 - 1) =
    rw (← c.deref.ensures) c.joined_measure-measure.ensures.nesting in
    let e = c.in_err-allow.field-0.0 in
    let passed : c.from_residual.result ≡ Err e = search rules in
    subst (λ (r : Result (Unit {0}) OpError). IfErr r (λ x. Answers (Err x) (limited_by c.args.limits (Ok t))))
    (sym passed) (answers_refusal (Err e) e c.args.limits (Ok t) refl (c.in_err-allow.ensures.refused t size nesting))

pub returns-in_err-append-clause-refused : goal.returns-in_err-append-clause-refused
returns-in_err-append-clause-refused c =
    let t = tree.list (joined_items c.args.list.now.value c.args.more.now) in
    let size : c.joined_measure-measure.result.0 ≡ min (tree.size t) (2 ^ 64 - 1) =
    rw (← c.deref.ensures) c.joined_measure-measure.ensures.size in
    let nesting : c.joined_measure-measure.result.1 ≡ min (tree.nesting t) (2 ^ 32 - 1) =
    rw (← c.deref.ensures) c.joined_measure-measure.ensures.nesting in
    let passed : c.from_residual-in_err-append.result ≡ Err error.NoMemory = search rules in
    subst (λ (r : Result (Unit {0}) OpError). IfErr r (λ x. Answers (Err x) (limited_by c.args.limits (Ok t))))
    (sym passed) (answers_no_memory (Err error.NoMemory) _ t refl (c.in_ok-allow.ensures.ok t size nesting) refl)

pub returns-clause-ok : goal.returns-clause-ok
returns-clause-ok c =
    let t = tree.list (joined_items c.args.list.now.value c.args.more.now) in
    let size : c.joined_measure-measure.result.0 ≡ min (tree.size t) (2 ^ 64 - 1) =
    rw (← c.deref.ensures) c.joined_measure-measure.ensures.size in
    let nesting : c.joined_measure-measure.result.1 ≡ min (tree.nesting t) (2 ^ 32 - 1) =
    rw (← c.deref.ensures) c.joined_measure-measure.ensures.nesting in
    c.in_ok-allow.ensures.ok t size nesting ∙ ap (λ (ts : Items). Ok (tree.list ts)) (sym c.in_ok-append.ensures)
