use Rattle.std.proofs.Common.{◌≡◌, Err, Ok, rules, refl, ap, ◌∙◌, subst}
use Rattle.std.specs.Prelude.{IfOk}
use Rattle.jt_value.specs.ListItems.{listed}
use Rattle.jt_value.specs.Payload.{joined_items}
use Rattle.jt_value.specs.Tree as tree
use Rattle.jt_value.specs.Tree.{Tree, Items}
use Rattle.jt_value.specs.View.{view}
use Rattle.jt_ops.proofs.RefusalsPropagate.{answers_refusal}
use Rattle.jt_ops.proofs.joining.joined_lists.Goals as goal

pub returns-in_err-allow : goal.returns-in_err-allow
returns-in_err-allow c =
    let t = tree.list (joined_items c.args.list.now c.args.more.now) in
    let passed : c.from_residual.result ≡ Err c.in_err-allow.field-0.0 = search rules in
    answers_refusal c.from_residual.result c.in_err-allow.field-0.0 c.args.limits (Ok t) passed
    (c.in_err-allow.ensures.refused t c.joined_measure-size.ensures.size c.joined_measure-size.ensures.nesting)

pub returns : goal.returns
returns c =
    let t = tree.list (joined_items c.args.list.now c.args.more.now) in
    let same : tree.list (joined_items (listed c.items.result) (listed c.items-2.result)) ≡ t =
    ap (λ (ts : Items). tree.list (joined_items ts (listed c.items-2.result))) c.items.ensures
    ∙ ap (λ (ts : Items). tree.list (joined_items c.args.list.now ts)) c.items-2.ensures in
    c.made.ensures _ t
    (c.in_ok-allow.ensures.ok t c.joined_measure-size.ensures.size c.joined_measure-size.ensures.nesting) refl
    (subst (λ (u : Tree). IfOk c.joined_copies.result (λ v. view v ≡ u)) same c.joined_copies.ensures)
