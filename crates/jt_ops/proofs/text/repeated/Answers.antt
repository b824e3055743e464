use Rattle.std.proofs.Common.{◌≡◌, ◌-◌, ◌^◌, min, Err, Ok, ◌*◌, ◌∙◌, length, rules, arith, ap, sym, subst}
use Rattle.jt_value.specs.Tree.{size, nesting}
use Rattle.jt_ops.specs.Pieces.{of_kind}
use Rattle.jt_ops.proofs.RefusalsPropagate.{answers_refusal}
use Rattle.jt_ops.proofs.Pieces.{kind_size, kind_nesting, kind_payload}
use Rattle.std.proofs.lemmas.Int.{to_z-of_z}
use Rattle.std.specs.Int.{w64}
use Rattle.std.specs.List.{repeat}
use Rattle.std.specs.Prelude.{IfOk}
use Rattle.jt_value.specs.View.{view}
use Rattle.jt_op_semantics.specs.Joining.{times}
use Rattle.jt_ops.proofs.AppendSteps.{repeat_length}
use Rattle.jt_ops.proofs.text.repeated.Goals as goal

pub returns-in_err-allow : goal.returns-in_err-allow
returns-in_err-allow c =
    let text = repeat (times c.args.number) c.args.text.now in
    let t = of_kind c.args.kind text in
    let same : repeat c.repetitions-count.result c.args.text.now ≡ text = c.repetitions-count.ensures.same
    ∙ ap (λ z. repeat (times z) c.args.text.now) (to_z-of_z w64 c.args.number c.ranges.number) in
    let long : length text ≡ length c.args.text.now * c.repetitions-count.result =
    ap length (sym same) ∙ repeat_length c.repetitions-count.result c.args.text.now in
    let large : c.saturating_add.result ≡ min (size t) (2 ^ 64 - 1) =
    omega (arith, kind_size c.args.kind text, long, c.saturating_mul-len.ensures, c.saturating_add.ensures) in
    let deep : 0 ≡ min (nesting t) (2 ^ 32 - 1) = omega (arith, kind_nesting c.args.kind text) in
    let passed : c.from_residual.result ≡ Err c.in_err-allow.field-0.0 = search rules in
    answers_refusal c.from_residual.result c.in_err-allow.field-0.0 c.args.limits (Ok t) passed
    (c.in_err-allow.ensures.refused t large deep)

pub returns : goal.returns
returns c =
    let text = repeat (times c.args.number) c.args.text.now in
    let t = of_kind c.args.kind text in
    let same : repeat c.repetitions-count.result c.args.text.now ≡ text = c.repetitions-count.ensures.same
    ∙ ap (λ z. repeat (times z) c.args.text.now) (to_z-of_z w64 c.args.number c.ranges.number) in
    let long : length text ≡ length c.args.text.now * c.repetitions-count.result =
    ap length (sym same) ∙ repeat_length c.repetitions-count.result c.args.text.now in
    let large : c.saturating_add.result ≡ min (size t) (2 ^ 64 - 1) =
    omega (arith, kind_size c.args.kind text, long, c.saturating_mul-len.ensures, c.saturating_add.ensures) in
    let deep : 0 ≡ min (nesting t) (2 ^ 32 - 1) = omega (arith, kind_nesting c.args.kind text) in
    c.made.ensures _ t (c.in_ok-allow.ensures.ok t large deep) (kind_payload c.args.kind text)
    (subst (λ s. IfOk c.repetition.result (λ v. view v ≡ of_kind c.args.kind s)) same c.repetition.ensures)
