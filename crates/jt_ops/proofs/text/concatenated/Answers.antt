use Rattle.std.proofs.Common.{◌≡◌, ◌-◌, ◌^◌, min, Err, Ok, ◌++◌, rules, arith, length-append}
use Rattle.jt_value.specs.Tree.{size, nesting}
use Rattle.jt_ops.specs.Pieces.{of_kind, written}
use Rattle.jt_ops.proofs.RefusalsPropagate.{answers_refusal}
use Rattle.jt_ops.proofs.Pieces.{kind_size, kind_nesting, kind_payload}
use Rattle.jt_ops.proofs.text.concatenated.Goals as goal

pub returns-in_err-allow : goal.returns-in_err-allow
returns-in_err-allow c =
    let text = written c.args.left.now ++ written c.args.right.now in
    let t = of_kind c.args.kind text in
    let large : c.saturating_add.result ≡ min (size t) (2 ^ 64 - 1) = omega (
      arith,
      kind_size c.args.kind text,
      length-append (written c.args.left.now) (written c.args.right.now),
      c.len.ensures,
      c.len-2.ensures,
      c.saturating_add-len.ensures,
      c.saturating_add.ensures,
    ) in
    let deep : 0 ≡ min (nesting t) (2 ^ 32 - 1) = omega (arith, kind_nesting c.args.kind text) in
    let passed : c.from_residual.result ≡ Err c.in_err-allow.field-0.0 = search rules in
    answers_refusal c.from_residual.result c.in_err-allow.field-0.0 c.args.limits (Ok t) passed
    (c.in_err-allow.ensures.refused t large deep)

pub returns : goal.returns
returns c =
    let text = written c.args.left.now ++ written c.args.right.now in
    let t = of_kind c.args.kind text in
    let large : c.saturating_add.result ≡ min (size t) (2 ^ 64 - 1) = omega (
      arith,
      kind_size c.args.kind text,
      length-append (written c.args.left.now) (written c.args.right.now),
      c.len.ensures,
      c.len-2.ensures,
      c.saturating_add-len.ensures,
      c.saturating_add.ensures,
    ) in
    let deep : 0 ≡ min (nesting t) (2 ^ 32 - 1) = omega (arith, kind_nesting c.args.kind text) in
    c.made.ensures _ t (c.in_ok-allow.ensures.ok t large deep) (kind_payload c.args.kind text) (c.text_of_two.ensures)
