use Rattle.std.proofs.Common.{◌≡◌, ◌-◌, ◌^◌, ◌+◌, min, Err, Ok, rules, refl, arith, encode_utf8}
use Rattle.jt_value.specs.Tree as tree
use Rattle.jt_ops.proofs.RefusalsPropagate.{answers_refusal}
use Rattle.jt_ops.proofs.item.single.Goals as goal

pub returns-in_err-allow : goal.returns-in_err-allow
returns-in_err-allow c =
    let t = tree.text (encode_utf8 c.args.c) in
    let size : c.len_utf8.result + 1 ≡ min (tree.size t) (2 ^ 64 - 1) = omega (arith, c.len_utf8.ensures.len) in
    let passed : c.from_residual.result ≡ Err c.in_err-allow.field-0.0 = search rules in
    answers_refusal c.from_residual.result c.in_err-allow.field-0.0 c.args.limits (Ok t) passed
    (c.in_err-allow.ensures.refused t size refl)

pub returns : goal.returns
returns c =
    let t = tree.text (encode_utf8 c.args.c) in
    let size : c.len_utf8.result + 1 ≡ min (tree.size t) (2 ^ 64 - 1) = omega (arith, c.len_utf8.ensures.len) in
    c.made.ensures _ t (c.in_ok-allow.ensures.ok t size refl) refl c.text_of.ensures
