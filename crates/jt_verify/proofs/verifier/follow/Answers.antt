use Rattle.std.proofs.Common.{◌≡◌, Result, Ok, Err, arith, ap, subst, suc}
use Rattle.std.specs.Result.{IsErrAnd}
use Rattle.jt_image.specs.declared.code.UnitHeader.{UnitHeader}
use Rattle.jt_verify.specs.declared.halt.Halt.{Halt}
use Rattle.jt_verify.specs.declared.halt.Halt.TheVariants as halt
use Rattle.jt_verify.specs.Typing.{AreWithin}
use Rattle.jt_verify.specs.Working.{refused_in}
use Rattle.jt_verify.proofs.DataflowInvariant.{path_inside, path_within, path_in_code, holds_clash}
use Rattle.jt_verify.proofs.DataflowInvariant.{same_clash, same_met}
use Rattle.jt_verify.proofs.DataflowInvariant.{works_met, less_met, works_stepped, less_stepped, halts_step, ends_step}
use Rattle.jt_verify.proofs.DataflowInvariant.{same_stepped}
use Rattle.jt_verify.proofs.verifier.follow.Goals as goal

err_is : (r : Result (Unit {0}) Halt) (h : Halt) → IsErrAnd r (λ e. e ≡ h) → r ≡ Err h
err_is (Ok u) h e = absurd e
err_is (Err g) h e = ap (λ (x : Halt). Err x) e

pub is_known_at-requires-clause-point : goal.is_known_at-requires-clause-point
is_known_at-requires-clause-point g c =
    rw c.deref.ensures.value (path_within c.args.work.now.worklist.items c.args.path c.requires.works)

pub is_known_at-requires-clause-shape : goal.is_known_at-requires-clause-shape
is_known_at-requires-clause-shape g c = path_inside c.args.work.now.worklist.items c.args.path c.requires.works

pub is_known_at-requires-clause-shapes : goal.is_known_at-requires-clause-shapes
is_known_at-requires-clause-shapes g c = rw c.deref.ensures.value c.requires.works.table

pub returns-in_err-is_known-clause-err : goal.returns-in_err-is_known-clause-err
returns-in_err-is_known-clause-err g c =
    let r = c.in_err-is_known.field-0.0 in
    let clash = rw c.deref.ensures.value at c.in_err-is_known.ensures in
    rw (err_is c.from_residual.result (halt.Refused r) c.from_residual.ensures.1) (record {
      inside = (c.requires.works.table, clash.1);
      holds = holds_clash c.args.work.now.worklist.items c.args.path c.requires.works r clash.0;
    })

pub returns-in_err-is_known-clause-same : goal.returns-in_err-is_known-clause-same
returns-in_err-is_known-clause-same g c =
    let r = c.in_err-is_known.field-0.0 in
    let clash = rw c.deref.ensures.value at c.in_err-is_known.ensures in
    rw (err_is c.from_residual.result (halt.Refused r) c.from_residual.ensures.1)
    (λ left. same_clash c.args.work.now.worklist.items c.args.path c.requires.works
    (refused_in c.args.work.now.arena r) clash.0 (suc left))

pub returns-then-is_known-clause-ok : goal.returns-then-is_known-clause-ok
returns-then-is_known-clause-ok g c =
    works_met c.args.work.now.worklist.items c.args.path c.requires.works
    (rw (c.if-is_known.true, c.deref.ensures.value) at c.in_ok-is_known.ensures)

pub returns-then-is_known-clause-less : goal.returns-then-is_known-clause-less
returns-then-is_known-clause-less g c = less_met c.args.work.now.worklist.items c.args.path c.requires.works

pub returns-then-is_known-clause-same : goal.returns-then-is_known-clause-same
returns-then-is_known-clause-same g c =
    same_met c.args.work.now.worklist.items c.args.path c.requires.works
    (rw (c.if-is_known.true, c.deref.ensures.value) at c.in_ok-is_known.ensures)

pub index_mut-requires : goal.index_mut-requires
index_mut-requires g c =
    omega (
      arith,
      path_within c.args.work.now.worklist.items c.args.path c.requires.works,
      c.args.work.now.shapes.ok.0,
    )

pub step-requires-clause-point : goal.step-requires-clause-point
step-requires-clause-point g c =
    omega (
      arith,
      path_in_code c.args.work.now.worklist.items c.args.path c.requires.works,
      ap (λ (h : UnitHeader). h.instructions) c.requires.unit.header,
    )

pub step-requires-clause-shape : goal.step-requires-clause-shape
step-requires-clause-shape g c = path_inside c.args.work.now.worklist.items c.args.path c.requires.works

pub step-requires-clause-small : goal.step-requires-clause-small
step-requires-clause-small g c = (rw c.if-is_known.false at c.in_ok-is_known.ensures).0

pub returns-in_err-after-clause-err : goal.returns-in_err-after-clause-err
returns-in_err-after-clause-err g c =
    let h = c.in_err-after.field-0.0 in
    let new = rw (c.if-is_known.false, c.deref.ensures.value) at c.in_ok-is_known.ensures in
    rw (err_is c.from_residual-in_err-after.result h c.from_residual-in_err-after.ensures.1)
    (halts_step c.args.work.now.worklist.items c.args.path c.requires.works c.in_err-after.ensures.kept new.1 h
    c.in_err-after.ensures.steps)

pub returns-in_err-after-clause-same : goal.returns-in_err-after-clause-same
returns-in_err-after-clause-same g c =
    let h = c.in_err-after.field-0.0 in
    let new = rw (c.if-is_known.false, c.deref.ensures.value) at c.in_ok-is_known.ensures in
    rw (err_is c.from_residual-in_err-after.result h c.from_residual-in_err-after.ensures.1)
    (ends_step c.args.work.now.worklist.items c.args.path c.requires.works c.in_err-after.ensures.kept new.1 h new.0
    c.in_err-after.ensures.steps)

pub returns-clause-ok : goal.returns-clause-ok
returns-clause-ok g c =
    let new = rw (c.if-is_known.false, c.deref.ensures.value) at c.in_ok-is_known.ensures in
    let within = subst (λ (h : UnitHeader). AreWithin h.instructions c.in_ok-after.after.leads) c.requires.unit.header
    c.in_ok-after.ensures.behind.within in
    rw c.in_ok-push_successors.ensures (works_stepped c.args.work.now.worklist.items c.args.path c.requires.works
    c.in_ok-after.ensures.kept c.in_ok-after.after.leads c.in_ok-after.after.shape c.in_ok-after.ensures.behind.shape
    new.1 new.0 c.in_ok-after.ensures.steps within)

pub returns-clause-less : goal.returns-clause-less
returns-clause-less g c =
    let new = rw (c.if-is_known.false, c.deref.ensures.value) at c.in_ok-is_known.ensures in
    rw c.in_ok-push_successors.ensures (less_stepped c.args.work.now.worklist.items c.args.path c.requires.works
    c.in_ok-after.ensures.kept c.in_ok-after.after.leads c.in_ok-after.after.shape c.in_ok-after.ensures.behind.shape
    new.1)

pub returns-clause-same : goal.returns-clause-same
returns-clause-same g c =
    let new = rw (c.if-is_known.false, c.deref.ensures.value) at c.in_ok-is_known.ensures in
    rw c.in_ok-push_successors.ensures (same_stepped c.args.work.now.worklist.items c.args.path c.requires.works
    c.in_ok-after.ensures.kept c.in_ok-after.after.leads c.in_ok-after.after.shape c.in_ok-after.ensures.behind.shape
    new.1 new.0 c.in_ok-after.ensures.steps)
