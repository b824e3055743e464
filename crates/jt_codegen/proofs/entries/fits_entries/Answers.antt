use Rattle.std.proofs.Common.{refl, subst}
use Rattle.jt_ir.specs.View.{body_view}
use Rattle.jt_codegen.proofs.EntryBoundDecided.{Passes, low_more, low_not, low_all}
use Rattle.jt_codegen.proofs.entries.fits_entries.Goals as goal

pub returns-then-not-fits_body : goal.returns-then-not-fits_body
returns-then-not-fits_body c = λ templates.
    let l = c.loop-routine in
    let ss = c.deref.result.now in
    let none = low_not c.args.room templates c.args.routines.now l.routine-index c.routine-item.result ss
    c.loop-routine-test.true c.routine-item.is c.deref.ensures.value
    (subst (Passes c.args.room (body_view templates ss)) c.if-not-fits_body.true (c.fits_body.ensures templates))
    (l.invariant templates) in
    (λ e. absurd cc, λ h. absurd (none h))

pub loop-routine-preserved : goal.loop-routine-preserved
loop-routine-preserved c = λ templates.
    let l = c.loop-routine in
    let ss = c.deref.result.now in
    low_more c.args.room templates c.args.routines.now l.routine-index c.routine-item.result ss c.loop-routine-test.true
    c.routine-item.is c.deref.ensures.value
    (subst (Passes c.args.room (body_view templates ss)) c.if-not-fits_body.false (c.fits_body.ensures templates))
    (l.invariant templates)

pub returns : goal.returns
returns c =
    λ templates. (
      λ e. low_all c.args.room templates c.args.routines.now c.loop-routine.routine-index c.loop-routine-test.false
          (c.loop-routine.invariant templates),
      λ h. refl,
    )
