use Rattle.jt_machine.proofs.Vocabulary.{AreCached, Code}
use Rattle.std.proofs.Common.{◌≡◌, ◌∙◌, ap, subst}
use Rattle.std.specs.Arc.{arc_value}
use Rattle.jt_machine.specs.Metering.{Metered, together}
use Rattle.jt_machine.specs.StageView.{IsUnderway}
use Rattle.jt_machine.specs.declared.machine.Stage.TheVariants as stage
use Rattle.jt_machine.specs.declared.metered_run.Used.{Used}
use Rattle.jt_machine.proofs.AllocationPoints.{may_lose}
use Rattle.jt_machine.proofs.DrainedOutput.{on_err}
use Rattle.jt_machine.proofs.MeteredSlices.{once, room_after, room_of, slice_fits}
use Rattle.jt_machine.proofs.metered_run.MeteredRun.advance.Goals as goal

pub returns-in_err-slice-in-Going-clause-memory : goal.returns-in_err-slice-in-Going-clause-memory
returns-in_err-slice-in-Going-clause-memory c =
    let goes : c.self.inside.stage ≡ stage.Going c.in-Going.state = cc (c.in-Going.ensures.value) in
    let is : c.image-image.result.now ≡ arc_value c.self.inside.image =
    cc (c.image-image.ensures.image, c.deref.ensures) in
    on_err c.from_residual.result (may_lose c.args.self.now.session (arc_value c.self.inside.image) _ c.args.k
    c.self.inside.stage c.in-Going.state (ap (λ (m : Metered). m.session) c.self.view_is) goes is
    c.in_err-slice-in-Going.ensures.memory)

pub and-self-inside-requires : goal.and-self-inside-requires
and-self-inside-requires c =
    let goes : c.self.inside.stage ≡ stage.Going c.in-Going.state = cc (c.in-Going.ensures.value) in
    let room = room_of c.self.inside.used c.self.inside.stage c.in-Going.state goes c.self.invariant.2 in
    let fits = slice_fits c.image-image.result.now c.args.k c.self.inside.used
    c.in_ok-slice-in-Going.slice.used c.peak.result c.in-Going.state room
    c.in_ok-slice-in-Going.ensures.used in
    record { fuel = fits.0; output = fits.1 }

pub invariant_of-self-in-Going : goal.invariant_of-self-in-Going
invariant_of-self-in-Going c =
    let goes : c.self.inside.stage ≡ stage.Going c.in-Going.state = cc (c.in-Going.ensures.value) in
    let is : c.image-image.result.now ≡ arc_value c.self.inside.image =
    cc (c.image-image.ensures.image, c.deref.ensures) in
    let room = room_of c.self.inside.used c.self.inside.stage c.in-Going.state goes c.self.invariant.2 in
    let used = c.and-self-inside.ensures
    ∙ ap (λ (u : Used). together c.self.inside.used u) c.in_ok-slice-in-Going.ensures.used
    ∙ rw c.peak.ensures (once c.self.inside.used _) in (
      subst (λ (k : Code). IsUnderway k c.in_ok-slice-in-Going.slice.stage) is c.in_ok-slice-in-Going.ensures.underway,
      subst (λ (k : Code). AreCached k c.take_slice.new.made.items) is c.in_ok-slice-in-Going.ensures.made,
      rw used (room_after c.image-image.result.now c.args.k c.self.inside.used c.in-Going.state
          c.in_ok-slice-in-Going.slice.stage room
          c.in_ok-slice-in-Going.ensures.steps),
    )
