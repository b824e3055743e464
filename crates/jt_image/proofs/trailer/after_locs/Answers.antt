use Rattle.std.proofs.Common.{◌++◌, ◌∷◌, []}
use Rattle.std.proofs.lemmas.Result.{err_from_is_err_and}
use Rattle.jt_image.specs.View.{loc_view}
use Rattle.jt_image.specs.Reading.{many_at, loc_at}
use Rattle.jt_image.proofs.TableLoops.{goes_on, ends, is_done}
use Rattle.jt_image.proofs.InstructionsInPlace.{is_answered}
use Rattle.jt_image.proofs.trailer.after_locs.Goals as goal

pub returns-in_err-after : goal.returns-in_err-after
returns-in_err-after c =
    let p = err_from_is_err_and c.from_residual.result c.from_residual.ensures.1 in
    rw (p.1, p.2) (ends (λ _. loc_at c.args.templates) c.args.count c.locs.counter c.locs.invariant.0 c.locs.rest.now
    (many_at (λ _. loc_at c.args.templates) c.args.count [] c.args.bytes.now) c.in_err-after.field-0.0 c.locs-test.true
    c.in_err-after.ensures c.locs.invariant.1)

pub locs-preserved : goal.locs-preserved
locs-preserved c =
    let x = loc_view c.in_ok-after.field-0-0 in (
      c.locs.invariant.0 ++ x ∷ [],
      goes_on (λ _. loc_at c.args.templates) c.args.count c.locs.counter c.locs.invariant.0 c.locs.rest.now
          (many_at (λ _. loc_at c.args.templates) c.args.count [] c.args.bytes.now) x c.in_ok-after.after.now
          c.locs-test.true c.in_ok-after.ensures c.locs.invariant.1,
    )

pub returns : goal.returns
returns c =
    is_answered (many_at (λ _. loc_at c.args.templates) c.args.count [] c.args.bytes.now) c.locs.invariant.0
    c.locs.rest.now (is_done (λ _. loc_at c.args.templates) c.args.count c.locs.counter c.locs.invariant.0
    c.locs.rest.now (many_at (λ _. loc_at c.args.templates) c.args.count [] c.args.bytes.now) c.locs-test.false
    c.locs.invariant.1)
