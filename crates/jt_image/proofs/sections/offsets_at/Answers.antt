use Rattle.std.proofs.Common.{[], arith, rules}
use Rattle.std.proofs.lemmas.Result.{err_from_is_err_and}
use Rattle.std.proofs.lemmas.List.{map_push}
use Rattle.jt_image.specs.InPlace.{sections_in}
use Rattle.jt_image.specs.internal.HeaderView.{header_view, headers_view}
use Rattle.jt_image.specs.Reading.{each_at, section_at}
use Rattle.jt_image.proofs.TableLoops.{each_goes_on, each_ends, each_is_done}
use Rattle.jt_image.proofs.ReadPrefix.{all_push}
use Rattle.jt_image.proofs.UnitOffsets.{unit_total-push, counted_push, total_front, total_below}
use Rattle.jt_image.proofs.sections.offsets_at.Goals as goal

pub overflow_add-first : goal.overflow_add-first
overflow_add-first c = search (arith, rules, total_front, total_below)

pub returns-in_err-place-clause-gives : goal.returns-in_err-place-clause-gives
returns-in_err-place-clause-gives c =
    let p = err_from_is_err_and c.from_residual.result c.from_residual.ensures.1 in
    rw (p.1, p.2) (each_ends section_at header_view c.args.headers.now c.offsets.header-index
    (sections_in c.args.bytes.now c.offsets.offsets.items) c.offsets.rest.now
    (each_at section_at (headers_view c.args.headers.now) [] c.args.front.now)
    (record { parameters = 0; kind = 0; locals = 0; len = 0 }) c.in_err-place.field-0.0 c.offsets-test.true
    c.in_err-place.ensures.gives c.offsets.invariant.so_far)

pub offsets-preserved : goal.offsets-preserved
offsets-preserved c =
    search (arith, rules, map_push, each_goes_on, all_push, counted_push, unit_total-push, total_front)

pub returns-clause-gives : goal.returns-clause-gives
returns-clause-gives c = search (arith, rules, each_is_done)
