use Rattle.std.proofs.Common.{◌≡◌, ◌++◌, ◌∷◌, [], sym, arith}
use Rattle.std.proofs.lemmas.Result.{err_from_is_err_and}
use Rattle.std.proofs.lemmas.List.{map_push}
use Rattle.jt_image.specs.internal.HeaderView.{header_view, headers_view}
use Rattle.jt_image.specs.Reading.{many_at, header_at}
use Rattle.jt_image.proofs.TableLoops.{goes_on, ends, is_done}
use Rattle.jt_image.proofs.ReaderParts.{header_total-push, is_first-push}
use Rattle.jt_image.proofs.units.headers_at.Goals as goal

pub returns-in_err-header-clause-gives : goal.returns-in_err-header-clause-gives
returns-in_err-header-clause-gives c =
    let i = c.headers.invariant in
    let p = err_from_is_err_and c.from_residual.result c.from_residual.ensures.1 in
    let f = rw (i.first, i.total) at c.in_err-header.ensures.gives in
    rw (p.1, p.2) (ends header_at c.args.count c.headers.counter (headers_view c.headers.headers.items)
    c.headers.rest.now (many_at header_at c.args.count [] c.args.bytes.now) c.in_err-header.field-0.0
    c.headers-test.true f i.so_far)

pub headers-preserved : goal.headers-preserved
headers-preserved c =
    let i = c.headers.invariant in
    let before = headers_view c.headers.headers.items in
    let h = header_view c.in_ok-header.header in
    let read = rw (i.first, i.total) at c.in_ok-header.ensures.gives in
    let e : headers_view c.push.new.self.items ≡ before ++ h ∷ [] =
    rw c.in_ok-push.ensures.items (map_push header_view c.headers.headers.items c.in_ok-header.header) in
    record {
      so_far =
          rw e (goes_on header_at c.args.count c.headers.counter before c.headers.rest.now
          (many_at header_at c.args.count [] c.args.bytes.now) h c.in_ok-header.after.now c.headers-test.true read
          i.so_far);
      total = rw e (omega (arith, i.total, header_total-push before h));
      within = omega (arith, c.in_ok-header.ensures.within);
      first = rw e (sym (is_first-push before h));
    }

pub returns-clause-gives : goal.returns-clause-gives
returns-clause-gives c =
    is_done header_at c.args.count c.headers.counter (headers_view c.headers.headers.items) c.headers.rest.now
    (many_at header_at c.args.count [] c.args.bytes.now) c.headers-test.false c.headers.invariant.so_far
