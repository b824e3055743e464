use Rattle.std.proofs.Common.{◌≡◌, ◌-◌, ◌^◌, ℕ, sym, ap, arith}
use Rattle.std.specs.Int.{w16}
use Rattle.std.proofs.lemmas.Result.{err_from_is_err_and}
use Rattle.jt_image.specs.Code.{Constant}
use Rattle.jt_image.specs.Readers.{constant_ref_view}
use Rattle.jt_image.specs.InPlace.{constants_in, constant_in, HasConstant}
use Rattle.jt_image.specs.Reading.{◌>>=◌, constant_at, constants_at, all_constants_at}
use Rattle.jt_image.proofs.DecodeSoundLemmas.{Read, wide16}
use Rattle.jt_image.proofs.TableLoops.{ends, is_done}
use Rattle.jt_image.proofs.TablesInPlace.{number_last, constant_step}
use Rattle.jt_image.proofs.TableWalk.{walks_on}
use Rattle.jt_image.proofs.tables.all_constants_at.Goals as goal

pub returns-in_err-after-clause-gives : goal.returns-in_err-after-clause-gives
returns-in_err-after-clause-gives c =
    let p = err_from_is_err_and c.from_residual-in_err-after.result c.from_residual-in_err-after.ensures.1 in
    rw (p.1, p.2) (ends (λ _. constant_at) c.in_ok-count.count c.constants.counter
    (constants_in c.args.bytes.now c.constants.constants.items) c.constants.rest.now (all_constants_at c.args.front.now)
    c.in_err-after.field-0.0 c.constants-test.true c.in_err-after.ensures c.constants.invariant.so_far)

pub constants-init : goal.constants-init
unfolding all_constants_at
constants-init c =
    let same : c.in_ok-count.count - 0 ≡ c.in_ok-count.count = omega arith in rw c.new-constants.ensures.items (record {
      so_far = rw same (sym (ap (λ (r : Read ℕ). r >>= λ count. constants_at count.0 count.1) c.in_ok-count.ensures));
      read =
          record {
            there = tt;
            last = number_last w16 (2 ^ 16) wide16 c.args.bytes.now c.args.front.now c.in_ok-count.count
                c.in_ok-count.start.now (λ i. omega (arith, c.type_inv.bytes i)) c.requires c.in_ok-count.ensures;
          };
    })

pub constants-preserved : goal.constants-preserved
constants-preserved c =
    let bytes = c.args.bytes.now in
    let x : Constant = constant_ref_view c.in_ok-after.field-0-0 in
    let step = constant_step bytes c.constants.rest.now x c.in_ok-after.after.now
    (λ i. omega (arith, c.type_inv.bytes i)) c.constants.invariant.read.last c.in_ok-after.ensures in
    rw c.in_ok-push.ensures.items (walks_on constant_in HasConstant (λ _. constant_at)
    (all_constants_at c.args.front.now) bytes c.in_ok-count.count c.constants.counter c.constants.constants.items
    c.constants.rest.now x c.in_ok-after.after.now c.constants-test.true c.in_ok-after.ensures step
    c.constants.invariant)

pub returns-clause-gives : goal.returns-clause-gives
returns-clause-gives c =
    is_done (λ _. constant_at) c.in_ok-count.count c.constants.counter
    (constants_in c.args.bytes.now c.constants.constants.items) c.constants.rest.now (all_constants_at c.args.front.now)
    c.constants-test.false c.constants.invariant.so_far
