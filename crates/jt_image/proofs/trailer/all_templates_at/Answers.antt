use Rattle.std.proofs.Common.{◌≡◌, ◌-◌, ◌^◌, List, ℕ, sym, ap, arith}
use Rattle.std.specs.Int.{w16}
use Rattle.std.proofs.lemmas.Result.{err_from_is_err_and}
use Rattle.jt_image.specs.InPlace.{templates_in, template_in, HasTemplate}
use Rattle.jt_image.specs.Reading.{◌>>=◌, template_at, templates_at, all_templates_at}
use Rattle.jt_image.proofs.DecodeSoundLemmas.{Read, wide16}
use Rattle.jt_image.proofs.TableLoops.{ends, is_done}
use Rattle.jt_image.proofs.TablesInPlace.{number_last, template_step}
use Rattle.jt_image.proofs.TableWalk.{walks_on}
use Rattle.jt_image.proofs.trailer.all_templates_at.Goals as goal

pub returns-in_err-after-clause-gives : goal.returns-in_err-after-clause-gives
returns-in_err-after-clause-gives c =
    let p = err_from_is_err_and c.from_residual-in_err-after.result c.from_residual-in_err-after.ensures.1 in
    let read = rw (c.last_template.ensures, c.deref.ensures.value) at c.in_err-after.ensures in
    rw (p.1, p.2) (ends template_at c.in_ok-count.count c.templates.counter
    (templates_in c.args.bytes.now c.templates.templates.items) c.templates.rest.now (all_templates_at c.args.front.now)
    c.in_err-after.field-0.0 c.templates-test.true read c.templates.invariant.so_far)

pub templates-init : goal.templates-init
unfolding all_templates_at
templates-init c =
    let same : c.in_ok-count.count - 0 ≡ c.in_ok-count.count = omega arith in rw c.new-templates.ensures.items (record {
      so_far = rw same (sym (ap (λ (r : Read ℕ). r >>= λ count. templates_at count.0 count.1) c.in_ok-count.ensures));
      read =
          record {
            there = tt;
            last = number_last w16 (2 ^ 16) wide16 c.args.bytes.now c.args.front.now c.in_ok-count.count
                c.in_ok-count.start.now (λ i. omega (arith, c.type_inv.bytes i)) c.requires c.in_ok-count.ensures;
          };
    })

pub templates-preserved : goal.templates-preserved
templates-preserved c =
    let bytes = c.args.bytes.now in
    let t : List ℕ = c.in_ok-after.field-0-0.now in
    let read = rw (c.last_template.ensures, c.deref.ensures.value) at c.in_ok-after.ensures in
    let step = template_step (templates_in bytes c.templates.templates.items) bytes c.templates.rest.now t
    c.in_ok-after.after.now (λ i. omega (arith, c.type_inv.bytes i)) c.templates.invariant.read.last read in
    rw c.in_ok-push.ensures.items (walks_on template_in HasTemplate template_at (all_templates_at c.args.front.now)
    bytes c.in_ok-count.count c.templates.counter c.templates.templates.items c.templates.rest.now t
    c.in_ok-after.after.now c.templates-test.true read step c.templates.invariant)

pub returns-clause-gives : goal.returns-clause-gives
returns-clause-gives c =
    is_done template_at c.in_ok-count.count c.templates.counter
    (templates_in c.args.bytes.now c.templates.templates.items) c.templates.rest.now (all_templates_at c.args.front.now)
    c.templates-test.false c.templates.invariant.so_far
