use Rattle.std.proofs.Common.{◌∙◌, ◌++◌, ap, arith, string_bytes, sym}
use Rattle.jt_verify.specs.Search.{Found}
use Rattle.jt_show.specs.Listing.{found_text, unit_text}
use Rattle.jt_show.proofs.NumberedLines.{found, numbered_end, numbered_next}
use Rattle.jt_show.proofs.UnitsAccepted.{accepted_next, found_shown}
use Rattle.jt_show.proofs.units.put_units.Goals as goal

pub units-preserved : goal.units-preserved
units-preserved g c =
    let k = g.C.Code.code c.args.code.now in
    let u = found k.units c.units.unit (omega arith) in
    let finds = c.in_ok-found.ensures in
    let all = c.units.invariant.accepted in
    record {
      accepted = accepted_next k c.units.unit u.0 _ _ _ u.1 finds all c.are_accepted-accepted.ensures;
      shown =
          numbered_next (found_text k) k.units c.units.unit u.0 _ _ _ (sym u.1)
          (c.in_ok-put_unit.ensures u.0 u.1
          ∙ ap (λ (f : Found). string_bytes c.units.out ++ unit_text k c.units.unit u.0 f)
          (found_shown k c.units.unit u.0 _ _ u.1 finds all))
          c.units.invariant.shown;
    }

pub returns : goal.returns
returns g c =
    let k = g.C.Code.code c.args.code.now in
    numbered_end (found_text k) k.units c.units.unit _ _ (omega arith) c.units.invariant.shown
