use Rattle.std.proofs.Common.{◌≡◌, true, arith, rules}
use Rattle.std.proofs.lemmas.List.{length-map}
use Rattle.jt_image.specs.Code.{Code}
use Rattle.jt_image.specs.View.{unit_view}
use Rattle.jt_image.specs.Parts.{code_seen, Starts}
use Rattle.jt_image.proofs.AssembleCorrect.{short_names, entry_from, is_code, limits_from}
use Rattle.jt_image.proofs.assembling.checked.Goals as goal
use Rattle.jt_image.proofs.assembling.checked.Goals.{then-named, else-named, then-starts, else-starts}

pub laid_out-requires : goal.laid_out-requires
laid_out-requires c =
    let fits = c.fields_fit.ensures.fits.0 c.if-not-fields_fit.false in
    omega (arith, fits.0.2, length-map c.args.parts.now.units.items unit_view)

pub names_are_in_order-requires : goal.names_are_in_order-requires
names_are_in_order-requires c =
    let fits = c.fields_fit.ensures.fits.0 c.if-not-fields_fit.false in
    let utf8 = c.in_ok-offsets.ensures.utf8 in
    search (arith, rules, short_names)

pub returns-clause-spelled : goal.returns-clause-spelled
returns-clause-spelled c =
    let k : Code = code_seen c.args.parts.now in
    let laid = c.in_ok-offsets.ensures in
    let places = c.places_are_in_order.ensures.0 c.if-not-places_are_in_order.false in
    elim c.if-named.branch [
      | then-named w ↦ elim c.if-starts.branch [
        | then-starts v ↦
            let started : w.starts.result ≡ true = cc in
            let ordered : v.units_are_in_order.result ≡ true = cc in
            let first : Starts k.units = (rw w.deref-then-named.ensures.value at w.starts.ensures).0 started in
            is_code k
            (record {
              globals = omega arith;
              names = laid.utf8;
              constants = laid.held;
              units = (rw c.deref.ensures.value at c.are_known.ensures.fits) c.if-not-are_known.false;
              templates = laid.templates _;
            })
            (record {
              names = (rw c.deref-2.ensures.value at c.in_ok-named.ensures).0 w.if-named.true;
              units = (rw v.deref-then-starts.ensures.value at v.units_are_in_order.ensures).0 ordered;
              entry = entry_from k first;
              templates = places.0;
              places = places.1;
              placed = rw laid.laid.instructions at places.2;
            })
            (limits_from k (c.fields_fit.ensures.fits.0 c.if-not-fields_fit.false) laid.few
            (rw laid.len.0 at laid.len.1))
        | else-starts v ↦ absurd cc
      ]
      | else-named w ↦ elim c.if-starts.branch [ then-starts v ↦ absurd cc | else-starts v ↦ absurd cc ]
    ]
