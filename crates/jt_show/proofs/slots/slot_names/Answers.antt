use Rattle.std.proofs.Common.{arith, ◌∙◌}
use Rattle.jt_image.specs.Code.{Name}
use Rattle.jt_show.proofs.SlotsNamed.{names_all, names_next}
use Rattle.jt_show.proofs.slots.slot_names.Goals as goal

pub names-preserved : goal.names-preserved
names-preserved g c =
    let k = g.C.Code.code c.args.code.now in
    let name : Name = record { slot = c.in-Some.slot; text = c.in-Some.name.now } in
    record {
      len = c.add_name.ensures.len ∙ c.names.invariant.len;
      each =
          λ slot inside. names_next k.names c.names.index name slot _ _ _ c.in-Some.ensures
          (c.add_name.ensures.each slot (omega (arith, c.names.invariant.len, inside)))
          (c.names.invariant.each slot inside);
    }

pub returns : goal.returns
returns g c =
    names_all (g.C.Code.code c.args.code.now) c.names.slots.items c.names.index c.names.invariant.len (omega arith)
    c.names.invariant.each
