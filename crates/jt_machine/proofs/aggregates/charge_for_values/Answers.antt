use Rattle.jt_machine.proofs.Vocabulary.{top_sizes, all_held, made, config_view}
use Rattle.std.proofs.Common.{◌≡◌, ◌∙◌, arith}
use Rattle.jt_machine.proofs.PoppedValues.{sizes_exact, values_are, make_pays}
use Rattle.jt_machine.proofs.aggregates.charge_for_values.Goals as goal

pub returns-clause-rest : goal.returns-clause-rest
returns-clause-rest c f =
    let es = c.args.state.now.stack.running in
    let h = c.requires.has in
    let known = sizes_exact c.args.count c.args.state.now.left.size es h.values h.rest h.is (omega arith)
    c.requires.bounded.few c.requires.bounded.sized in
    let held : all_held c.top_entries.result.now ≡ h.values =
    c.top_entries.ensures ∙ (values_are c.args.count es h.values h.rest h.is).0 in
    let measured : c.sizes-total.result ≡ top_sizes c.args.count es =
    omega (arith, known.0, known.1, rw held at c.sizes-total.ensures) in
    make_pays c.args.count f (config_view c.args.state.now) h
    ∙ rw (← measured) (c.charge_fuel.ensures.rest (made c.args.count f))

pub returns-clause-has : goal.returns-clause-has
returns-clause-has c = rw c.charge_fuel.ensures.same c.requires.has
