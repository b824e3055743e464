use Rattle.jt_machine.proofs.Vocabulary.{mapped, with_entries, below, values_at, with_state, budget_view, config_view}
use Rattle.std.proofs.Common.{◌∙◌, refl}
use Rattle.jt_machine.proofs.AllocationPoints.{lost}
use Rattle.jt_machine.proofs.PoppedValues.{makes_of}
use Rattle.jt_machine.proofs.MapSize.{within_texts, within_goes_on}
use Rattle.jt_machine.proofs.aggregates.make_map.Goals as goal

pub charge_for_values-requires-clause-has : goal.charge_for_values-requires-clause-has
charge_for_values-requires-clause-has c =
    makes_of c.args.count mapped (config_view c.args.state.now) c.requires.ready.not_wrong

pub returns-in-Some : goal.returns-in-Some
returns-in-Some c = c.in-Some.ensures.rest mapped

pub returns-in-Some-map_refusal : goal.returns-in-Some-map_refusal
returns-in-Some-map_refusal c =
    let d = config_view c.charge_for_values.new.state in
    let e = with_state d (with_entries d.machine.state (below c.args.count d.machine.state.entries)) in
    c.in_default.ensures.rest mapped ∙ (rw c.top_entries.ensures at (c.in-Some-map_refusal.ensures.ends e refl))

pub map_on_top-requires-clause-texts : goal.map_on_top-requires-clause-texts
map_on_top-requires-clause-texts c =
    let es = c.charge_for_values.new.state.stack.running in
    within_texts (budget_view c.charge_for_values.new.state.left) (values_at c.args.count es)
    (rw c.top_entries.ensures at c.in_default-map_refusal.ensures.fits)

pub returns-in_err-map : goal.returns-in_err-map
returns-in_err-map c =
    let n = c.args.count in
    let d = config_view c.charge_for_values.new.state in
    let e = with_state d (with_entries d.machine.state (below n d.machine.state.entries)) in
    lost _ _ _ c.from_residual.result c.from_residual.ensures.1 (rw (c.in_default.ensures.rest mapped)
    (within_goes_on (mapped (values_at n d.machine.state.entries)) e
    (rw c.top_entries.ensures at c.in_default-map_refusal.ensures.fits)))

pub push_checked-requires-clause-fits : goal.push_checked-requires-clause-fits
push_checked-requires-clause-fits c =
    rw (c.top_entries.ensures, c.in_ok-map.ensures.map) at c.in_default-map_refusal.ensures.fits

pub returns : goal.returns
returns c =
    rw (c.in_default.ensures.rest mapped, c.in_ok-map.ensures.map)
    (rw c.in_ok-map.ensures.taken at c.push_checked.ensures)
