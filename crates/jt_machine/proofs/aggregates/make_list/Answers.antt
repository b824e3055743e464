use Rattle.jt_machine.proofs.Vocabulary.{listed, with_entries, below, step_on, values_at, with_state, config_view}
use Rattle.jt_machine.proofs.Vocabulary.{limit_view, items_of}
use Rattle.std.proofs.Common.{◌∙◌, sym}
use Rattle.jt_value.specs.Tree as tree
use Rattle.jt_machine.proofs.AllocationPoints.{lost}
use Rattle.jt_machine.proofs.StepLemmas.{push_spent, push_goes_on}
use Rattle.jt_machine.proofs.PoppedValues.{makes_of}
use Rattle.jt_machine.proofs.aggregates.make_list.Goals as goal

pub charge_for_values-requires-clause-has : goal.charge_for_values-requires-clause-has
charge_for_values-requires-clause-has c =
    makes_of c.args.count listed (config_view c.args.state.now) c.requires.ready.not_wrong

pub returns-in-Some : goal.returns-in-Some
returns-in-Some c = c.in-Some.ensures.rest listed

pub returns-in-Some-list_limit : goal.returns-in-Some-list_limit
returns-in-Some-list_limit c =
    let n = c.args.count in
    let d = config_view c.charge_for_values.new.state in
    let t = tree.list (items_of (values_at n d.machine.state.entries)) in
    let e = with_state d (with_entries d.machine.state (below n d.machine.state.entries)) in
    c.in_default.ensures.rest listed ∙ push_spent t e step_on (limit_view c.in-Some-list_limit.spent)
    (rw c.top_entries.ensures at c.in-Some-list_limit.ensures)

pub returns-in_err-list : goal.returns-in_err-list
returns-in_err-list c =
    let n = c.args.count in
    let d = config_view c.charge_for_values.new.state in
    let t = tree.list (items_of (values_at n d.machine.state.entries)) in
    let e = with_state d (with_entries d.machine.state (below n d.machine.state.entries)) in
    lost _ _ _ c.from_residual.result c.from_residual.ensures.1 (rw (c.in_default.ensures.rest listed)
    (push_goes_on t e (rw c.top_entries.ensures at c.in_default-list_limit.ensures)))

pub push_checked-requires-clause-fits : goal.push_checked-requires-clause-fits
push_checked-requires-clause-fits c =
    rw c.in_ok-list.ensures.list (sym (rw c.top_entries.ensures at c.in_default-list_limit.ensures))

pub returns : goal.returns
returns c =
    rw (c.in_default.ensures.rest listed)
    (rw (c.in_ok-list.ensures.list, c.in_ok-list.ensures.taken) at c.push_checked.ensures)
