use Rattle.jt_filter_semantics.specs.Mapping.{as_list, gathered}
use Rattle.jt_filters.specs.internal.Operands.{items_in}
use Rattle.jt_filters.specs.internal.Rows.{gives}
use Rattle.jt_filters.proofs.mapping.measured_row_list.Goals as goal

pub returns-in-Ok : goal.returns-in-Ok
returns-in-Ok c =
    let wanted = as_list (gathered (gives c.args.change) (items_in c.args.items)) in
    c.built.ensures c.args.limits wanted (c.in-Ok.ensures.ok wanted c.row_list_measure.ensures) c.row_list.ensures

pub returns-in-Err : goal.returns-in-Err
returns-in-Err c =
    c.in-Err.ensures.refused (as_list (gathered (gives c.args.change) (items_in c.args.items)))
    c.row_list_measure.ensures
