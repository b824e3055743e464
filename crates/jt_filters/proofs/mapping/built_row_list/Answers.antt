use Rattle.jt_filter_semantics.specs.Mapping.{as_list, gathered}
use Rattle.jt_filters.specs.internal.Operands.{items_in}
use Rattle.jt_filters.specs.internal.Rows.{gives}
use Rattle.jt_filters.proofs.mapping.built_row_list.Goals as goal

pub returns-in-Err-NoMemory : goal.returns-in-Err-NoMemory
returns-in-Err-NoMemory c =
    c.refusal.ensures (as_list (gathered (gives c.args.change) (items_in c.args.items))) c.row_list_measure.ensures
    (rw c.in-Err-NoMemory.field-0-is at c.in-Err-NoMemory.ensures)
