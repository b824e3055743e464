use Rattle.jt_filters.proofs.Payloads.{length_of_a_list, length_of_a_map}
use Rattle.jt_filters.proofs.scalars.length.Goals as goal

pub returns-in-Some-as_list : goal.returns-in-Some-as_list
returns-in-Some-as_list c =
    rw (length_of_a_list _ _ c.in-Some-as_list.ensures, ← c.len.ensures) c.counted-in-Some-as_list.ensures

pub returns-in-Some-as_map : goal.returns-in-Some-as_map
returns-in-Some-as_map c =
    let is = rw (← c.entries.ensures) at c.in-Some-as_map.ensures in
    rw (length_of_a_map _ c.entries.result.now is) c.counted-in-Some-as_map.ensures
