-- The ends of runs that follow from refused calls on values and from operations.
use Rattle.jt_value.specs.declared.fault.ValueError.{ValueError}
use Rattle.jt_value.specs.declared.fault.ValueError.TheVariants as value_error
use Rattle.jt_ops.specs.declared.limits.OpError.{OpError}
use Rattle.jt_ops.specs.declared.limits.OpError.TheVariants as op_error
use Rattle.jt_budget.specs.declared.spent.Spent.TheVariants as spent
use Rattle.jt_reference.specs.declared.end.End.{End}
use Rattle.jt_reference.specs.declared.end.End.TheVariants as end

-- A fault or a refused growth ends the run.
abbrev pub end_of_value : ValueError → End
end_of_value (value_error.Fault fault) = end.Fault fault
end_of_value value_error.NoMemory = end.Refused

-- A fault or a refused growth ends the run; an exceeded limit of size or nesting is spent.
abbrev pub end_of_operation : OpError → End
end_of_operation (op_error.Fault fault) = end.Fault fault
end_of_operation op_error.TooLarge = end.Spent spent.Size
end_of_operation op_error.TooDeep = end.Spent spent.Nesting
end_of_operation op_error.NoMemory = end.Refused
