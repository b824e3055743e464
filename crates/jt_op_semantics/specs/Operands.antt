-- The faults of operands that no case of an operation accepts: Undefined if an operand is
-- undefined, else BadType. For two operands it is `operand_fault` of jt_value's `Order`.
use Rattle.jt_value.specs.Tree.{Tree, undefined}
use Rattle.jt_value.specs.declared.fault.Fault.{Fault}
use Rattle.jt_value.specs.declared.fault.Fault.TheVariants as fault

abbrev pub operand_fault_of_one : Tree → Fault
operand_fault_of_one undefined = fault.Undefined
operand_fault_of_one t = fault.BadType

abbrev pub operand_fault_of_three : Tree → Tree → Tree → Fault
operand_fault_of_three undefined u v = fault.Undefined
operand_fault_of_three t undefined v = fault.Undefined
operand_fault_of_three t u undefined = fault.Undefined
operand_fault_of_three t u v = fault.BadType
