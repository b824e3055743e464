-- The printed text of an error. A fault prints as its code and its name.
use Rattle.std.specs.Prelude.{ℕ, List, codes}
use Rattle.jt_value.specs.declared.fault.Fault.{Fault}
use Rattle.jt_value.specs.declared.fault.Fault.TheVariants.{BadType, Undefined, Overflow, ZeroDivide, Unprintable}
use Rattle.jt_value.specs.declared.fault.Fault.TheVariants.{NotIterable, Unpack, Range, BadArgument}
use Rattle.jt_value.specs.declared.fault.ValueError.{ValueError}
use Rattle.jt_value.specs.declared.fault.ValueError.TheVariants as error

abbrev pub fault_text : Fault → List ℕ
fault_text BadType = codes "F1 BadType"
fault_text Undefined = codes "F2 Undefined"
fault_text Overflow = codes "F3 Overflow"
fault_text ZeroDivide = codes "F4 ZeroDivide"
fault_text Unprintable = codes "F5 Unprintable"
fault_text NotIterable = codes "F6 NotIterable"
fault_text Unpack = codes "F7 Unpack"
fault_text Range = codes "F8 Range"
fault_text BadArgument = codes "F9 BadArgument"

abbrev pub error_text : ValueError → List ℕ
error_text (error.Fault f) = fault_text f
error_text error.NoMemory = codes "no memory"
