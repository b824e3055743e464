-- The printed text of each error of a call. A refusal prints as its code, its name and its place.
use Rattle.std.specs.Prelude.{ℕ, ◌++◌, codes, string_bytes}
use Rattle.std.specs.Fmt.{decimal}
use Rattle.jt_ast.specs.Expressions.{Text}
use Rattle.jt_value.specs.FaultText.{fault_text}
use Rattle.jt_budget.specs.declared.Spent.{Spent}
use Rattle.jt_budget.specs.declared.Spent.TheVariants as spent
use Rattle.jt_image.specs.declared.ImageError.{ImageError}
use Rattle.jt_image.specs.declared.ImageError.TheVariants as image_error
use Rattle.jt_verify.specs.declared.Flaw.{Flaw}
use Rattle.jt_verify.specs.declared.Flaw.TheVariants as flaw
use Rattle.jt_verify.specs.declared.Refusal.{Refusal}
use Rattle.jt_verify.specs.declared.Refusal.TheVariants as refusal
use Rattle.jt_contexts.specs.declared.ContextError.{ContextError}
use Rattle.jt_contexts.specs.declared.ContextError.TheVariants as context_error
use Rattle.jt_codegen.specs.declared.ScanError.{ScanError}
use Rattle.jt_codegen.specs.declared.ScanError.TheVariants as scan_error
use Rattle.jt_codegen.specs.declared.ParseError.{ParseError}
use Rattle.jt_codegen.specs.declared.ParseError.TheVariants as parse_error
use Rattle.jt_codegen.specs.declared.ScopeError.{ScopeError}
use Rattle.jt_codegen.specs.declared.ScopeError.TheVariants as scope_error
use Rattle.jt_codegen.specs.declared.ChainError.{ChainError}
use Rattle.jt_codegen.specs.declared.ChainError.TheVariants as chain_error
use Rattle.jt_codegen.specs.declared.CompileError.{CompileError}
use Rattle.jt_codegen.specs.declared.CompileError.TheVariants as compile_error
use Rattle.jt_host.specs.declared.call_error.CallError.{CallError}
use Rattle.jt_host.specs.declared.call_error.CallError.TheVariants as error
use Rattle.jt_host.specs.declared.reasons.Reason.{Reason}
use Rattle.jt_host.specs.declared.reasons.Reason.TheVariants as reason

-- The name of each number of the budget.
abbrev pub spent_name : Spent → Text
spent_name spent.Fuel = codes "Fuel"
spent_name spent.Depth = codes "Depth"
spent_name spent.Output = codes "Output"
spent_name spent.Size = codes "Size"
spent_name spent.Nesting = codes "Nesting"

-- ---- bytes that are no accepted image, or no context

abbrev pub image_text : ImageError → Text
image_text image_error.BadMagic = codes "I1 BadMagic"
image_text image_error.BadVersion = codes "I2 BadVersion"
image_text image_error.Truncated = codes "I3 Truncated"
image_text image_error.Trailing = codes "I4 Trailing"
image_text image_error.BadText = codes "I5 BadText"
image_text image_error.BadOpcode = codes "I6 BadOpcode"
image_text image_error.BadTable = codes "I7 BadTable"
image_text image_error.LimitPassed = codes "I8 LimitPassed"
image_text image_error.NoMemory = codes "I9 NoMemory"

abbrev pub flaw_name : Flaw → Text
flaw_name flaw.MissingOperand = codes "K1 MissingOperand"
flaw_name flaw.WrongKind = codes "K2 WrongKind"
flaw_name flaw.DepthDiffers = codes "K3 DepthDiffers"
flaw_name flaw.KindDiffers = codes "K4 KindDiffers"
flaw_name flaw.JumpOut = codes "K5 JumpOut"
flaw_name flaw.BadIndex = codes "K6 BadIndex"
flaw_name flaw.BadReturn = codes "K7 BadReturn"
flaw_name flaw.FallsOff = codes "K8 FallsOff"
flaw_name flaw.TooDeep = codes "K9 TooDeep"

-- A flaw with its unit and its point.
abbrev pub code_text : Refusal → Text
code_text (refusal.Flaw flaw unit point) =
    flaw_name flaw ++ (codes " unit " ++ (decimal unit ++ (codes " point " ++ decimal point)))
code_text refusal.NoMemory = codes "K10 NoMemory"

abbrev pub context_text : ContextError → Text
context_text context_error.NotJson = codes "X1 NotJson"
context_text context_error.NotObject = codes "X2 NotObject"
context_text context_error.NotWhole = codes "X3 NotWhole"
context_text context_error.OutOfRange = codes "X4 OutOfRange"
context_text context_error.NoMemory = codes "X5 NoMemory"

-- ---- templates that do not compile

-- The name of a refusal with its template and its line.
abbrev pub placed : Text → Text → ℕ → Text
placed name template line = name ++ (codes " in " ++ (template ++ (codes " line " ++ decimal line)))

abbrev pub scan_name : ScanError → Text
scan_name (scan_error.UnclosedTag n) = codes "S1 UnclosedTag"
scan_name (scan_error.UnclosedText n) = codes "S2 UnclosedText"
scan_name (scan_error.BadCharacter n) = codes "S3 BadCharacter"
scan_name (scan_error.BadEscape n) = codes "S4 BadEscape"
scan_name (scan_error.NumberTooLarge n) = codes "S5 NumberTooLarge"
scan_name (scan_error.UnclosedRaw n) = codes "S6 UnclosedRaw"
scan_name (scan_error.SourceTooLong n) = codes "S7 SourceTooLong"
scan_name scan_error.NoMemory = codes "S8 NoMemory"

-- The line that an error of the scanner names, or 1.
abbrev pub scan_line : ScanError → ℕ
scan_line (scan_error.UnclosedTag n) = n
scan_line (scan_error.UnclosedText n) = n
scan_line (scan_error.BadCharacter n) = n
scan_line (scan_error.BadEscape n) = n
scan_line (scan_error.NumberTooLarge n) = n
scan_line (scan_error.UnclosedRaw n) = n
scan_line (scan_error.SourceTooLong n) = n
scan_line scan_error.NoMemory = 1

abbrev pub parse_name : ParseError → Text
parse_name (parse_error.Syntax n) = codes "P1 Syntax"
parse_name (parse_error.TooDeep n) = codes "P2 TooDeep"
parse_name (parse_error.UnknownFilter n) = codes "P3 UnknownFilter"
parse_name (parse_error.UnknownTest n) = codes "P4 UnknownTest"
parse_name parse_error.NoMemory = codes "P5 NoMemory"

-- The line that an error of the parser names, or 1.
abbrev pub parse_line : ParseError → ℕ
parse_line (parse_error.Syntax n) = n
parse_line (parse_error.TooDeep n) = n
parse_line (parse_error.UnknownFilter n) = n
parse_line (parse_error.UnknownTest n) = n
parse_line parse_error.NoMemory = 1

abbrev pub scope_text : ScopeError → Text
scope_text scope_error.LoopOutside = codes "V1 LoopOutside"
scope_text scope_error.MacroAsValue = codes "V2 MacroAsValue"
scope_text scope_error.NotCallable = codes "V3 NotCallable"
scope_text scope_error.BadArguments = codes "V4 BadArguments"
scope_text scope_error.TooManySlots = codes "V5 TooManySlots"
scope_text scope_error.NoMemory = codes "V6 NoMemory"

abbrev pub chain_name : ChainError → Text
chain_name chain_error.Missing = codes "C1 Missing"
chain_name chain_error.BadName = codes "C2 BadName"
chain_name chain_error.ExtendsCycle = codes "C3 ExtendsCycle"
chain_name chain_error.ChainTooLong = codes "C4 ChainTooLong"
chain_name chain_error.DoubleBlock = codes "C5 DoubleBlock"
chain_name chain_error.RequiredNotGiven = codes "C6 RequiredNotGiven"
chain_name chain_error.NoSuper = codes "C7 NoSuper"
chain_name chain_error.IncludeCycle = codes "C8 IncludeCycle"
chain_name chain_error.MacroTwice = codes "C9 MacroTwice"
chain_name chain_error.NoMemory = codes "C10 NoMemory"
chain_name chain_error.NoMacro = codes "C11 NoMacro"
chain_name chain_error.NotALibrary = codes "C12 NotALibrary"
chain_name (chain_error.Scan template e) = scan_name e
chain_name (chain_error.Parse template e) = parse_name e

abbrev pub chain_text : ChainError → Text
chain_text (chain_error.Scan template e) = placed (scan_name e) (string_bytes template) (scan_line e)
chain_text (chain_error.Parse template e) =
    placed (parse_name e) (string_bytes template) (parse_line e)
chain_text e = chain_name e

abbrev pub compile_text : CompileError → Text
compile_text (compile_error.Chain e) = chain_text e
compile_text (compile_error.Scope e) = scope_text e
compile_text compile_error.CodeTooLong = codes "G1 CodeTooLong"
compile_text compile_error.NoMemory = codes "G2 NoMemory"
compile_text compile_error.StackTooDeep = codes "G3 StackTooDeep"

-- ---- errors of calls

abbrev pub error_text : CallError → Text
error_text (error.Image e) = image_text e
error_text (error.Code e) = code_text e
error_text (error.Template e) = compile_text e
error_text (error.Context e) = context_text e
error_text (error.Fault fault place) = codes "fault " ++ fault_text fault
error_text (error.Spent spent) = codes "spent " ++ spent_name spent
error_text error.NoMemory = codes "no memory"

-- ---- texts in parts

abbrev pub reason_text : Reason → Text
reason_text (reason.Name name) = name.now
reason_text (reason.Point name unit point) =
    name.now ++ (codes " unit " ++ (decimal unit ++ (codes " point " ++ decimal point)))
reason_text (reason.Line name template line) = placed name.now template.now line
