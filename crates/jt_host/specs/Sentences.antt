-- The rule that a refusal reports, in a sentence, with the name that it is about.
use Rattle.std.specs.Prelude.{◌++◌, codes, Option, Some, None, is_some, if◌then◌else◌, string_bytes}
use Rattle.jt_ast.specs.Expressions.{Text}
use Rattle.jt_ids.specs.LoopTable.{field_named}
use Rattle.jt_codegen.specs.declared.ScanError.{ScanError}
use Rattle.jt_codegen.specs.declared.ScanError.TheVariants as scan_error
use Rattle.jt_codegen.specs.declared.ParseError.{ParseError}
use Rattle.jt_codegen.specs.declared.ParseError.TheVariants as parse_error
use Rattle.jt_codegen.specs.declared.ScopeError.{ScopeError}
use Rattle.jt_codegen.specs.declared.ScopeError.TheVariants as scope_error
use Rattle.jt_codegen.specs.declared.ChainError.{ChainError}
use Rattle.jt_codegen.specs.declared.ChainError.TheVariants as chain_error
use Rattle.jt_codegen.specs.declared.ChainSubject.TheVariants as chain_subject
use Rattle.jt_codegen.specs.declared.CompileError.{CompileError}
use Rattle.jt_codegen.specs.declared.CompileError.TheVariants as compile_error
use Rattle.jt_codegen.specs.declared.Finding.{Finding}
use Rattle.jt_codegen.specs.declared.Limit.{Limit}
use Rattle.jt_codegen.specs.declared.Limit.TheVariants as limit
use Rattle.jt_codegen.specs.declared.Subject.{Subject}
use Rattle.jt_codegen.specs.declared.Subject.TheVariants as subject
use Rattle.jt_host.specs.Subjects.{quoted, subject_name}

-- ---- the rule that each error reports

abbrev pub scan_rule : ScanError → Text
scan_rule (scan_error.UnclosedTag n) =
    codes "the source ends before this tag or comment is closed"
scan_rule (scan_error.UnclosedText n) =
    codes "the source ends inside a text of this tag: the closing quote is missing"
scan_rule (scan_error.BadCharacter n) =
    codes "a character in this tag begins no name, number, text or operator"
scan_rule (scan_error.BadEscape n) =
    codes "a text in this tag has an unknown escape; a backslash is written as two"
scan_rule (scan_error.NumberTooLarge n) =
    codes "a number in this tag is larger than 9223372036854775807"
scan_rule (scan_error.UnclosedRaw n) = codes "no endraw tag follows this raw tag"
scan_rule (scan_error.SourceTooLong n) = codes "the source has more than 1,048,576 bytes"
scan_rule scan_error.NoMemory = codes "memory is not enough"

abbrev pub parse_rule : ParseError → Text
parse_rule (parse_error.Syntax n) =
    codes "this tag is not valid or not allowed here, or its statement is never closed"
parse_rule (parse_error.TooDeep n) =
    codes "statements and expressions are nested more than 100 levels deep here"
parse_rule (parse_error.UnknownFilter n) = codes "no filter has this name"
parse_rule (parse_error.UnknownTest n) = codes "no test has this name"
parse_rule parse_error.NoMemory = codes "memory is not enough"

abbrev pub chain_rule : ChainError → Text
chain_rule chain_error.Missing =
    codes "a template does not exist: the named one, or one that it extends, includes or imports"
chain_rule chain_error.BadName =
    codes "a template's name is empty or too long, or has a part or character that is not allowed"
chain_rule chain_error.ExtendsCycle =
    codes "a template extends itself, directly or through others"
chain_rule chain_error.ChainTooLong =
    codes "more than 64 templates extend one another, or includes reach more than 1,024 templates"
chain_rule chain_error.DoubleBlock = codes "a template has two blocks of one name"
chain_rule chain_error.RequiredNotGiven =
    codes "a block is required, and no template that extends its own gives it a body"
chain_rule chain_error.NoSuper =
    codes "super() is called in a block for which no extended template has a body"
chain_rule chain_error.IncludeCycle =
    codes "a template includes itself, directly, through others or through imported macros"
chain_rule chain_error.MacroTwice =
    codes "two macros or imports in a template or in those that it extends have one name"
chain_rule chain_error.NoMacro =
    codes "from names a macro that the library does not have, or one whose name begins with _"
chain_rule chain_error.NotALibrary =
    codes "an imported template has something other than macros, comments and whitespace"
chain_rule chain_error.NoMemory = codes "memory is not enough"
chain_rule (chain_error.Scan template e) = scan_rule e
chain_rule (chain_error.Parse template e) = parse_rule e

abbrev pub scope_rule : ScopeError → Text
scope_rule scope_error.LoopOutside =
    codes "loop needs a loop around it and one of its attributes, of which only cycle is called"
scope_rule scope_error.MacroAsValue =
    codes "this is the name of a macro or an import, which is only called, never read or set"
scope_rule scope_error.NotCallable =
    codes "no macro, block or function here has this name; self, super and range are only called"
scope_rule scope_error.BadArguments =
    codes "the arguments do not fit what takes them, or a macro has two parameters of one name"
scope_rule scope_error.TooManySlots =
    codes "over 255 parameters of a macro, 4,096 bindings of a template or 65,535 names in all"
scope_rule scope_error.NoMemory = codes "memory is not enough"

-- The limit of names that a template, or all together, would pass.
abbrev pub limit_rule : Option Subject → Text
limit_rule (Some subject.Bindings) = codes "this template binds more than 4,096 names"
limit_rule (Some subject.Names) = codes "the templates read or bind more than 65,535 names in all"
limit_rule about = scope_rule scope_error.TooManySlots

-- The limit of images that would be passed.
abbrev pub image_rule : Limit → Text
image_rule limit.Constants = codes "the image would have more than 65,535 constants"
image_rule limit.Units =
    codes "the image would have more than 65,535 units: one for each chain, block and macro"
image_rule limit.Instructions = codes "the image would have more than 262,144 instructions"
image_rule limit.Templates = codes "the places of the image would name more than 65,535 templates"
image_rule limit.NameBytes = codes "a name in the image would have more than 65,535 bytes"
image_rule limit.Bytes = codes "the image would have more than 16,777,216 bytes"
image_rule limit.Globals =
    codes "the image would have over 65,535 globals: a chain also has those of what it includes"
image_rule limit.Parameters =
    codes "a unit would have over 255 parameters: a scoped block gets all names of scopes"
image_rule limit.Locals =
    codes "a unit would have over 4,096 locals: names, and arguments that are kept aside"
image_rule limit.Entries =
    codes "more than 1,024 values would be needed at the same time, as by a list of 1,025 items"

abbrev pub code_rule : Option Subject → Text
code_rule (Some (subject.Limit l)) = image_rule l
code_rule about =
    codes "the image would pass one of its limits, as 262,144 instructions or 65,535 constants"

abbrev pub rule : CompileError → Option Subject → Text
rule (compile_error.Scope scope_error.TooManySlots) about = limit_rule about
rule (compile_error.Chain e) about = chain_rule e
rule (compile_error.Scope e) about = scope_rule e
rule compile_error.CodeTooLong about = code_rule about
rule compile_error.NoMemory about = codes "memory is not enough"
rule compile_error.StackTooDeep about = image_rule limit.Entries

-- ---- the words before the name that a refusal is about

-- A field of `loop` exists outside no loop, and another name is no field.
abbrev pub field_lead : Text → Text
field_lead field =
    if is_some (field_named field) then codes "outside a loop, loop has no attribute"
    else codes "loop has no attribute"

abbrev pub not_callable_lead : Subject → Option Text
not_callable_lead (subject.Name x) = Some (codes "only a call may name")
not_callable_lead (subject.CalledName x) = Some (codes "no macro, block or function here is called")
not_callable_lead (subject.CalledField of k) = Some (codes "no macro, block or function here is called")
not_callable_lead (subject.Macro x) = Some (codes "no macro may be called")
not_callable_lead s = None

abbrev pub bad_arguments_lead : Subject → Option Text
bad_arguments_lead (subject.CalledName x) = Some (codes "the arguments do not fit those of")
bad_arguments_lead (subject.CalledField of k) = Some (codes "the arguments do not fit those of")
bad_arguments_lead (subject.Filter x) = Some (codes "the arguments do not fit the filter")
bad_arguments_lead (subject.Test x) = Some (codes "the arguments do not fit the test")
bad_arguments_lead (subject.Macro x) = Some (codes "two parameters have one name in the macro")
bad_arguments_lead s = None

abbrev pub scope_lead : ScopeError → Subject → Option Text
scope_lead scope_error.LoopOutside (subject.LoopField k) = Some (field_lead (string_bytes k))
scope_lead scope_error.MacroAsValue (subject.Name x) = Some (codes "only a call may name the macro or import")
scope_lead scope_error.NotCallable s = not_callable_lead s
scope_lead scope_error.BadArguments s = bad_arguments_lead s
scope_lead scope_error.TooManySlots (subject.Macro x) =
    Some (codes "more than 255 parameters are declared for the macro")
scope_lead e s = None

abbrev pub parse_lead : ParseError → Option Text
parse_lead (parse_error.UnknownFilter n) = Some (codes "no filter is called")
parse_lead (parse_error.UnknownTest n) = Some (codes "no test is called")
parse_lead e = None

-- The template that passes a limit of chains.
abbrev pub length_lead : Subject → Option Text
length_lead (subject.Chain (chain_subject.Templates x)) =
    Some (codes "more than 64 templates extend one another: the 65th is")
length_lead (subject.Chain (chain_subject.Chains x)) =
    Some (codes "includes reach more than 1,024 templates: one more is")
length_lead s = None

abbrev pub chain_lead : ChainError → Subject → Option Text
chain_lead chain_error.Missing s = Some (codes "no template is called")
chain_lead chain_error.BadName s = Some (codes "no template may be called")
chain_lead chain_error.ExtendsCycle s = Some (codes "a template extends itself through")
chain_lead chain_error.ChainTooLong s = length_lead s
chain_lead chain_error.DoubleBlock s = Some (codes "a template has two blocks called")
chain_lead chain_error.RequiredNotGiven s = Some (codes "no template gives a body to the required block")
chain_lead chain_error.NoSuper s = Some (codes "super() has no next body in the block")
chain_lead chain_error.IncludeCycle s = Some (codes "a template includes itself through")
chain_lead chain_error.MacroTwice s = Some (codes "two macros or imports are called")
chain_lead chain_error.NoMacro s = Some (codes "the library offers no macro called")
chain_lead chain_error.NotALibrary s = Some (codes "more than macros, comments and whitespace is in")
chain_lead (chain_error.Parse template e) s = parse_lead e
chain_lead e s = None

abbrev pub lead : CompileError → Option Subject → Option Text
lead (compile_error.Chain e) (Some s) = chain_lead e s
lead (compile_error.Scope e) (Some s) = scope_lead e s
lead e s = None

-- The words and the name, or the rule if either of them is missing.
abbrev pub with_name : Option Text → Option Text → Text → Text
with_name (Some words) (Some name) rule = words ++ quoted name
with_name words name rule = rule

-- The sentence of a finding.
abbrev pub sentence : Finding → Text
sentence f = with_name (lead f.error f.subject) (subject_name f.subject) (rule f.error f.subject)
