-- What fits: the arguments that a filter, a test, a function or a macro takes, in words. They follow from the
-- row of the filter or the test, and from the parameters.
use Rattle.std.specs.Prelude.{ℕ, ◌-◌, ◌==◌, ◌&&◌, Bool, true, false, List, [], ◌∷◌, ◌++◌, Option, Some, None}
use Rattle.std.specs.Prelude.{codes, flat_map, if◌then◌else◌, length, map, option_map, unwrap_or}
use Rattle.std.specs.Fmt.{decimal, signed_decimal}
use Rattle.std.specs.Option.{option_or}
use Rattle.std.specs.Str.{bytes_eq}
use Rattle.jt_ids.specs.declared.filter_id.FilterId.{FilterId}
use Rattle.jt_ids.specs.declared.filter_id.FilterId.TheVariants as filter
use Rattle.jt_ids.specs.declared.filter_id.ArgumentRole.{ArgumentRole}
use Rattle.jt_ids.specs.declared.filter_id.ArgumentRole.TheVariants as naming
use Rattle.jt_ids.specs.FilterTable.{filter_names, filter_of_name, least_values, most_values, named_at}
use Rattle.jt_ids.specs.declared.test_id.TestId.{TestId}
use Rattle.jt_ids.specs.TestTable.{test_of_name, test_values}
use Rattle.jt_scan.specs.declared.segment.Segment.{Segment}
use Rattle.jt_scan.specs.declared.segment.SegmentKind.{SegmentKind}
use Rattle.jt_scan.specs.declared.segment.SegmentKind.TheVariants as part
use Rattle.jt_scan.specs.declared.segment.Sign.TheVariants as sign
use Rattle.jt_scan.specs.declared.segment.TagKind.{TagKind}
use Rattle.jt_scan.specs.declared.segment.TagKind.TheVariants as tag_kind
use Rattle.jt_scan.specs.declared.segment.Token.{Token}
use Rattle.jt_scan.specs.declared.segment.Token.TheVariants as t
use Rattle.jt_ast.specs.Expressions as trees
use Rattle.jt_ast.specs.Expressions.{Literal, Text}
use Rattle.jt_ast.specs.Statements.{Parameter}
use Rattle.jt_eval.specs.TheFilters.{filter_parameters}
use Rattle.jt_hints.specs.DefinedNames.{if_some}

-- ---- how many arguments, and their names

abbrev pub arguments : ℕ → Text
arguments n = if n == 1 then codes "1 argument" else decimal n ++ codes " arguments"

-- A number of arguments from the least to the greatest.
abbrev pub from_to : ℕ → ℕ → Text
from_to least most =
    if most == 0 then codes "no arguments"
    else if least == most then arguments most
    else if least == 0 then codes "at most " ++ arguments most
    else decimal least ++ (codes " to " ++ arguments most)

-- Each name after a comma.
abbrev pub further : List Text → Text
further names = flat_map (λ x. codes ", " ++ x) names

-- Names after a colon, with commas between them.
abbrev pub listed : List Text → Text
listed [] = []
listed (x ∷ xs) = codes ": " ++ (x ++ further xs)

-- A constant, as templates spell it.
abbrev pub constant_text : Literal → Text
constant_text (trees.number n) = signed_decimal n
constant_text (trees.text x) = codes "\"" ++ (x ++ codes "\"")
constant_text (trees.truth true) = codes "true"
constant_text (trees.truth false) = codes "false"
constant_text trees.nothing = codes "none"

abbrev pub default_text : Option Literal → Text
default_text (Some x) = codes "=" ++ constant_text x
default_text None = []

-- The name of a parameter, and its default if it has one.
abbrev pub parameter_text : Parameter → Text
parameter_text p = p.name ++ default_text p.default

-- ---- filters

-- What a filter takes whose first argument names something; the second argument may name a test.
abbrev pub naming_text : Option ArgumentRole → Option ArgumentRole → Option Text
naming_text (Some naming.Filter) next =
    Some (codes "it takes the name of a filter in quotes and what that filter takes, or attribute=\"key\" alone")
naming_text (Some naming.Test) next =
    Some (codes "it takes nothing, or the name of a test in quotes and what that test takes")
naming_text (Some naming.Key) (Some role) =
    Some (codes "it takes a key in quotes, and then nothing, or the name of a test in quotes and what that test takes")
naming_text (Some naming.Key) None = Some (codes "it takes a key in quotes")
naming_text None next = None

abbrev pub taken_by_naming : FilterId → Option Text
taken_by_naming f = naming_text (named_at f 1) (named_at f 2)

-- True if the filter takes the name of a key in Jinja, where it then works on that item of each item.
abbrev pub has_key_in_jinja : FilterId → Bool
has_key_in_jinja filter.Join = true
has_key_in_jinja filter.Max = true
has_key_in_jinja filter.Min = true
has_key_in_jinja filter.Sum = true
has_key_in_jinja filter.Unique = true
has_key_in_jinja f = false

abbrev pub first_name : List Text → Text
first_name [] = []
first_name (x ∷ xs) = x

-- What to write in place of the name of a key.
abbrev pub key_text : FilterId → Text
key_text filter.Sort =
    codes "; the host sorts items by a key, and map(attribute=\"key\")|sort sorts the keys alone"
key_text f =
    if has_key_in_jinja f
    then codes "; for one key of each item write map(attribute=\"key\")|" ++ first_name (filter_names f)
    else []

-- The number of arguments, the names of those that have one, and what to write in place of a key.
abbrev pub counted : FilterId → Text
counted f =
    codes "it takes "
    ++ (from_to (least_values f - 1) (most_values f - 1)
    ++ (listed (map parameter_text (filter_parameters f)) ++ key_text f))

-- What a filter takes.
abbrev pub taken_by_filter : FilterId → Text
taken_by_filter f = unwrap_or (taken_by_naming f) (counted f)

abbrev pub filter_arguments : Text → Option Text
filter_arguments name = option_map taken_by_filter (filter_of_name name)

-- ---- tests and functions, whose arguments have no names

abbrev pub by_position : Text → Text
by_position x = codes "it takes " ++ (x ++ codes ", by position")

-- What a test takes after the value that it tests.
abbrev pub taken_by_test : TestId → Text
taken_by_test f =
    if test_values f == 1 then codes "it takes no arguments" else by_position (arguments (test_values f - 1))

abbrev pub test_arguments : Text → Option Text
test_arguments name = option_map taken_by_test (test_of_name name)

-- What a function takes that is called by this name.
abbrev pub function_arguments : Text → Option Text
function_arguments name =
    if bytes_eq name (codes "range") then Some (by_position (from_to 1 3))
    else if bytes_eq name (codes "super") then Some (codes "it takes no arguments")
    else None

-- What a block of `self` and `loop.cycle` take.
abbrev pub field_arguments : Text → Text → Option Text
field_arguments of field =
    if bytes_eq of (codes "self") then Some (codes "it takes no arguments")
    else if bytes_eq of (codes "loop") && bytes_eq field (codes "cycle")
    then Some (codes "it takes at least 1 argument, by position")
    else None

-- ---- macros

-- A parameter of a macro follows the parenthesis or a comma.
abbrev pub parameter_here : Token → List Token → Option Text
parameter_here (t.Sign sign.LeftParen) (t.Name x ∷ rest) = Some x.now
parameter_here (t.Sign sign.Comma) (t.Name x ∷ rest) = Some x.now
parameter_here token behind = None

abbrev pub parameters_in : List Token → List Text
parameters_in [] = []
parameters_in (token ∷ behind) = if_some (parameter_here token behind) ++ parameters_in behind

-- The parameters of the macro of this name, if the tokens are those of its tag.
abbrev pub parameters_of : Text → List Token → Option (List Text)
parameters_of name (t.Name word ∷ t.Name x ∷ behind) =
    if bytes_eq word.now (codes "macro") && bytes_eq x.now name then Some (parameters_in behind) else None
parameters_of name tokens = None

abbrev pub parameters_in_tag : Text → TagKind → List Token → Option (List Text)
parameters_in_tag name tag_kind.Block tokens = parameters_of name tokens
parameters_in_tag name tag_kind.Variable tokens = None

abbrev pub parameters_in_part : Text → SegmentKind → Option (List Text)
parameters_in_part name (part.Tag tag) = parameters_in_tag name tag.kind tag.tokens.items
parameters_in_part name p = None

abbrev pub parameters_at : Text → Segment → Option (List Text)
parameters_at name segment = parameters_in_part name segment.part

-- The parameters of the first macro of this name.
abbrev pub macro_parameters : Text → List Segment → Option (List Text)
macro_parameters name [] = None
macro_parameters name (s ∷ ss) = option_or (parameters_at name s) (macro_parameters name ss)

-- What a macro with these parameters takes.
abbrev pub taken_by_macro : List Text → Text
taken_by_macro names = codes "it takes " ++ (from_to 0 (length names) ++ listed names)

-- What the macro of this name takes, if a tag declares it.
abbrev pub macro_arguments : Text → List Segment → Option Text
macro_arguments name segments = option_map taken_by_macro (macro_parameters name segments)
