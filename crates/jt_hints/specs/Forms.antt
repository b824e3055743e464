-- The forms of Jinja and of other languages that the language does not have, by the tokens of a tag.
-- A tag is read from the left. At each token it is known what stands before: the open brackets with
-- their roles, the kind of the last token, and whether a comparison or the tag's expression has
-- begun. The first place at which a form stands gives the hint.
use Rattle.std.specs.Prelude.{ℕ, ◌==◌, ◌-◌, ◌&&◌, ◌||◌, not, Bool, true, false, List, [], ◌∷◌, ◌++◌}
use Rattle.std.specs.Prelude.{Option, Some, None, codes, if◌then◌else◌}
use Rattle.std.specs.Prelude.{length, take, slice_get, unwrap_or, option_map, find}
use Rattle.std.specs.List.{list_any}
use Rattle.std.specs.Option.{option_or}
use Rattle.std.specs.Str.{bytes_eq}
use Rattle.jt_scan.specs.declared.segment.Sign.{Sign}
use Rattle.jt_scan.specs.declared.segment.Sign.TheVariants as sign
use Rattle.jt_scan.specs.declared.segment.TagKind.{TagKind}
use Rattle.jt_scan.specs.declared.segment.TagKind.TheVariants as kind
use Rattle.jt_scan.specs.declared.segment.Token.{Token}
use Rattle.jt_scan.specs.declared.segment.Token.TheVariants as t
use Rattle.jt_hints.specs.declared.places.Before.{Before}
use Rattle.jt_hints.specs.declared.places.Before.TheVariants as before
use Rattle.jt_hints.specs.declared.places.Bracket.{Bracket}
use Rattle.jt_hints.specs.declared.places.Bracket.TheVariants as bracket
use Rattle.jt_hints.specs.declared.places.TagForm.{TagForm}
use Rattle.jt_hints.specs.declared.places.TagForm.TheVariants as form
use Rattle.jt_hints.specs.declared.syntax.SyntaxHint.{SyntaxHint}
use Rattle.jt_hints.specs.declared.syntax.SyntaxHint.TheVariants as hint

-- ---- words and signs

abbrev pub is_one_of : List (List ℕ) → List ℕ → Bool
is_one_of words word = list_any (bytes_eq word) words

-- A word that is an operator or a part of an inline if: an operand begins after it.
abbrev pub is_operator_word : List ℕ → Bool
is_operator_word = is_one_of (
    codes "and" ∷ codes "or" ∷ codes "not" ∷ codes "if" ∷ codes "else" ∷ codes "in" ∷ codes "is"
    ∷ [])

abbrev pub closes : Sign → Bool
closes sign.RightParen = true
closes sign.RightBracket = true
closes sign.RightBrace = true
closes s = false

abbrev pub compares : Sign → Bool
compares sign.Less = true
compares sign.Greater = true
compares sign.Equal = true
compares sign.NotEqual = true
compares sign.LessEqual = true
compares sign.GreaterEqual = true
compares s = false

-- A bracket, and a sign between two expressions: a comparison does not go on behind it.
abbrev pub ends_comparison : Sign → Bool
ends_comparison sign.LeftParen = true
ends_comparison sign.RightParen = true
ends_comparison sign.LeftBracket = true
ends_comparison sign.RightBracket = true
ends_comparison sign.LeftBrace = true
ends_comparison sign.RightBrace = true
ends_comparison sign.Comma = true
ends_comparison sign.Colon = true
ends_comparison sign.Assign = true
ends_comparison s = false

-- ---- what stands before a token

pub record Place : Type 0 where
  pub form : TagForm
  pub brackets : List Bracket
  pub before : Before
  pub compared : Bool
  pub valued : Bool

-- Outside all brackets, the expression of a print tag or an `if` begins at once.
abbrev pub is_expression : TagForm → Bool
is_expression form.Expression = true
is_expression f = false

abbrev pub start : TagForm → Place
start f = record { form = f; brackets = []; before = before.Operator; compared = false; valued = is_expression f }

abbrev pub kind_of : Token → Before
kind_of (t.Text x) = before.Text
kind_of (t.Number n) = before.Number
kind_of (t.Name x) = if is_operator_word x.now then before.Operator else before.Operand
kind_of (t.Sign sign.Pipe) = before.Bar
kind_of (t.Sign s) = if closes s then before.Operand else before.Operator

-- A name after `|` is that of a filter.
abbrev pub kind_after : Before → Token → Before
kind_after before.Bar (t.Name x) = before.Filter
kind_after b token = kind_of token

abbrev pub ends_operand : Before → Bool
ends_operand before.Text = true
ends_operand before.Number = true
ends_operand before.Operand = true
ends_operand before.Filter = true
ends_operand b = false

-- The role of the bracket that a sign opens: `(` and `[` after an operand are a call and an index.
abbrev pub bracket_of : Before → Sign → Option Bracket
bracket_of b sign.LeftParen = Some (if ends_operand b then bracket.Call else bracket.Group)
bracket_of b sign.LeftBracket = Some (if ends_operand b then bracket.Index else bracket.List)
bracket_of b sign.LeftBrace = Some bracket.Map
bracket_of b s = None

abbrev pub opened : List Bracket → Option Bracket → Bool → List Bracket
opened brackets (Some b) closing = brackets ++ b ∷ []
opened brackets None closing = if closing then take (length brackets - 1) brackets else brackets

abbrev pub brackets_after : Place → Token → List Bracket
brackets_after p (t.Sign s) = opened p.brackets (bracket_of p.before s) (closes s)
brackets_after p token = p.brackets

abbrev pub innermost : Place → Option Bracket
innermost p = slice_get p.brackets (length p.brackets - 1)

-- A comparison goes on behind operands and the operators that bind tighter.
abbrev pub is_compared_after : Place → Token → Bool
is_compared_after p (t.Sign s) = compares s || (p.compared && not (ends_comparison s))
is_compared_after p (t.Name x) =
    not (is_one_of (codes "and" ∷ codes "or" ∷ codes "if" ∷ codes "else" ∷ []) x.now) && p.compared
is_compared_after p token = p.compared

abbrev pub is_empty : List Bracket → Bool
is_empty brackets = length brackets == 0

-- The expression of a `for` begins behind its `in`, and that of a `set` behind its `=`.
abbrev pub begins_value : TagForm → Token → Bool
begins_value form.Loop (t.Name x) = bytes_eq x.now (codes "in")
begins_value form.Set (t.Sign sign.Assign) = true
begins_value f token = false

abbrev pub is_valued_after : Place → Token → Bool
is_valued_after p token = p.valued || (begins_value p.form token && is_empty p.brackets)

abbrev pub after : Place → Token → Place
after p token = record {
  form = p.form;
  brackets = brackets_after p token;
  before = kind_after p.before token;
  compared = is_compared_after p token;
  valued = is_valued_after p token;
}

-- ---- the forms at a place

abbrev pub hint_if : Bool → SyntaxHint → Option SyntaxHint
hint_if holds h = if holds then Some h else None

-- In the tag's expression, outside all brackets.
abbrev pub is_at_top : Place → Bool
is_at_top p = p.valued && is_empty p.brackets

-- A colon in an index is a slice, and one in a map follows the text of a key.
abbrev pub colon_in : Option Bracket → Before → Option SyntaxHint
colon_in (Some bracket.Index) b = Some hint.Slice
colon_in (Some bracket.Map) before.Text = None
colon_in (Some bracket.Map) b = Some hint.UnquotedKey
colon_in o b = None

abbrev pub colon_hint : Place → Option SyntaxHint
colon_hint p = colon_in (innermost p) p.before

abbrev pub is_group : Option Bracket → Bool
is_group (Some bracket.Group) = true
is_group o = false

abbrev pub is_operator : Before → Bool
is_operator before.Operator = true
is_operator b = false

-- A comma follows an expression. In parentheses that hold no arguments, or outside all brackets, it makes a tuple.
abbrev pub comma_hint : Place → Option SyntaxHint
comma_hint p =
    if is_operator p.before then Some hint.MissingItem
    else hint_if (is_group (innermost p) || is_at_top p) hint.Tuple

-- A `=` names an argument in a call, and otherwise it assigns.
abbrev pub assigns : Option Bracket → Bool → Bool
assigns None valued = valued
assigns (Some bracket.Call) valued = false
assigns (Some b) valued = true

abbrev pub is_constant : List ℕ → Bool
is_constant = is_one_of (
    codes "true" ∷ codes "false" ∷ codes "none" ∷ codes "True" ∷ codes "False" ∷ codes "None" ∷ [])

-- A parameter's default is a number, a text or a constant: neither another name, a list nor a map.
abbrev pub default_hint : List Token → Option SyntaxHint
default_hint (t.Name x ∷ rest) = hint_if (not (is_constant x.now)) hint.DefaultIsNoConstant
default_hint (t.Sign sign.LeftBracket ∷ rest) = Some hint.DefaultIsNoConstant
default_hint (t.Sign sign.LeftBrace ∷ rest) = Some hint.DefaultIsNoConstant
default_hint rest = None

abbrev pub assign_in : TagForm → Place → List Token → Option SyntaxHint
assign_in form.Macro p rest = default_hint rest
assign_in f p rest = hint_if (assigns (innermost p) p.valued) hint.Assignment

abbrev pub assign_hint : Place → List Token → Option SyntaxHint
assign_hint p rest = assign_in p.form p rest

-- A dot before a dot, and a dot before a number: after a number it is a fraction.
abbrev pub dot_before : Before → List Token → Option SyntaxHint
dot_before b (t.Sign sign.Dot ∷ rest) = Some hint.RangeDots
dot_before before.Number (t.Number n ∷ rest) = Some hint.Fraction
dot_before b (t.Number n ∷ rest) = Some hint.NumberAfterDot
dot_before b rest = None

abbrev pub dot_hint : Place → List Token → Option SyntaxHint
dot_hint p rest = dot_before p.before rest

-- A `%` between a text and a parenthesis.
abbrev pub percent_after : Before → List Token → Option SyntaxHint
percent_after before.Text (t.Sign sign.LeftParen ∷ rest) = Some hint.Formatting
percent_after b rest = None

abbrev pub percent_hint : Place → List Token → Option SyntaxHint
percent_hint p rest = percent_after p.before rest

-- A `*` or `**` at the beginning of an argument.
abbrev pub star_in : Option Bracket → Before → Option SyntaxHint
star_in (Some bracket.Call) before.Operator = Some hint.Unpacking
star_in o b = None

abbrev pub star_hint : Place → Option SyntaxHint
star_hint p = star_in (innermost p) p.before

abbrev pub is_bar : Before → Bool
is_bar before.Bar = true
is_bar b = false

-- The sign that closes a bracket is missing.
abbrev pub missing : Bracket → SyntaxHint
missing bracket.Group = hint.MissingParen
missing bracket.Call = hint.MissingParen
missing bracket.Index = hint.MissingSquare
missing bracket.List = hint.MissingSquare
missing bracket.Map = hint.MissingBrace

abbrev pub is_closed_by : Bracket → Sign → Bool
is_closed_by bracket.Group sign.RightParen = true
is_closed_by bracket.Call sign.RightParen = true
is_closed_by bracket.Index sign.RightBracket = true
is_closed_by bracket.List sign.RightBracket = true
is_closed_by bracket.Map sign.RightBrace = true
is_closed_by b s = false

-- Parentheses without arguments and an index have an expression.
abbrev pub needs_expression : Bracket → Bool
needs_expression bracket.Group = true
needs_expression bracket.Index = true
needs_expression b = false

abbrev pub close_in : Option Bracket → Before → Sign → Option SyntaxHint
close_in None b s = Some hint.UnopenedBracket
close_in (Some inner) b s =
    if is_closed_by inner s then hint_if (needs_expression inner && is_operator b) hint.MissingExpression
    else Some (missing inner)

-- A sign that closes a bracket closes the innermost one.
abbrev pub close_hint : Place → Sign → Option SyntaxHint
close_hint p s = close_in (innermost p) p.before s

-- A `{` before a `{` or a `%` begins no map, but a tag in a tag.
abbrev pub brace_hint : List Token → Option SyntaxHint
brace_hint (t.Sign sign.LeftBrace ∷ rest) = Some hint.NestedTag
brace_hint (t.Sign sign.Percent ∷ rest) = Some hint.NestedTag
brace_hint rest = None

-- In a `set` a `==` before the value stands for `=`.
abbrev pub sets_by_comparison : TagForm → Place → Bool
sets_by_comparison form.Set p = not p.valued && is_empty p.brackets
sets_by_comparison f p = false

-- Two comparisons in a row are a chain.
abbrev pub compare_hint : Place → Sign → Option SyntaxHint
compare_hint p sign.Equal =
    if sets_by_comparison p.form p then Some hint.SetByComparison else hint_if p.compared hint.ChainedComparison
compare_hint p s = hint_if (p.compared && compares s) hint.ChainedComparison

-- A sign after a filter's name, or after an expression.
abbrev pub plain_sign_hint : Place → Sign → List Token → Option SyntaxHint
plain_sign_hint p sign.Colon rest = colon_hint p
plain_sign_hint p sign.Comma rest = comma_hint p
plain_sign_hint p sign.Assign rest = assign_hint p rest
plain_sign_hint p sign.Dot rest = dot_hint p rest
plain_sign_hint p sign.Percent rest = percent_hint p rest
plain_sign_hint p sign.Times rest = star_hint p
plain_sign_hint p sign.Power rest = star_hint p
plain_sign_hint p sign.LeftBrace rest = brace_hint rest
plain_sign_hint p sign.RightParen rest = close_hint p sign.RightParen
plain_sign_hint p sign.RightBracket rest = close_hint p sign.RightBracket
plain_sign_hint p sign.RightBrace rest = close_hint p sign.RightBrace
plain_sign_hint p s rest = compare_hint p s

-- A sign after `|` stands where a filter's name belongs.
abbrev pub bar_hint : Sign → SyntaxHint
bar_hint sign.Pipe = hint.DoubledBar
bar_hint s = hint.MissingFilter

abbrev pub sign_hint : Place → Sign → List Token → Option SyntaxHint
sign_hint p s rest = if is_bar p.before then Some (bar_hint s) else plain_sign_hint p s rest

-- In a list, a map or arguments, items are separated by commas.
abbrev pub has_items : Option Bracket → Bool
has_items (Some bracket.Call) = true
has_items (Some bracket.List) = true
has_items (Some bracket.Map) = true
has_items o = false

-- Two values side by side.
abbrev pub beside_hint : Place → Option SyntaxHint
beside_hint p =
    if has_items (innermost p) then Some hint.MissingComma
    else hint_if (p.valued || not (is_empty p.brackets)) hint.MissingOperator

-- A text after `|`, a filter's name, a text or a number.
abbrev pub text_after : Before → Place → Option SyntaxHint
text_after before.Bar p = Some hint.MissingFilter
text_after before.Filter p = Some hint.ArgumentsWithoutParens
text_after before.Text p = if has_items (innermost p) then Some hint.MissingComma else Some hint.AdjacentTexts
text_after before.Number p = beside_hint p
text_after b p = None

-- A number after `|`, a filter's name, a text or a number.
abbrev pub number_after : Before → Place → Option SyntaxHint
number_after before.Bar p = Some hint.MissingFilter
number_after before.Filter p = Some hint.ArgumentsWithoutParens
number_after before.Text p = beside_hint p
number_after before.Number p = beside_hint p
number_after b p = None

-- A name after a text or a number.
abbrev pub name_after : Before → Place → Option SyntaxHint
name_after before.Text p = beside_hint p
name_after before.Number p = beside_hint p
name_after b p = None

-- The word `for` after an operand, in brackets, or a name that is no operator after a value.
abbrev pub name_hint : Place → List ℕ → Option SyntaxHint
name_hint p x =
    if (bytes_eq x (codes "for") && ends_operand p.before) && not (is_empty p.brackets) then Some hint.Comprehension
    else if is_operator_word x then None else name_after p.before p

abbrev pub token_hint : Place → Token → List Token → Option SyntaxHint
token_hint p (t.Sign s) rest = sign_hint p s rest
token_hint p (t.Name x) rest = name_hint p x.now
token_hint p (t.Text x) rest = text_after p.before p
token_hint p (t.Number n) rest = number_after p.before p

-- At the end of a tag a bracket is still open, a filter has no name, or an expression is missing.
abbrev pub end_in : Option Bracket → Place → Option SyntaxHint
end_in (Some inner) p = Some (missing inner)
end_in None p =
    if is_bar p.before then Some hint.MissingFilter
    else hint_if (p.valued && is_operator p.before) hint.MissingExpression

abbrev pub end_hint : Place → Option SyntaxHint
end_hint p = end_in (innermost p) p

-- The first form that stands in the tokens from a place on, or at their end.
abbrev pub first_hint : Place → List Token → Option SyntaxHint
first_hint p [] = end_hint p
first_hint p (token ∷ rest) = option_or (token_hint p token rest) (first_hint (after p token) rest)

-- ---- the forms of a statement's tag

abbrev pub form_of : List ℕ → TagForm
form_of word =
    if is_one_of (codes "if" ∷ codes "elif" ∷ []) word then form.Expression
    else if bytes_eq word (codes "for") then form.Loop
    else if bytes_eq word (codes "set") then form.Set
    else if bytes_eq word (codes "macro") then form.Macro
    else form.Other

-- Jinja's statements that the language leaves out, and other spellings of `elif`.
abbrev pub unknown_words : List (List ℕ × SyntaxHint)
unknown_words =
    (codes "do", hint.Do)
    ∷ (codes "trans", hint.Trans)
    ∷ (codes "pluralize", hint.Trans)
    ∷ (codes "endtrans", hint.Trans)
    ∷ (codes "call", hint.CallBlock)
    ∷ (codes "endcall", hint.CallBlock)
    ∷ (codes "break", hint.Break)
    ∷ (codes "continue", hint.Continue)
    ∷ (codes "debug", hint.Debug)
    ∷ (codes "print", hint.Print)
    ∷ (codes "elseif", hint.ElseIf)
    ∷ (codes "elsif", hint.ElseIf)
    ∷ []

abbrev pub unknown_word : List ℕ → SyntaxHint
unknown_word word =
    unwrap_or (option_map (λ row. row.1) (find (λ row. bytes_eq word row.0) unknown_words)) hint.UnknownStatement

-- A token is this name.
abbrev pub is_name : List ℕ → Token → Bool
is_name word (t.Name x) = bytes_eq x.now word
is_name word token = false

abbrev pub else_hint : List Token → Option SyntaxHint
else_hint [] = None
else_hint (token ∷ rest) = hint_if (is_name (codes "if") token) hint.ElseIf

-- A template's name is a text, alone or before a word other than `if`.
abbrev pub template_hint : List Token → Option SyntaxHint
template_hint [] = None
template_hint (t.Text x ∷ []) = None
template_hint (t.Text x ∷ t.Name word ∷ rest) = hint_if (bytes_eq word.now (codes "if")) hint.ExpressionAsName
template_hint tokens = Some hint.ExpressionAsName

-- `autoescape` takes one word, true or false.
abbrev pub autoescape_hint : List Token → Option SyntaxHint
autoescape_hint (token ∷ []) =
    hint_if (not (is_name (codes "true") token || is_name (codes "false") token)) hint.AutoescapeValue
autoescape_hint tokens = Some hint.AutoescapeValue

-- The token exists, and is this name.
abbrev pub is_name_at : List ℕ → Option Token → Bool
is_name_at word (Some token) = is_name word token
is_name_at word None = false

-- After the word `ignore` stands `missing`.
abbrev pub ignored_hint : List Token → Option SyntaxHint
ignored_hint tokens =
    hint_if
    (is_name_at (codes "ignore") (slice_get tokens 1) && not (is_name_at (codes "missing") (slice_get tokens 2)))
    hint.IgnoreMissing

-- A template's name, and the words after it.
abbrev pub include_hint : List Token → Option SyntaxHint
include_hint tokens = option_or (template_hint tokens) (ignored_hint tokens)

-- The last token, and the one before it.
abbrev pub last : List Token → Option Token
last tokens = slice_get tokens (length tokens - 1)

abbrev pub last_but_one : List Token → Option Token
last_but_one tokens = slice_get tokens (length tokens - 2)

abbrev pub import_hint : List Token → Option SyntaxHint
import_hint tokens =
    if is_name_at (codes "with") (last_but_one tokens) && is_name_at (codes "context") (last tokens)
    then Some hint.WithContext
    else template_hint tokens

abbrev pub loop_hint : List Token → Option SyntaxHint
loop_hint tokens = hint_if (is_name_at (codes "recursive") (last tokens)) hint.RecursiveLoop

-- An attribute in the place of a plain name.
abbrev pub target_hint : List Token → Option SyntaxHint
target_hint (t.Name x ∷ t.Sign sign.Dot ∷ rest) = Some hint.AttributeTarget
target_hint tokens = None

-- The first words of tags of which nothing more is looked for there.
abbrev pub is_plain_word : List ℕ → Bool
is_plain_word = is_one_of (
    codes "if" ∷ codes "elif" ∷ codes "endif" ∷ codes "endfor" ∷ codes "endset" ∷ codes "with"
    ∷ codes "endwith" ∷ codes "filter" ∷ codes "endfilter" ∷ codes "endautoescape" ∷ codes "macro"
    ∷ codes "endmacro" ∷ codes "block" ∷ codes "endblock" ∷ [])

abbrev pub head_hint : List ℕ → List Token → Option SyntaxHint
head_hint word tokens =
    if bytes_eq word (codes "else") then else_hint tokens
    else if bytes_eq word (codes "extends") then template_hint tokens
    else if bytes_eq word (codes "include") then include_hint tokens
    else if bytes_eq word (codes "autoescape") then autoescape_hint tokens
    else if is_one_of (codes "import" ∷ codes "from" ∷ []) word then import_hint tokens
    else if bytes_eq word (codes "for") then loop_hint tokens
    else if bytes_eq word (codes "set") then target_hint tokens
    else if is_plain_word word then None
    else Some (unknown_word word)

-- ---- the hint of a tag

abbrev pub syntax_hint : TagKind → List Token → Option SyntaxHint
syntax_hint k [] = Some hint.EmptyTag
syntax_hint kind.Variable tokens = first_hint (start form.Expression) tokens
syntax_hint kind.Block (t.Name x ∷ rest) =
    option_or (head_hint x.now rest) (first_hint (start (form_of x.now)) rest)
syntax_hint kind.Block tokens = None

-- ---- what an explanation says of a form

abbrev pub sentence : SyntaxHint → List ℕ
sentence hint.Slice = codes "there are no slices: take items by number, or choose them in a loop by loop.index"
sentence hint.Tuple = codes "there are no tuples: lists are written in [ ], and targets without parentheses"
sentence hint.Fraction = codes "there are no fractions: numbers are whole, and // divides and rounds down"
sentence hint.NumberAfterDot = codes "a name follows a dot: write x[0] in place of x.0"
sentence hint.ChainedComparison = codes "comparisons are not chained: write a < b and b < c"
sentence hint.Assignment = codes "= belongs to set and to named arguments: == compares"
sentence hint.Comprehension = codes "there are no comprehensions: use filters as map and select, or a for tag"
sentence hint.Unpacking = codes "arguments are written one by one: * and ** do not unpack lists and maps"
sentence hint.DoubledBar = codes "|| is no operator: write or"
sentence hint.AdjacentTexts = codes "texts side by side are not joined: write ~ between them"
sentence hint.Formatting = codes "% does not format texts: join the parts by ~"
sentence hint.UnquotedKey = codes "a key of a map is a text in quotes, as in {\"a\": 1}"
sentence hint.EmptyTag = codes "this tag is empty"
sentence hint.MissingItem = codes "an expression is missing before a comma"
sentence hint.MissingExpression = codes "an expression is missing: an operator, a bracket or the tag ends without one"
sentence hint.MissingParen = codes "a ) is missing"
sentence hint.MissingSquare = codes "a ] is missing"
sentence hint.MissingBrace = codes "a } is missing"
sentence hint.UnopenedBracket = codes "a bracket is closed that is not open"
sentence hint.MissingFilter = codes "the name of a filter is missing after |"
sentence hint.ArgumentsWithoutParens = codes "a filter's arguments stand in parentheses, as in x|join(\", \")"
sentence hint.MissingComma = codes "a comma is missing between two items"
sentence hint.MissingOperator = codes "an operator is missing between two values"
sentence hint.RangeDots = codes "numbers from a to b - 1 are range(a, b)"
sentence hint.NestedTag = codes "no tag stands in a tag: write the expression alone"
sentence hint.SetByComparison = codes "set gives a value by =, and == compares"
sentence hint.DefaultIsNoConstant = codes "a parameter's default is a constant: a number, a text, true, false or none"
sentence hint.IgnoreMissing = codes "the words are ignore missing"
sentence hint.AutoescapeValue = codes "autoescape takes true or false"
sentence hint.ElseIf = codes "the word is elif"
sentence hint.Do = codes "set takes the value of an expression, and values are never changed in place"
sentence hint.Trans = codes "the host passes the translated texts"
sentence hint.CallBlock = codes "keep the body by a set block, and pass it to the macro as an argument"
sentence hint.Break = codes "a loop visits all its items: choose them by if in its for tag"
sentence hint.Continue = codes "put the rest of the loop's body into an if statement"
sentence hint.Debug = codes "print single values"
sentence hint.Print = codes "a value is printed by {{ .. }}"
sentence hint.UnknownStatement = codes "no statement begins with this word"
sentence hint.ExpressionAsName = codes "a template's name is a text in quotes: choose one of several by if"
sentence hint.WithContext = codes "imported macros see no names of the importer: pass values as arguments"
sentence hint.RecursiveLoop = codes "loops are not recursive: a macro may call itself"
sentence hint.AttributeTarget = codes "set binds a plain name: there is no namespace, and no value is changed"
