-- How the statements of a template nest: each tag that closes or continues a statement fits the
-- innermost open one, and at the end none is open. The first tag that does not fit, or else the
-- innermost statement that stays open, gives the hint, if it is at the line.
use Rattle.std.specs.Prelude.{ℕ, ◌==◌, ◌-◌, ◌||◌, Bool, true, false, List, [], ◌∷◌, ◌++◌, Option, Some, None}
use Rattle.std.specs.Prelude.{codes, if◌then◌else◌, length, take, slice_get, unwrap_or, option_map, find}
use Rattle.std.specs.List.{list_any}
use Rattle.std.specs.Str.{bytes_eq}
use Rattle.jt_scan.specs.declared.segment.Segment.{Segment}
use Rattle.jt_scan.specs.declared.segment.SegmentKind.{SegmentKind}
use Rattle.jt_scan.specs.declared.segment.SegmentKind.TheVariants as part
use Rattle.jt_scan.specs.declared.segment.Sign.TheVariants as sign
use Rattle.jt_scan.specs.declared.segment.TagKind.{TagKind}
use Rattle.jt_scan.specs.declared.segment.TagKind.TheVariants as kind
use Rattle.jt_scan.specs.declared.segment.Token.{Token}
use Rattle.jt_scan.specs.declared.segment.Token.TheVariants as t
use Rattle.jt_hints.specs.declared.nesting.NestingHint.{NestingHint}
use Rattle.jt_hints.specs.declared.nesting.NestingHint.TheVariants as hint
use Rattle.jt_hints.specs.declared.nesting.Opened.{Opened}
use Rattle.jt_hints.specs.declared.nesting.Role.{Role}
use Rattle.jt_hints.specs.declared.nesting.Role.TheVariants as role
use Rattle.jt_hints.specs.declared.nesting.Statement.{Statement}
use Rattle.jt_hints.specs.declared.nesting.Statement.TheVariants as statement

abbrev pub position : Statement → ℕ
position statement.If = 0
position statement.For = 1
position statement.Set = 2
position statement.With = 3
position statement.Filter = 4
position statement.Autoescape = 5
position statement.Macro = 6
position statement.Block = 7

-- ---- what a tag does to the open statements

abbrev pub is_assign : Token → Bool
is_assign (t.Sign sign.Assign) = true
is_assign token = false

-- A `set` without a `=` has a body.
abbrev pub set_role : List Token → Role
set_role tokens = if list_any is_assign tokens then role.Stands else role.Opens statement.Set

abbrev pub role_in_rows : List (List ℕ × Role) → List ℕ → Role
role_in_rows rows word = unwrap_or (option_map (λ row. row.1) (find (λ row. bytes_eq word row.0) rows)) role.Stands

abbrev pub closing_role : List ℕ → Role
closing_role = role_in_rows (
    (codes "endif", role.Closes statement.If)
    ∷ (codes "endfor", role.Closes statement.For)
    ∷ (codes "endset", role.Closes statement.Set)
    ∷ (codes "endwith", role.Closes statement.With)
    ∷ (codes "endfilter", role.Closes statement.Filter)
    ∷ (codes "endautoescape", role.Closes statement.Autoescape)
    ∷ (codes "endmacro", role.Closes statement.Macro)
    ∷ (codes "endblock", role.Closes statement.Block)
    ∷ [])

abbrev pub role_of : List ℕ → List Token → Role
role_of word tokens =
    if bytes_eq word (codes "if") then role.Opens statement.If
    else if bytes_eq word (codes "for") then role.Opens statement.For
    else if bytes_eq word (codes "set") then set_role tokens
    else if bytes_eq word (codes "with") then role.Opens statement.With
    else if bytes_eq word (codes "filter") then role.Opens statement.Filter
    else if bytes_eq word (codes "autoescape") then role.Opens statement.Autoescape
    else if bytes_eq word (codes "macro") then role.Opens statement.Macro
    else if bytes_eq word (codes "block") then role.Opens statement.Block
    else if bytes_eq word (codes "elif") then role.ContinuesIf
    else if bytes_eq word (codes "else") then role.ContinuesIfOrFor
    else closing_role word

abbrev pub role_of_tokens : TagKind → List Token → Role
role_of_tokens kind.Block (t.Name x ∷ rest) = role_of x.now rest
role_of_tokens k tokens = role.Stands

-- What a segment does, and its line if it is a tag.
abbrev pub role_of_part : SegmentKind → Role × ℕ
role_of_part (part.Tag tag) = (role_of_tokens tag.kind tag.tokens.items, tag.line)
role_of_part p = (role.Stands, 0)

abbrev pub role_in : Segment → Role × ℕ
role_in segment = role_of_part segment.part

-- ---- whether it fits the innermost open statement

abbrev pub misfit : Option Opened → Bool → Option NestingHint
misfit None fits = Some hint.NothingOpen
misfit (Some o) fits = if fits then None else Some (hint.OtherOpen o.statement o.line)

abbrev pub is_open : Option Opened → Statement → Bool
is_open (Some o) s = position o.statement == position s
is_open None s = false

abbrev pub clash : Option Opened → Role → Option NestingHint
clash o (role.Closes s) = misfit o (is_open o s)
clash o role.ContinuesIf = misfit o (is_open o statement.If)
clash o role.ContinuesIfOrFor = misfit o (is_open o statement.If || is_open o statement.For)
clash o r = None

-- The open statements after a tag. The innermost is the last.
abbrev pub opened_after : List Opened → Role → ℕ → List Opened
opened_after opened (role.Opens s) line = opened ++ record { statement = s; line = line } ∷ []
opened_after opened (role.Closes s) line = take (length opened - 1) opened
opened_after opened r line = opened

abbrev pub innermost : List Opened → Option Opened
innermost opened = slice_get opened (length opened - 1)

abbrev pub unclosed : Option Opened → ℕ → Option NestingHint
unclosed (Some o) line = if o.line == line then Some (hint.Unclosed o.statement) else None
unclosed None line = None

-- ---- all segments, from the first on

-- A tag that does not fit ends the search, and counts at its line alone.
abbrev pub first_of : Option NestingHint → Bool → Option NestingHint → Option NestingHint
first_of (Some h) here later = if here then Some h else None
first_of None here later = later

abbrev pub hint_from : List Opened → List Segment → ℕ → Option NestingHint
hint_from opened [] line = unclosed (innermost opened) line
hint_from opened (segment ∷ rest) line =
    first_of (clash (innermost opened) (role_in segment).0) ((role_in segment).1 == line)
    (hint_from (opened_after opened (role_in segment).0 (role_in segment).1) rest line)

abbrev pub nesting_hint : List Segment → ℕ → Option NestingHint
nesting_hint segments line = hint_from [] segments line

-- ---- what an explanation says

abbrev pub unclosed_sentence : Statement → List ℕ
unclosed_sentence statement.If = codes "this statement is never closed: endif is missing"
unclosed_sentence statement.For = codes "this statement is never closed: endfor is missing"
unclosed_sentence statement.Set = codes "this statement is never closed: endset is missing"
unclosed_sentence statement.With = codes "this statement is never closed: endwith is missing"
unclosed_sentence statement.Filter = codes "this statement is never closed: endfilter is missing"
unclosed_sentence statement.Autoescape = codes "this statement is never closed: endautoescape is missing"
unclosed_sentence statement.Macro = codes "this statement is never closed: endmacro is missing"
unclosed_sentence statement.Block = codes "this statement is never closed: endblock is missing"

abbrev pub other_sentence : Statement → List ℕ
other_sentence statement.If = codes "an if statement is open here: endif has to come first"
other_sentence statement.For = codes "a for statement is open here: endfor has to come first"
other_sentence statement.Set = codes "a set statement is open here: endset has to come first"
other_sentence statement.With = codes "a with statement is open here: endwith has to come first"
other_sentence statement.Filter = codes "a filter statement is open here: endfilter has to come first"
other_sentence statement.Autoescape = codes "an autoescape statement is open here: endautoescape has to come first"
other_sentence statement.Macro = codes "a macro statement is open here: endmacro has to come first"
other_sentence statement.Block = codes "a block statement is open here: endblock has to come first"

abbrev pub sentence : NestingHint → List ℕ
sentence (hint.Unclosed s) = unclosed_sentence s
sentence hint.NothingOpen = codes "this tag closes or continues a statement, and none is open here"
sentence (hint.OtherOpen s line) = other_sentence s
