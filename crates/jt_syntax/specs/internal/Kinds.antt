-- The kinds of tokens. Only private clauses cite this module.
use Rattle.std.specs.Prelude.{Bool, true, false, codes, bytes_eq, if◌then◌else◌}
use Rattle.jt_scan.specs.Cut as cut
use Rattle.jt_scan.specs.Cut.{Token}
use Rattle.jt_ast.specs.Expressions.{Text}
use Rattle.jt_expr.specs.Grammar.{literal_of, is_literal}
use Rattle.jt_syntax.specs.declared.kinds.Kind.{Kind}
use Rattle.jt_syntax.specs.declared.kinds.Kind.TheVariants as k

abbrev pub is_word : Kind → Bool
is_word k.Number = false
is_word k.Text = false
is_word (k.Sign j) = false
is_word _ = true

unfoldable pub word_kind : Text → Kind
word_kind x =
    if bytes_eq x (codes "and") then k.And
    else if bytes_eq x (codes "or") then k.Or
    else if bytes_eq x (codes "not") then k.Not
    else if bytes_eq x (codes "if") then k.If
    else if bytes_eq x (codes "else") then k.Else
    else if bytes_eq x (codes "in") then k.In
    else if bytes_eq x (codes "is") then k.Is
    else if is_literal (literal_of x) then k.Constant
    else k.Name

abbrev pub kind_of : Token → Kind
kind_of (cut.name x) = word_kind x
kind_of (cut.number n) = k.Number
kind_of (cut.text v) = k.Text
kind_of (cut.sign j) = k.Sign j
