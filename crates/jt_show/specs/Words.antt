-- What a listing calls the operators, filters, tests and fields of loops, and the constants.
use Rattle.std.specs.Prelude.{ℕ, ◌==◌, true, false, List, [], ◌∷◌, ◌++◌, Option, Some, None, codes, if◌then◌else◌}
use Rattle.std.specs.Fmt.{signed_decimal}
use Rattle.jt_ids.specs.declared.op_id.OpId.{OpId}
use Rattle.jt_ids.specs.declared.op_id.OpId.TheVariants as op
use Rattle.jt_ids.specs.declared.filter_id.FilterId.{FilterId}
use Rattle.jt_ids.specs.declared.test_id.TestId.{TestId}
use Rattle.jt_ids.specs.declared.loop_field.LoopField.{LoopField}
use Rattle.jt_ids.specs.FilterTable.{filter_names}
use Rattle.jt_ids.specs.TestTable.{test_names}
use Rattle.jt_ids.specs.LoopTable.{field_names}
use Rattle.jt_image.specs.Code.{Constant, undefined, nothing, truth_value, number, text, markup}
use Rattle.jt_show.specs.Quoted.{quoted}

abbrev pub operator_word : OpId → List ℕ
operator_word op.Add = codes "+"
operator_word op.Subtract = codes "-"
operator_word op.Multiply = codes "*"
operator_word op.FloorDivide = codes "//"
operator_word op.Remainder = codes "%"
operator_word op.Power = codes "**"
operator_word op.Negate = codes "sign -"
operator_word op.Plus = codes "sign +"
operator_word op.Not = codes "not"
operator_word op.Join = codes "~"
operator_word op.JoinEscaping = codes "~ escaping"
operator_word op.Equal = codes "=="
operator_word op.NotEqual = codes "!="
operator_word op.Less = codes "<"
operator_word op.LessOrEqual = codes "<="
operator_word op.Greater = codes ">"
operator_word op.GreaterOrEqual = codes ">="
operator_word op.In = codes "in"
operator_word op.Item = codes "item"
operator_word op.RangeToStop = codes "range to stop"
operator_word op.RangeFromStart = codes "range from start"
operator_word op.RangeByStep = codes "range by step"

-- The first of some names, or another word if there is none.
abbrev pub first_or : List (List ℕ) → List ℕ → List ℕ
first_or [] word = word
first_or (name ∷ names) word = name

-- Only `map` by an attribute has no name of its own.
abbrev pub filter_word : FilterId → List ℕ
filter_word f = first_or (filter_names f) (codes "map by attribute")

abbrev pub test_word : TestId → List ℕ
test_word t = first_or (test_names t) []

-- Only the current item has no name after `loop.`.
abbrev pub field_word : LoopField → List ℕ
field_word f = first_or (field_names f) (codes "item")

-- A constant: a text in quotation marks, with `markup` before it if it is markup, and each other
-- constant as a template writes it.
abbrev pub constant_text : Constant → List ℕ
constant_text undefined = codes "undefined"
constant_text nothing = codes "none"
constant_text (truth_value true) = codes "true"
constant_text (truth_value false) = codes "false"
constant_text (number z) = signed_decimal z
constant_text (text t) = quoted t
constant_text (markup t) = codes "markup " ++ quoted t

-- The kind of a unit: 0 emits, 1 returns a value.
abbrev pub kind_word : ℕ → Option (List ℕ)
kind_word kind =
    if kind == 0 then Some (codes "emits") else if kind == 1 then Some (codes "returns a value") else None

-- The flag of Emit: 0 writes a text as it is, 1 escapes it.
abbrev pub emit_word : ℕ → Option (List ℕ)
emit_word flag = if flag == 0 then Some (codes "plain") else if flag == 1 then Some (codes "escaped") else None

-- The flag of CaptureEnd: 0 makes a text, 1 makes markup.
abbrev pub capture_word : ℕ → Option (List ℕ)
capture_word flag = if flag == 0 then Some (codes "text") else if flag == 1 then Some (codes "markup") else None
