-- Definitions for the contracts of private functions: the changes of printed texts.
use Rattle.std.specs.Prelude.{ℕ, List, Result}
use Rattle.std.specs.Str.{str_to_ascii_lowercase, str_to_ascii_uppercase}
use Rattle.jt_value.specs.declared.fault.Fault.{Fault}
use Rattle.jt_value.specs.Tree.{Tree, text, markup, printed}
use Rattle.jt_escape.specs.Escaping.{escaped}
use Rattle.jt_escape.specs.Joining.{or_unprintable}
use Rattle.jt_filter_semantics.specs.Texts.{of_same_kind, capitalized, trimmed, backwards}
use Rattle.jt_filters.specs.declared.texts.TextChange.{TextChange}
use Rattle.jt_filters.specs.declared.texts.TextChange.TheVariants as change

-- The changed text.
abbrev pub changed : TextChange → List ℕ → List ℕ
changed change.Unchanged s = s
changed change.Lower s = str_to_ascii_lowercase s
changed change.Upper s = str_to_ascii_uppercase s
changed change.Capital s = capitalized s
changed change.Trimmed s = trimmed s
changed change.Safe s = s
changed change.Escaped s = escaped s
changed change.Backwards s = backwards s

-- The value with a text that a change makes of a value.
abbrev pub of_change : TextChange → Tree → List ℕ → Tree
of_change change.Safe t s = markup s
of_change change.Escaped t s = markup s
of_change change.Backwards t s = text s
of_change other t s = of_same_kind t s

-- The changed printed text of a value, or the fault if it has none.
abbrev pub texted : TextChange → Tree → Result Tree Fault
texted c t = or_unprintable (λ s. of_change c t (changed c s)) (printed t)
