-- The sizes and the kinds of changed texts.
use Rattle.std.proofs.Common.{◌≡◌, ℕ, ◌+◌, ◌-◌, ◌^◌, min, true, false, List, length, Some, refl, ap, ◌∙◌, arith, rules}
use Rattle.std.specs.Prelude.{Ok, Option}
use Rattle.std.specs.Char.{to_ascii_lowercase, to_ascii_uppercase}
use Rattle.jt_value.specs.Tree as tree
use Rattle.jt_value.specs.Tree.{Tree, printed}
use Rattle.jt_escape.specs.Joining.{or_unprintable}
use Rattle.jt_op_semantics.specs.Testing.{is_markup}
use Rattle.jt_filter_semantics.specs.Texts.{of_same_kind, escaped_once}
use Rattle.jt_filters.specs.declared.texts.TextChange.{TextChange}
use Rattle.jt_filters.specs.declared.texts.TextChange.TheVariants as change
use Rattle.jt_filters.specs.internal.Operands.{measured}
use Rattle.jt_filters.specs.internal.TextChanges.{changed, of_change, texted}
use Rattle.jt_filters.proofs.TextTransforms.{capitalized_length, length-map, backwards_length}

kept_size : (t : Tree) (s : List ℕ) → measured (Ok (of_same_kind t s)) ≡ Ok (min (1 + length s) (2 ^ 64 - 1), 0)
kept_size t s = search (arith, rules)

text_size : (c : TextChange) (t : Tree) (s : List ℕ)
    → measured (Ok (of_change c t s)) ≡ Ok (min (1 + length s) (2 ^ 64 - 1), 0)
text_size change.Unchanged t s = kept_size t s
text_size change.Lower t s = kept_size t s
text_size change.Upper t s = kept_size t s
text_size change.Capital t s = kept_size t s
text_size change.Trimmed t s = kept_size t s
text_size change.Safe t s = refl
text_size change.Escaped t s = refl
text_size change.Backwards t s = refl

pub changed_measured : (c : TextChange) (t : Tree) (s : List ℕ) → printed t ≡ Some s
    → measured (texted c t) ≡ Ok (min (1 + length (changed c s)) (2 ^ 64 - 1), 0)
changed_measured c t s is =
    ap (λ (o : Option (List ℕ)). measured (or_unprintable (λ r. of_change c t (changed c r)) o)) is
    ∙ text_size c t (changed c s)

pub lower_length : (s : List ℕ) → length (changed change.Lower s) ≡ length s
lower_length s = length-map to_ascii_lowercase s

pub upper_length : (s : List ℕ) → length (changed change.Upper s) ≡ length s
upper_length s = length-map to_ascii_uppercase s

pub escape_markup : (t : Tree) → is_markup t ≡ true → escaped_once t ≡ texted change.Safe t
escape_markup t a1 = search (arith, rules)

pub escape_others : (t : Tree) → is_markup t ≡ false → escaped_once t ≡ texted change.Escaped t
escape_others t a1 = search (arith, rules)

pub markup_kept : (t : Tree) (s : List ℕ) → is_markup t ≡ true → of_same_kind t s ≡ tree.markup s
markup_kept t s a2 = search (arith, rules)

pub others_kept : (t : Tree) (s : List ℕ) → is_markup t ≡ false → of_same_kind t s ≡ tree.text s
others_kept t s a2 = search (arith, rules)

pub ruleset escaped_kinds = (escape_markup, escape_others)

pub ruleset changed_lengths = (lower_length, upper_length, capitalized_length, backwards_length)
