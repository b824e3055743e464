-- The lengths of joined texts.
use Rattle.std.proofs.Common.{◌≡◌, ℕ, ◌+◌, ◌-◌, ◌^◌, min, Bool, true, false, cond, ◌||◌, ◌&&◌, not, List, [], ◌∷◌, ◌++◌}
use Rattle.std.proofs.Common.{length, Option, Some, None, refl, sym, ap, ◌∙◌, arith, length-append}
use Rattle.std.proofs.Common.{rules}
use Rattle.std.proofs.Math.Logic.{∥∥₁_elim}
use Rattle.std.proofs.Props.{props}
use Rattle.std.specs.Prelude.{Ok, Err, option_map}
use Rattle.std.specs.List.{join_by}
use Rattle.std.specs.Option.{option_and_then}
use Rattle.jt_value.specs.declared.fault.Fault.{Fault}
use Rattle.jt_value.specs.Tree as tree
use Rattle.jt_value.specs.Tree.{Tree, Items, no_items, item, printed}
use Rattle.jt_escape.specs.Escaping.{escaped}
use Rattle.jt_escape.specs.Joining.{piece, pieces, joined_text, joined_markup, joined_plain, joined_as_markup}
use Rattle.jt_escape.specs.Joining.{has_markup, or_unprintable}
use Rattle.jt_escape.specs.Joining as joins
use Rattle.jt_op_semantics.specs.Testing.{is_markup}
use Rattle.jt_filter_semantics.specs.Listing.{joined_by}
use Rattle.jt_filters.specs.internal.Operands.{measured, text_length, text_measure, led_length, on_length}
use Rattle.jt_filters.specs.internal.Operands.{has_second}
use Rattle.jt_filters.specs.internal.JoinedTexts.{led_text}
use Rattle.jt_filters.proofs.JoinedTexts.{same_markup, in_front, joined, led_is, joins_first}

-- The piece of a value in a join.
pub piece_is : (escaping : Bool) (t : Tree) (s : List ℕ) → printed t ≡ Some s
    → piece escaping t ≡ Some (cond (escaping && not (is_markup t)) (escaped s) s)
piece_is escaping t s a3 = search (arith, rules)

-- A length that was counted is the length of the text.
pub counted_length : (o : Option (List ℕ)) (n : ℕ) → ∥ Ok n ≡ text_length o ∥₁ → Ok n ≡ text_length o
counted_length None n counted = absurd (∥∥₁_elim counted (hlevel) (λ e. cc))
counted_length (Some s) n counted =
    let same : n ≡ min (length s) (2 ^ 64 - 1) = ∥∥₁_elim counted (hlevel props) (λ e. cc) in
    ap (λ (k : ℕ). Ok k) same

-- If a value has no piece, it has no escaped piece, and the other way round.
no_text : (a b : Bool) (t : Tree) → piece a t ≡ None → piece b t ≡ None
no_text a b t a3 = search (arith, rules)

fault_by : (o p : Option (List ℕ)) (x : Fault) → (o ≡ None → p ≡ None) → Err x ≡ text_length o → Err x ≡ text_length p
fault_by None p x none e = e ∙ ap text_length (sym (none refl))
fault_by (Some s) p x none e = absurd (cc)

length_by : (o p : Option (List ℕ)) (m : ℕ) → (p ≡ None → o ≡ None) → Ok m ≡ text_length o
    → (k : ℕ) × (Ok k ≡ text_length p)
length_by o None m none e = absurd (let h : text_length o ≡ text_length None = ap text_length (none refl) in cc)
length_by o (Some s) m none e = (min (length s) (2 ^ 64 - 1), refl)

-- If the piece of a value has a length, the escaped piece has one too, and the other way round.
other_length : (a b : Bool) (d : Tree) (m : ℕ) → Ok m ≡ text_length (piece a d)
    → (k : ℕ) × (Ok k ≡ text_length (piece b d))
other_length a b d m e = length_by (piece a d) (piece b d) m (no_text b a d) e

-- The length of a text, at most 2^64 - 1.
abbrev most_of : List ℕ → ℕ
most_of s = min (length s) (2 ^ 64 - 1)

-- The length of led items is that of their text.
led_is_long : (escaping : Bool) (head between : List ℕ) (ts : Items)
    → led_length escaping (most_of head) (most_of between) ts ≡ text_length (led_text escaping head between ts)
led_is_long escaping head between no_items = refl
led_is_long escaping head between (item t ts) = by (piece escaping t) (λ h. led_is_long escaping h between ts)
  where
    grown : (p : List ℕ)
        → min (min (most_of head + most_of between) (2 ^ 64 - 1) + most_of p) (2 ^ 64 - 1)
        ≡ most_of ((head ++ between) ++ p)
    grown p = omega (arith, length-append (head ++ between) p, length-append head between)

    by : (o : Option (List ℕ))
        → ((h : List ℕ)
        → led_length escaping (most_of h) (most_of between) ts ≡ text_length (led_text escaping h between ts))
        → on_length (λ n.
        led_length escaping (min (min (most_of head + most_of between) (2 ^ 64 - 1) + n) (2 ^ 64 - 1)) (most_of between)
        ts) (text_length o)
        ≡ text_length (option_and_then (λ p. led_text escaping ((head ++ between) ++ p) between ts) o)
    by None again = refl
    by (Some p) again =
        ap (λ k. led_length escaping k (most_of between) ts) (grown p) ∙ again ((head ++ between) ++ p)

-- The joined length, by the pieces of the separator and of the first item.
first_length : (escaping : Bool) (ts : Items) (d p : Option (List ℕ)) (n m : ℕ) → Ok m ≡ text_length d
    → Ok n ≡ text_length p
    → led_length escaping n m ts ≡ text_length (joined d (in_front p (pieces escaping ts)))
first_length escaping ts None p n m e f = cc
first_length escaping ts (Some d) None n m e f = cc
first_length escaping ts (Some d) (Some p) n m e f =
    let x : n ≡ min (length p) (2 ^ 64 - 1) = cc in
    let y : m ≡ min (length d) (2 ^ 64 - 1) = cc in
    ap (λ (k : ℕ). led_length escaping k m ts) x
    ∙ ap (λ (k : ℕ). led_length escaping (min (length p) (2 ^ 64 - 1)) k ts) y
    ∙ led_is_long escaping p d ts
    ∙ ap text_length (led_is escaping p d ts ∙ joins_first p d (pieces escaping ts))

-- The length of the separator is not used without a second item.
pub joined_length : (escaping : Bool) (t d : Tree) (ts : Items) (n m : ℕ)
    → Ok m ≡ text_length (piece (escaping && has_second (item t ts)) d) → Ok n ≡ text_length (piece escaping t)
    → led_length escaping n m ts ≡ text_length (joined_text escaping (item t ts) d)
joined_length escaping t d no_items n m e f =
    let k = other_length (escaping && false) escaping d m e in
    first_length escaping no_items (piece escaping d) (piece escaping t) n k.0 k.1 f
joined_length false t d (item u us) n m e f = first_length false (item u us) (piece false d) (piece false t) n m e f
joined_length true t d (item u us) n m e f = first_length true (item u us) (piece true d) (piece true t) n m e f

-- If the first item has no printed text, the join has none.
unprintable_by : (escaping : Bool) (ts : Items) (d p : Option (List ℕ)) (m : ℕ) (x : Fault) → Ok m ≡ text_length d
    → Err x ≡ text_length p
    → text_length (joined d (in_front p (pieces escaping ts))) ≡ Err x
unprintable_by escaping ts d p m x a6 a7 = search (arith, rules)

pub unprintable_first : (escaping second : Bool) (t d : Tree) (ts : Items) (m : ℕ) (x : Fault)
    → Ok m ≡ text_length (piece (escaping && second) d) → Err x ≡ text_length (piece escaping t)
    → text_length (joined_text escaping (item t ts) d) ≡ Err x
unprintable_first escaping second t d ts m x e f =
    let k = other_length (escaping && second) escaping d m e in
    unprintable_by escaping ts (piece escaping d) (piece escaping t) k.0 x k.1 f

none_by : (d : Option (List ℕ)) (m : ℕ) → Ok m ≡ text_length d → text_length (joined d (Some [])) ≡ Ok 0
none_by None m e = cc
none_by (Some d) m e = refl

pub none_joined : (escaping second : Bool) (d : Tree) (m : ℕ) → Ok m ≡ text_length (piece (escaping && second) d)
    → text_length (joined_text escaping no_items d) ≡ Ok 0
none_joined escaping second d m e =
    let k = other_length (escaping && second) escaping d m e in
    none_by (piece escaping d) k.0 k.1

separator_by : (o : Option (List (List ℕ))) (d : Option (List ℕ)) (x : Fault) → Err x ≡ text_length d
    → text_length (joined d o) ≡ Err x
separator_by o None x e = sym e
separator_by o (Some d) x e = cc

pub unprintable_separator : (escaping second : Bool) (d : Tree) (ts : Items) (x : Fault)
    → Err x ≡ text_length (piece (escaping && second) d) → text_length (joined_text escaping ts d) ≡ Err x
unprintable_separator escaping second d ts x e =
    separator_by (pieces escaping ts) (piece escaping d) x
    (fault_by (piece (escaping && second) d) (piece escaping d) x (no_text (escaping && second) escaping d) e)

plain_size : (o : Option (List ℕ)) → measured (or_unprintable tree.text o) ≡ text_measure (text_length o)
plain_size None = refl
plain_size (Some s) = ap (λ (n : ℕ). Ok (n, 0)) (omega arith)

markup_size : (o : Option (List ℕ)) → measured (or_unprintable tree.markup o) ≡ text_measure (text_length o)
markup_size None = refl
markup_size (Some s) = ap (λ (n : ℕ). Ok (n, 0)) (omega arith)

joined_by_kind : (ts : Items) (d : Tree) (m : Bool) → m ≡ is_markup d || has_markup ts
    → measured (joined_markup ts d) ≡ text_measure (text_length (joined_text m ts d))
joined_by_kind ts d true e =
    ap (λ (b : Bool). measured (cond b (joined_as_markup ts d) (joined_plain ts d))) (same_markup d ts ∙ sym e)
    ∙ markup_size (joined_text true ts d)
joined_by_kind ts d false e =
    ap (λ (b : Bool). measured (cond b (joined_as_markup ts d) (joined_plain ts d))) (same_markup d ts ∙ sym e)
    ∙ plain_size (joined_text false ts d)

pub joined_measured : (autoescape : Bool) (ts : Items) (d : Tree)
    → measured (joined_by autoescape d ts)
    ≡ text_measure (text_length (joined_text (autoescape && (is_markup d || has_markup ts)) ts d))
joined_measured false ts d = plain_size (joined_text false ts d)
joined_measured true ts d = joined_by_kind ts d (is_markup d || has_markup ts) refl

pub ruleset joined_lengths = (joined_length, none_joined, unprintable_first, unprintable_separator)
