-- The texts of joins, piece by piece.
use Rattle.std.proofs.Common.{◌≡◌, ℕ, Bool, true, false, cond, ◌||◌, ◌&&◌, List, [], ◌∷◌, ◌++◌, flat_map, Option, Some}
use Rattle.std.proofs.Common.{None, refl, sym, ap, ◌∙◌, subst, append_assoc, arith, rules}
use Rattle.std.proofs.lemmas.List.{append-nil}
use Rattle.std.specs.Prelude.{Ok, Err, Result, option_map, option_and_then, String}
use Rattle.std.specs.declared.alloc.Global.{Global}
use Rattle.std.specs.List.{join_by}
use Rattle.jt_value.specs.declared.fault.Fault.{Fault}
use Rattle.jt_value.specs.declared.fault.Fault.TheVariants as fault
use Rattle.jt_value.specs.declared.fault.ValueError.{ValueError}
use Rattle.jt_value.specs.declared.fault.ValueError.TheVariants as error
use Rattle.jt_value.specs.Tree as tree
use Rattle.jt_value.specs.Tree.{Tree, Items, no_items, item, printed}
use Rattle.jt_escape.specs.Joining.{piece, pieces, joined_text, joined_plain, joined_as_markup}
use Rattle.jt_escape.specs.Joining.{has_markup, or_unprintable}
use Rattle.jt_escape.specs.Joining as joins
use Rattle.jt_op_semantics.specs.Testing.{is_markup}
use Rattle.jt_filter_semantics.specs.Listing.{joined_by}
use Rattle.jt_filters.specs.internal.JoinedTexts.{led_text, Leaves, MakesText}

-- The two crates' tests for markup are the same.
pub same_markup : (d : Tree) (ts : Items) → joins.is_markup d || has_markup ts ≡ is_markup d || has_markup ts
same_markup d ts = search (arith, rules)

pub no_piece : (escaping : Bool) (t : Tree) → printed t ≡ None → piece escaping t ≡ None
no_piece escaping t a2 = search (arith, rules)

-- One more item, after the separator.
next_by : (escaping : Bool) (ts : Items) (p : Option (List ℕ)) (into d one two : List ℕ) → one ≡ into ++ d
    → option_map (λ s. one ++ s) p ≡ Some two
    → led_text escaping two d ts ≡ option_and_then (λ s. led_text escaping ((into ++ d) ++ s) d ts) p
next_by escaping ts None into d one two e f = cc
next_by escaping ts (Some s) into d one two e f =
    let y : one ++ s ≡ two = cc in
    ap (λ (h : List ℕ). led_text escaping h d ts) (sym y ∙ ap (λ (h : List ℕ). h ++ s) e)

pub led_next : (escaping : Bool) (t : Tree) (all ts : Items) (into d one two : List ℕ) → all ≡ item t ts
    → one ≡ into ++ d → option_map (λ s. one ++ s) (piece escaping t) ≡ Some two
    → led_text escaping two d ts ≡ led_text escaping into d all
led_next escaping t all ts into d one two is e f =
    next_by escaping ts (piece escaping t) into d one two e f ∙ ap (led_text escaping into d) (sym is)

no_item_by : (escaping : Bool) (ts : Items) (p : Option (List ℕ)) (into d one : List ℕ)
    → option_map (λ s. one ++ s) p ≡ None
    → option_and_then (λ s. led_text escaping ((into ++ d) ++ s) d ts) p ≡ None
no_item_by escaping ts None into d one e = refl
no_item_by escaping ts (Some s) into d one e = cc

pub led_no_item : (escaping : Bool) (t : Tree) (all ts : Items) (into d one : List ℕ) → all ≡ item t ts
    → option_map (λ s. one ++ s) (piece escaping t) ≡ None → led_text escaping into d all ≡ None
led_no_item escaping t all ts into d one is e =
    ap (led_text escaping into d) is ∙ no_item_by escaping ts (piece escaping t) into d one e

pub led_end : (escaping : Bool) (all : Items) (into d : List ℕ) → all ≡ no_items
    → led_text escaping into d all ≡ Some into
led_end escaping all into d is = ap (led_text escaping into d) is

pub ruleset led_texts = (led_next, led_no_item, led_end)

-- The text that begins with a head and goes on with pieces, each after the separator's piece.
abbrev pub followed : List ℕ → List ℕ → Option (List (List ℕ)) → Option (List ℕ)
followed head between ps = option_map (λ qs. head ++ flat_map (λ q. between ++ q) qs) ps

-- The pieces of items with the piece of one more item before them.
abbrev pub in_front : Option (List ℕ) → Option (List (List ℕ)) → Option (List (List ℕ))
in_front p ps = option_and_then (λ first. option_map (λ rest. first ∷ rest) ps) p

-- The pieces with the separator's piece between each two.
abbrev pub joined : Option (List ℕ) → Option (List (List ℕ)) → Option (List ℕ)
joined d ps = option_and_then (λ between. option_map (join_by (λ text. text) between) ps) d

-- The text of led items is the head with their pieces.
pub led_is : (escaping : Bool) (head between : List ℕ) (ts : Items)
    → led_text escaping head between ts ≡ followed head between (pieces escaping ts)
led_is escaping head between no_items = ap Some (sym (append-nil head))
led_is escaping head between (item t ts) = by (piece escaping t) (λ h. led_is escaping h between ts)
  where
    more : (s : List ℕ) (r : Option (List (List ℕ)))
        → followed ((head ++ between) ++ s) between r ≡ followed head between (option_map (λ rest. s ∷ rest) r)
    more s None = refl
    more s (Some ps) =
        let rest = flat_map (λ q. between ++ q) ps in
        ap Some (ap (λ h. h ++ rest) (append_assoc head between s) ∙ append_assoc head (between ++ s) rest)

    by : (p : Option (List ℕ))
        → ((h : List ℕ) → led_text escaping h between ts ≡ followed h between (pieces escaping ts))
        → option_and_then (λ s. led_text escaping ((head ++ between) ++ s) between ts) p
        ≡ followed head between (in_front p (pieces escaping ts))
    by None again = refl
    by (Some s) again = again ((head ++ between) ++ s) ∙ more s (pieces escaping ts)

pub joins_first : (p d : List ℕ) (r : Option (List (List ℕ))) → followed p d r ≡ joined (Some d) (in_front (Some p) r)
joins_first p d None = refl
joins_first p d (Some ps) = refl

first_by : (p : Option (List ℕ)) (one : List ℕ) → option_map (λ (s : List ℕ). [] ++ s) p ≡ Some one → p ≡ Some one
first_by None one e = cc
first_by (Some s) one e = e

none_by : (p : Option (List ℕ)) (start : List ℕ) → option_map (λ (s : List ℕ). start ++ s) p ≡ None → p ≡ None
none_by None start e = refl
none_by (Some s) start e = cc

whole_by : (escaping : Bool) (ts : Items) (o p : Option (List ℕ)) (between one : List ℕ) → o ≡ Some between
    → p ≡ Some one → followed one between (pieces escaping ts) ≡ joined o (in_front p (pieces escaping ts))
whole_by escaping ts o p between one is first =
    joins_first one between (pieces escaping ts)
    ∙ ap (λ x. joined (Some between) (in_front x (pieces escaping ts))) (sym first)
    ∙ ap (λ x. joined x (in_front p (pieces escaping ts))) (sym is)

-- The text of all items, once the first one is appended.
pub joined_all : (escaping : Bool) (d t : Tree) (all ts : Items) (between start one : List ℕ) → all ≡ item t ts
    → piece escaping d ≡ Some between → start ≡ []
    → option_map (λ (p : List ℕ). start ++ p) (piece escaping t) ≡ Some one
    → joined_text escaping all d ≡ led_text escaping one between ts
joined_all escaping d t all ts between start one is e empty f =
    sym (led_is escaping one between ts
    ∙ whole_by escaping ts (piece escaping d) (piece escaping t) between one e
    (first_by (piece escaping t) one
    (ap (λ (h : List ℕ). option_map (λ (p : List ℕ). h ++ p) (piece escaping t)) (sym empty) ∙ f))
    ∙ ap (λ (us : Items). joined_text escaping us d) (sym is))

pub joined_led : (escaping : Bool) (d t : Tree) (all ts : Items) (between start one two : List ℕ) → all ≡ item t ts
    → piece escaping d ≡ Some between → start ≡ []
    → option_map (λ (p : List ℕ). start ++ p) (piece escaping t) ≡ Some one
    → led_text escaping one between ts ≡ Some two → joined_text escaping all d ≡ Some two
joined_led escaping d t all ts between start one two is e empty f led =
    joined_all escaping d t all ts between start one is e empty f ∙ led

-- A join that fails behind its first item fails alike.
pub fails_as : (r : Result (String Global) ValueError) (e : ValueError) (wanted led : Option (List ℕ)) (after : List ℕ)
    → r ≡ Err e → wanted ≡ led → Leaves led (Err e) after → MakesText wanted r
fails_as r e wanted led after is same leaves =
    subst (λ (x : Result (String Global) ValueError). MakesText wanted x) (sym is)
    (subst (λ (o : Option (List ℕ)). MakesText o (Err e)) (sym same) (by e leaves))
  where
    by : (x : ValueError) → Leaves led (Err x) after → MakesText led (Err x)
    by (error.Fault f) h = h
    by error.NoMemory h = tt

no_first_by : (escaping : Bool) (ts : Items) (o p : Option (List ℕ)) → p ≡ None
    → joined o (in_front p (pieces escaping ts)) ≡ None
no_first_by escaping ts None p e = refl
no_first_by escaping ts (Some b) None e = refl
no_first_by escaping ts (Some b) (Some s) e = cc

pub joined_no_first : (escaping : Bool) (d t : Tree) (all ts : Items) (start : List ℕ) → all ≡ item t ts
    → option_map (λ (p : List ℕ). start ++ p) (piece escaping t) ≡ None → joined_text escaping all d ≡ None
joined_no_first escaping d t all ts start is e =
    ap (λ (us : Items). joined_text escaping us d) is
    ∙ no_first_by escaping ts (piece escaping d) (piece escaping t) (none_by (piece escaping t) start e)

pub joined_none : (escaping : Bool) (d : Tree) (all : Items) (between start : List ℕ) → all ≡ no_items
    → piece escaping d ≡ Some between → start ≡ [] → joined_text escaping all d ≡ Some start
joined_none escaping d all between start is e empty =
    ap (λ (us : Items). joined_text escaping us d) is
    ∙ ap (λ o. joined o (Some [])) e
    ∙ ap Some (sym empty)

pub joined_no_separator : (escaping : Bool) (d : Tree) (all : Items) → printed d ≡ None
    → joined_text escaping all d ≡ None
joined_no_separator escaping d all e =
    ap (λ o. joined o (pieces escaping all)) (no_piece escaping d e)

pub ruleset joined_texts = (joined_led, joined_no_first, joined_none, joined_no_separator)

-- The join by whether it escapes.
pub joined_is_markup : (autoescape : Bool) (ts : Items) (d : Tree)
    → (autoescape && (is_markup d || has_markup ts)) ≡ true
    → joined_by autoescape d ts ≡ or_unprintable tree.markup (joined_text true ts d)
joined_is_markup false ts d e = cc
joined_is_markup true ts d e =
    ap (λ (b : Bool). cond b (joined_as_markup ts d) (joined_plain ts d)) (same_markup d ts ∙ e)

pub joined_is_plain : (autoescape : Bool) (ts : Items) (d : Tree)
    → (autoescape && (is_markup d || has_markup ts)) ≡ false
    → joined_by autoescape d ts ≡ or_unprintable tree.text (joined_text false ts d)
joined_is_plain false ts d e = refl
joined_is_plain true ts d e =
    ap (λ (b : Bool). cond b (joined_as_markup ts d) (joined_plain ts d)) (same_markup d ts ∙ e)

pub made_of : (make : List ℕ → Tree) (o : Option (List ℕ)) (s : List ℕ) (wanted : Result Tree Fault)
    → wanted ≡ or_unprintable make o → o ≡ Some s → wanted ≡ Ok (make s)
made_of make o s wanted e f = e ∙ ap (or_unprintable make) f

pub none_of : (make : List ℕ → Tree) (o : Option (List ℕ)) (wanted : Result Tree Fault)
    → wanted ≡ or_unprintable make o → o ≡ None → wanted ≡ Err fault.Unprintable
none_of make o wanted e f = e ∙ ap (or_unprintable make) f

pub ruleset joined_kinds = (joined_is_markup, joined_is_plain, made_of, none_of)
