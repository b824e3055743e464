-- The results of plans have a payload, unless they are operands.
use Rattle.std.proofs.Common.{◌≡◌, ℕ, Bool, true, false, cond, ◌||◌, List, Option, Some, None, refl, arith, rules}
use Rattle.std.specs.Prelude.{Result}
use Rattle.jt_value.specs.declared.fault.Fault.{Fault}
use Rattle.jt_value.specs.declared.fault.ValueError.{ValueError}
use Rattle.jt_value.specs.declared.value.Value.{Value}
use Rattle.jt_value.specs.Payload.{has_payload}
use Rattle.jt_value.specs.Tree as tree
use Rattle.jt_value.specs.Tree.{Tree, Items, printed}
use Rattle.jt_escape.specs.Joining.{IsAnswer, or_unprintable, joined_text, has_markup}
use Rattle.jt_escape.specs.Joining as joins
use Rattle.jt_filter_semantics.specs.Listing.{joined_by}
use Rattle.jt_filters.specs.declared.operand.Operand.{Operand}
use Rattle.jt_filters.specs.declared.plans.Plan.{Plan}
use Rattle.jt_filters.specs.declared.plans.Plan.TheVariants as plan
use Rattle.jt_filters.specs.declared.texts.TextChange.{TextChange}
use Rattle.jt_filters.specs.declared.texts.TextChange.TheVariants as change
use Rattle.jt_filter_semantics.specs.Texts.{of_same_kind}
use Rattle.jt_filters.specs.internal.Operands.{tree_of, items_in, Builds, HasPayload}
use Rattle.jt_filters.specs.internal.Plans.{made}
use Rattle.jt_filters.specs.internal.TextChanges.{changed, of_change, texted}

printed_payload : (make : List ℕ → Tree) → ((s : List ℕ) → has_payload (make s) ≡ true) → (o : Option (List ℕ))
    → HasPayload (or_unprintable make o)
printed_payload make p (Some s) = p s
printed_payload make p None = tt

kept_payload : (t : Tree) (s : List ℕ) → has_payload (of_same_kind t s) ≡ true
kept_payload t s = search (arith, rules)

of_change_payload : (c : TextChange) (t : Tree) (s : List ℕ) → has_payload (of_change c t s) ≡ true
of_change_payload change.Unchanged t s = kept_payload t s
of_change_payload change.Lower t s = kept_payload t s
of_change_payload change.Upper t s = kept_payload t s
of_change_payload change.Capital t s = kept_payload t s
of_change_payload change.Trimmed t s = kept_payload t s
of_change_payload change.Safe t s = refl
of_change_payload change.Escaped t s = refl
of_change_payload change.Backwards t s = refl

text_payload : (c : TextChange) (t : Tree) → HasPayload (texted c t)
text_payload c t =
    printed_payload (λ s. of_change c t (changed c s)) (λ s. of_change_payload c t (changed c s)) (printed t)

by_join : (b : Bool) (ts : Items) (d : Tree) → HasPayload
    (cond b (or_unprintable tree.markup (joined_text true ts d)) (or_unprintable tree.text (joined_text false ts d)))
by_join true ts d = printed_payload tree.markup (λ s. refl) (joined_text true ts d)
by_join false ts d = printed_payload tree.text (λ s. refl) (joined_text false ts d)

join_payload : (autoescape : Bool) (d : Tree) (ts : Items) → HasPayload (joined_by autoescape d ts)
join_payload true d ts = by_join (joins.is_markup d || has_markup ts) ts d
join_payload false d ts = printed_payload tree.text (λ s. refl) (joined_text false ts d)

plan_payload : (p : Plan) → ((o : Operand) → ¬ (p ≡ plan.Operand o)) → HasPayload (made p)
plan_payload (plan.Operand o) other = absurd (other o refl)
plan_payload (plan.Text o c) other = text_payload c (tree_of o)
plan_payload (plan.Replaced r) other = refl
plan_payload (plan.List is a) other = refl
plan_payload (plan.Pairs es a) other = refl
plan_payload (plan.Unique is) other = refl
plan_payload (plan.Joined is s autoescape) other = join_payload autoescape (tree_of s) (items_in is)

built : (wanted : Result Tree Fault) (r : Result Value ValueError) → HasPayload wanted → IsAnswer wanted r
    → Builds wanted r
built wanted r a2 a3 = search (arith, rules)

pub plan_built : (p : Plan) (r : Result Value ValueError) → ((o : Operand) → ¬ (p ≡ plan.Operand o))
    → IsAnswer (made p) r → Builds (made p) r
plan_built p r other e = built (made p) r (plan_payload p other) e
