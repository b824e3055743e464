-- Test `in` with a text that has an index.
use Rattle.std.proofs.Common.{◌≡◌, ℕ, List, [], ◌∷◌, Some, None, refl, ap, ◌∙◌}
use Rattle.std.specs.Prelude.{Ok, Err}
use Rattle.jt_ids.specs.declared.test_id.TestId.TheVariants as test
use Rattle.jt_op_semantics.specs.Membership.{occurs_in}
use Rattle.jt_op_semantics.specs.Operands.{operand_fault_of_one}
use Rattle.jt_op_semantics.specs.Testing.{tested}
use Rattle.jt_value.specs.Payload.{text_of}
use Rattle.jt_value.specs.Tree as tree
use Rattle.jt_value.specs.Tree.{Tree}

-- A plain text and a markup text have the same parts.
same_parts : (t : Tree) (s : List ℕ) → tested test.In (t ∷ tree.text s ∷ []) ≡ tested test.In (t ∷ tree.markup s ∷ [])
same_parts tree.undefined s = refl
same_parts tree.nothing s = refl
same_parts (tree.truth_value b) s = refl
same_parts (tree.number z) s = refl
same_parts (tree.text r) s = refl
same_parts (tree.markup r) s = refl
same_parts (tree.list ts) s = refl
same_parts (tree.map es) s = refl

-- Test `in` depends on the bytes of the text alone.
pub in_text : (t u : Tree) (s : List ℕ) → text_of u ≡ Some s
    → tested test.In (t ∷ tree.text s ∷ []) ≡ tested test.In (t ∷ u ∷ [])
in_text t (tree.text r) s e = let same : s ≡ r = cc in ap (λ (x : List ℕ). tested test.In (t ∷ tree.text x ∷ [])) same
in_text t (tree.markup r) s e =
    let same : s ≡ r = cc in
    same_parts t s ∙ ap (λ (x : List ℕ). tested test.In (t ∷ tree.markup x ∷ [])) same
in_text t tree.undefined s e = absurd (cc)
in_text t tree.nothing s e = absurd (cc)
in_text t (tree.truth_value b) s e = absurd (cc)
in_text t (tree.number z) s e = absurd (cc)
in_text t (tree.list ts) s e = absurd (cc)
in_text t (tree.map es) s e = absurd (cc)

-- A text is in a text if it occurs there.
pub part_in_text : (t : Tree) (part whole : List ℕ) → Some part ≡ text_of t
    → Ok (occurs_in part whole) ≡ tested test.In (t ∷ tree.text whole ∷ [])
part_in_text (tree.text r) part whole e =
    let same : part ≡ r = cc in ap (λ (x : List ℕ). Ok (occurs_in x whole)) same
part_in_text (tree.markup r) part whole e =
    let same : part ≡ r = cc in ap (λ (x : List ℕ). Ok (occurs_in x whole)) same
part_in_text tree.undefined part whole e = absurd (cc)
part_in_text tree.nothing part whole e = absurd (cc)
part_in_text (tree.truth_value b) part whole e = absurd (cc)
part_in_text (tree.number z) part whole e = absurd (cc)
part_in_text (tree.list ts) part whole e = absurd (cc)
part_in_text (tree.map es) part whole e = absurd (cc)

-- Any other value is a fault.
pub no_part : (t : Tree) (whole : List ℕ) → None ≡ text_of t
    → Err (operand_fault_of_one t) ≡ tested test.In (t ∷ tree.text whole ∷ [])
no_part tree.undefined whole e = refl
no_part tree.nothing whole e = refl
no_part (tree.truth_value b) whole e = refl
no_part (tree.number z) whole e = refl
no_part (tree.list ts) whole e = refl
no_part (tree.map es) whole e = refl
no_part (tree.text r) whole e = absurd (cc)
no_part (tree.markup r) whole e = absurd (cc)
