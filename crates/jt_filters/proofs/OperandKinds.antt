-- The filters that accept a value, by its kind.
use Rattle.std.proofs.Common.{◌≡◌, ℕ, false, List, Some, None, arith, rules}
use Rattle.std.specs.Prelude.{Ok, Err}
use Rattle.jt_value.specs.Tree as tree
use Rattle.jt_value.specs.Tree.{Tree, Items}
use Rattle.jt_value.specs.Iteration.{items_of_tree}
use Rattle.jt_value.specs.Payload.{text_of, entries_of_map}
use Rattle.jt_value.specs.declared.fault.Fault.{Fault}
use Rattle.jt_op_semantics.specs.Operands.{operand_fault_of_one}
use Rattle.jt_op_semantics.specs.Testing.{is_undefined}
use Rattle.jt_filter_semantics.specs.Listing.{reversed, reversed_items, pairs_of}
use Rattle.jt_filters.specs.internal.Operands.{plain_of}
use Rattle.jt_filter_semantics.specs.Ordering.{sorted_pairs}
use Rattle.jt_filter_semantics.specs.Texts.{replaced, backwards}

pub plain_is : (t : Tree) (s : List ℕ) → Some s ≡ plain_of t → t ≡ tree.text s
plain_is t s a2 = search (arith, rules)

pub others_not_replaced : (t old new : Tree) → None ≡ plain_of t → replaced t old new ≡ Err (operand_fault_of_one t)
others_not_replaced t old new a3 = search (arith, rules)

pub reversed_text : (t : Tree) (s : List ℕ) → Some s ≡ text_of t → reversed t ≡ Ok (tree.text (backwards s))
reversed_text t s a2 = search (arith, rules)

pub reversed_by_items : (t : Tree) (us : Items) → None ≡ text_of t → items_of_tree t ≡ Ok us
    → reversed t ≡ Ok (tree.list (reversed_items us))
reversed_by_items t us a2 a3 = search (arith, rules)

pub others_not_reversed : (t : Tree) (fault : Fault) → None ≡ text_of t → items_of_tree t ≡ Err fault
    → reversed t ≡ Err (operand_fault_of_one t)
others_not_reversed t fault a2 a3 = search (arith, rules)

pub others_no_pairs : (t : Tree) → None ≡ entries_of_map t → is_undefined t ≡ false
    → pairs_of t ≡ Err (operand_fault_of_one t)
others_no_pairs t a1 a2 = search (arith, rules)

pub others_not_sorted : (t : Tree) → None ≡ entries_of_map t → sorted_pairs t ≡ Err (operand_fault_of_one t)
others_not_sorted t a1 = search (arith, rules)

pub ruleset reversals = (reversed_text, reversed_by_items, others_not_reversed)
