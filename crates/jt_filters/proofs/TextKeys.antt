-- Items at text keys.
use Rattle.std.proofs.Common.{◌≡◌, ℕ, List, false, Option, Some, None, arith, rules}
use Rattle.std.specs.Prelude.{Ok, Err}
use Rattle.jt_value.specs.declared.fault.Fault.TheVariants as fault
use Rattle.jt_value.specs.Payload.{text_of, entries_of_map}
use Rattle.jt_value.specs.Tree as tree
use Rattle.jt_value.specs.Tree.{Tree}
use Rattle.jt_op_semantics.specs.ItemOf.{item_of}
use Rattle.jt_op_semantics.specs.Testing.{is_text, is_undefined}
use Rattle.jt_filter_semantics.specs.Single.{attribute}

text_key : (t : Tree) (s : List ℕ) → attribute t (tree.text s) ≡ item_of t (tree.text s)
text_key t s = search (arith, rules)

markup_key : (t : Tree) (s : List ℕ) → attribute t (tree.markup s) ≡ item_of t (tree.text s)
markup_key t s = search (arith, rules)

same_text : (s x : List ℕ) → ◌≡◌ {A = Option (List ℕ)} (Some s) (Some x) → x ≡ s
same_text s x e = cc

pub by_text : (t key : Tree) (s : List ℕ) → Some s ≡ text_of key → attribute t key ≡ item_of t (tree.text s)
by_text t key s a3 = search (arith, rules, text_key, same_text, markup_key)

not_text : (key : Tree) → None ≡ text_of key → is_text key ≡ false
not_text key a1 = search (arith, rules)

pub by_other : (t key : Tree) → None ≡ text_of key → is_undefined t ≡ false → attribute t key ≡ Err fault.BadArgument
by_other t key a2 a3 = search (arith, rules, not_text)

pub others_have_none : (t : Tree) (s : List ℕ) → None ≡ entries_of_map t → is_undefined t ≡ false
    → item_of t (tree.text s) ≡ Ok tree.undefined
others_have_none t s a2 a3 = search (arith, rules)
