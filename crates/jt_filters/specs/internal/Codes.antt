-- Codes: the bytes that distinguish items. Items that are alike have the same code.
use Rattle.std.specs.Prelude.{◌≡◌, ℕ, ℤ, Result, OnOk, List, [], ◌∷◌, ◌++◌, map, Vec}
use Rattle.std.specs.declared.alloc.Global.{Global}
use Rattle.std.specs.BTreeMap.{insert_entry}
use Rattle.std.specs.Cmp.Lexicographic.{slice_cmp}
use Rattle.std.specs.Int.{w64, cast_unsigned, to_le_bytes}
use Rattle.std.specs.Ordering.{nat_cmp}
use denote.Ref.{Bor}
use Rattle.jt_value.specs.Equality.{truth_number}
use Rattle.jt_value.specs.declared.fault.NoMemory.{NoMemory}
use Rattle.jt_value.specs.Tree as tree
use Rattle.jt_value.specs.Tree.{Tree, Items, no_items, item, Entries, no_entries, entry}
use Rattle.jt_filter_semantics.specs.Ordering.{fold}

-- A number's code: 3 and its eight bytes.
abbrev pub number_code : ℤ → List ℕ
number_code z = 3 ∷ to_le_bytes w64 (cast_unsigned w64 z)

-- A text's code: 4, its bytes and 255, which no text contains.
abbrev pub text_code : List ℕ → List ℕ
text_code s = 4 ∷ (s ++ 255 ∷ [])

-- The rows of a map in the order of its keys: each key with the code of its first value.
abbrev pub Rows : Type 0
Rows = List (List ℕ × List ℕ)

abbrev pub rows_code : Rows → List ℕ
rows_code [] = 0 ∷ []
rows_code (r ∷ rs) = text_code r.0 ++ (r.1 ++ rows_code rs)

abbrev mutual
  pub code : Tree → List ℕ
  code tree.undefined = 1 ∷ []
  code tree.nothing = 2 ∷ []
  code (tree.truth_value b) = number_code (truth_number b)
  code (tree.number z) = number_code z
  code (tree.text s) = text_code s
  code (tree.markup s) = text_code s
  code (tree.list ts) = 5 ∷ items_code ts
  code (tree.map es) = 6 ∷ rows_code (rows es)

  pub items_code : Items → List ℕ
  items_code no_items = 0 ∷ []
  items_code (item t ts) = code t ++ items_code ts

  pub rows : Entries → Rows
  rows no_entries = []
  rows (entry k t es) = insert_entry (slice_cmp nat_cmp) (rows es) k (code t)

-- The code of an item. A text has the code of its fold.
abbrev pub item_code : Tree → List ℕ
item_code (tree.text s) = text_code (fold s)
item_code (tree.markup s) = text_code (fold s)
item_code t = code t

-- Holds if these bytes were appended, unless memory was refused.
abbrev pub Adds : {A : Type 0} → List ℕ → Vec ℕ Global → Vec ℕ Global → Result A NoMemory → Type 0
Adds more before after result = OnOk result (after.items ≡ before.items ++ more)

-- The rows that a map of keys and codes holds.
abbrev pub rows_in : List (Bor (List ℕ) × Vec ℕ Global) → Rows
rows_in es = map (λ (e : Bor (List ℕ) × Vec ℕ Global). (e.0.now, e.1.items)) es
