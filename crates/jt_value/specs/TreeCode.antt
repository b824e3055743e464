-- A code of trees: a tree is written as a list of tokens, and read back with a stack of entries.
-- The models of lists and maps have to name a code for their values; no contract depends on it.
use Rattle.std.specs.Prelude.{◌≡◌, ℕ, zero, suc, ℤ, pos, true, false, List, [], ◌∷◌, ◌++◌, refl}
use Rattle.std.proofs.Common.{ap, ◌∙◌}
use Rattle.std.specs.Coded.{Coded, code_by, coded×, coded_list, coded_ℕ, coded_ℤ}
use Rattle.jt_value.specs.Tree.{Tree, undefined, nothing, truth_value, number, text, markup, list, map, Items, no_items}
use Rattle.jt_value.specs.Tree.{item, Entries, no_entries, entry}

-- A token: its kind, its number, its text and its key.
abbrev pub Token : Type 0
Token = ℕ × (ℤ × (List ℕ × List ℕ))

abbrev mutual
  pub tokens : List ℕ → Tree → List Token
  tokens k undefined = (0, (pos 0, ([], k))) ∷ []
  tokens k nothing = (1, (pos 0, ([], k))) ∷ []
  tokens k (truth_value true) = (2, (pos 0, ([], k))) ∷ []
  tokens k (truth_value false) = (3, (pos 0, ([], k))) ∷ []
  tokens k (number z) = (4, (z, ([], k))) ∷ []
  tokens k (text bytes) = (5, (pos 0, (bytes, k))) ∷ []
  tokens k (markup bytes) = (6, (pos 0, (bytes, k))) ∷ []
  tokens k (list ts) = (7, (pos 0, ([], k))) ∷ (item_tokens ts ++ (8, (pos 0, ([], k))) ∷ [])
  tokens k (map es) = (7, (pos 0, ([], k))) ∷ (entry_tokens es ++ (9, (pos 0, ([], k))) ∷ [])

  pub item_tokens : Items → List Token
  item_tokens no_items = []
  item_tokens (item t ts) = item_tokens ts ++ tokens [] t

  pub entry_tokens : Entries → List Token
  entry_tokens no_entries = []
  entry_tokens (entry k t es) = entry_tokens es ++ tokens k t

-- The stack with one more value before its top entries.
abbrev pub put : List ℕ → Tree → List Entries → List Entries
put k t [] = []
put k t (es ∷ rest) = entry k t es ∷ rest

abbrev pub values : Entries → Items
values no_entries = no_items
values (entry k t es) = item t (values es)

abbrev pub closed_list : List ℕ → List Entries → List Entries
closed_list k [] = []
closed_list k (es ∷ rest) = put k (list (values es)) rest

abbrev pub closed_map : List ℕ → List Entries → List Entries
closed_map k [] = []
closed_map k (es ∷ rest) = put k (map es) rest

abbrev pub step : ℕ → ℤ → List ℕ → List ℕ → List Entries → List Entries
step zero z b k s = put k undefined s
step (suc zero) z b k s = put k nothing s
step (suc (suc zero)) z b k s = put k (truth_value true) s
step (suc (suc (suc zero))) z b k s = put k (truth_value false) s
step (suc (suc (suc (suc zero)))) z b k s = put k (number z) s
step (suc (suc (suc (suc (suc zero))))) z b k s = put k (text b) s
step (suc (suc (suc (suc (suc (suc zero)))))) z b k s = put k (markup b) s
step (suc (suc (suc (suc (suc (suc (suc zero))))))) z b k s = no_entries ∷ s
step (suc (suc (suc (suc (suc (suc (suc (suc zero)))))))) z b k s = closed_list k s
step (suc (suc (suc (suc (suc (suc (suc (suc (suc n))))))))) z b k s = closed_map k s

abbrev pub run : List Token → List Entries → List Entries
run [] s = s
run (t ∷ ts) s = run ts (step t.0 t.1.0 t.1.1.0 t.1.1.1 s)

abbrev pub top : List Entries → Entries
top [] = no_entries
top (es ∷ rest) = es

-- Items as entries with empty keys.
abbrev pub keyed : Items → Entries
keyed no_items = no_entries
keyed (item t ts) = entry [] t (keyed ts)

pub run-append : (xs ys : List Token) (s : List Entries) → run (xs ++ ys) s ≡ run ys (run xs s)
run-append [] ys s = refl
run-append (x ∷ xs) ys s = run-append xs ys (step x.0 x.1.0 x.1.1.0 x.1.1.1 s)

pub values-keyed : (ts : Items) → values (keyed ts) ≡ ts
values-keyed no_items = refl
values-keyed (item t ts) = ap (item t) (values-keyed ts)

mutual
  pub run-tokens : (k : List ℕ) (t : Tree) (es : Entries) (s : List Entries)
      → run (tokens k t) (es ∷ s) ≡ entry k t es ∷ s
  run-tokens k undefined es s = refl
  run-tokens k nothing es s = refl
  run-tokens k (truth_value true) es s = refl
  run-tokens k (truth_value false) es s = refl
  run-tokens k (number z) es s = refl
  run-tokens k (text bytes) es s = refl
  run-tokens k (markup bytes) es s = refl
  run-tokens k (list ts) es s =
      run-append (item_tokens ts) ((8, (pos 0, ([], k))) ∷ []) (no_entries ∷ es ∷ s)
      ∙ ap (closed_list k) (run-items ts (es ∷ s))
      ∙ ap (λ us. entry k (list us) es ∷ s) (values-keyed ts)
  run-tokens k (map fs) es s =
      run-append (entry_tokens fs) ((9, (pos 0, ([], k))) ∷ []) (no_entries ∷ es ∷ s)
      ∙ ap (closed_map k) (run-entries fs (es ∷ s))

  pub run-items : (ts : Items) (s : List Entries)
      → run (item_tokens ts) (no_entries ∷ s) ≡ keyed ts ∷ s
  run-items no_items s = refl
  run-items (item t ts) s =
      run-append (item_tokens ts) (tokens [] t) (no_entries ∷ s)
      ∙ ap (run (tokens [] t)) (run-items ts s) ∙ run-tokens [] t (keyed ts) s

  pub run-entries : (fs : Entries) (s : List Entries)
      → run (entry_tokens fs) (no_entries ∷ s) ≡ fs ∷ s
  run-entries no_entries s = refl
  run-entries (entry k t fs) s =
      run-append (entry_tokens fs) (tokens k t) (no_entries ∷ s)
      ∙ ap (run (tokens k t)) (run-entries fs s) ∙ run-tokens k t fs s

abbrev pub token_code : Coded (List Token)
token_code =
    coded_list (coded× coded_ℕ (coded× coded_ℤ (coded× (coded_list coded_ℕ) (coded_list coded_ℕ))))

abbrev pub coded_items : Coded Items
coded_items =
    code_by (List Token) token_code item_tokens (λ ts. values (top (run ts (no_entries ∷ []))))
    (λ ts. ap (λ s. values (top s)) (run-items ts []) ∙ values-keyed ts)

abbrev pub coded_entries : Coded Entries
coded_entries =
    code_by (List Token) token_code entry_tokens (λ ts. top (run ts (no_entries ∷ [])))
    (λ es. ap top (run-entries es []))

-- A tree as entries with one empty key.
abbrev pub first_tree : Entries → Tree
first_tree no_entries = undefined
first_tree (entry k t es) = t

abbrev pub coded_tree : Coded Tree
coded_tree = code_by Entries coded_entries (λ t. entry [] t no_entries) first_tree (λ t. refl)

abbrev pub coded_table : Coded (List (List ℕ × Tree) × ℕ)
coded_table = coded× (coded_list (coded× (coded_list coded_ℕ) coded_tree)) coded_ℕ
