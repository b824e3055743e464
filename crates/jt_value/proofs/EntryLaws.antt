-- Laws of the first value of a key, and of the equality of maps.
use Rattle.std.proofs.Common.{◌≡◌, ℕ, Bool, true, false, cond, List, Option, Some, None, refl, sym, ap, ◌∙◌, true≢false}
use Rattle.std.specs.Prelude.{is_some}
use Rattle.std.specs.Option.{option_map_or}
use Rattle.std.specs.Str.{bytes_eq}
use Rattle.std.proofs.lemmas.Bool.{and_from}
use Rattle.jt_value.specs.Tree as tree
use Rattle.jt_value.specs.Tree.{Tree, Entries, no_entries, entry}
use Rattle.jt_value.specs.Entries.{entry_of, has_key, all_keys}
use Rattle.jt_value.specs.Equality.{equal, equal_at, agree, AgreeAtEachKey}
use Rattle.jt_value.proofs.Lists.{more_entries}
use Rattle.jt_value.proofs.Equalities.{reflexive, left_true, right_true, equal_at-entry_of, holds_of, all_of}

-- A key occurs exactly if it has a first value.
pub has_key-entry_of : (k : List ℕ) (es : Entries) → has_key k es ≡ is_some (entry_of k es)
has_key-entry_of k no_entries = refl
has_key-entry_of k (entry l t es) = by (bytes_eq l k) (has_key-entry_of k es)
  where
    by : (b : Bool) → has_key k es ≡ is_some (entry_of k es)
        → cond b true (has_key k es) ≡ is_some (cond b (Some t) (entry_of k es))
    by true rest = refl
    by false rest = rest

-- A key whose first values in both maps are equal occurs in the second one.
pub has_key-there : (es fs : Entries) (k : List ℕ) → equal_at es k (entry_of k fs) ≡ true → has_key k fs ≡ true
has_key-there es fs k h =
    has_key-entry_of k fs ∙ by (entry_of k es) (entry_of k fs) (sym (equal_at-entry_of es k (entry_of k fs)) ∙ h)
  where
    by : (o p : Option Tree) → option_map_or (λ t. option_map_or (equal t) p false) o false ≡ true → is_some p ≡ true
    by None p e = absurd (true≢false (sym e))
    by (Some t) None e = absurd (true≢false (sym e))
    by (Some t) (Some u) e = refl

-- The first entry determines the value of its own key, and of no other key.
pub entry_of-own : (k : List ℕ) (t : Tree) (es : Entries) → entry_of k (entry k t es) ≡ Some t
entry_of-own k t es = ap (λ b. cond b (Some t) (entry_of k es)) (reflexive k)

pub entry_of-other : (k l : List ℕ) (t : Tree) (es : Entries) → bytes_eq l k ≡ false
    → entry_of k (entry l t es) ≡ entry_of k es
entry_of-other k l t es h = ap (λ b. cond b (Some t) (entry_of k es)) h

-- An entry at the end determines the value only of a key that did not occur before.
pub entry_of-more : (k l : List ℕ) (u : Tree) (es : Entries)
    → entry_of k (more_entries es l u) ≡ cond (has_key k es) (entry_of k es) (cond (bytes_eq l k) (Some u) None)
entry_of-more k l u no_entries = refl
entry_of-more k l u (entry m t es) = by (bytes_eq m k) (entry_of-more k l u es)
  where
    by : (b : Bool)
        → entry_of k (more_entries es l u) ≡ cond (has_key k es) (entry_of k es) (cond (bytes_eq l k) (Some u) None)
        → cond b (Some t) (entry_of k (more_entries es l u))
        ≡ cond (cond b true (has_key k es)) (cond b (Some t) (entry_of k es)) (cond (bytes_eq l k) (Some u) None)
    by true rest = refl
    by false rest = rest

pub missing : (o : Option Tree) → is_some o ≡ false → o ≡ None
missing None h = refl
missing (Some t) h = absurd (true≢false h)

-- ---- Two maps are equal exactly if they agree at each key
agree-there : (o p : Option Tree) → option_map_or (λ t. option_map_or (equal t) p false) o false ≡ true
    → agree o p ≡ true
agree-there None p h = absurd (true≢false (sym h))
agree-there (Some t) None h = absurd (true≢false (sym h))
agree-there (Some t) (Some u) h = h

there-agree : (o p : Option Tree) → is_some o ≡ true → agree o p ≡ true
    → option_map_or (λ t. option_map_or (equal t) p false) o false ≡ true
there-agree None p there h = absurd (true≢false (sym there))
there-agree (Some t) None there h = absurd (true≢false (sym h))
there-agree (Some t) (Some u) there h = h

there-too : (o p : Option Tree) → is_some p ≡ true → agree o p ≡ true → is_some o ≡ true
there-too o None there h = absurd (true≢false (sym there))
there-too None (Some u) there h = absurd (true≢false (sym h))
there-too (Some t) (Some u) there h = refl

pub equal-agree : (es fs : Entries) → equal (tree.map es) (tree.map fs) ≡ true → AgreeAtEachKey es fs
equal-agree es fs h k = by (has_key k es) refl
  where
    firsts : all_keys (λ n. equal_at es n (entry_of n fs)) es ≡ true
    firsts = left_true (all_keys (λ n. equal_at es n (entry_of n fs)) es) (all_keys (λ n. has_key n es) fs) h

    covered : all_keys (λ n. has_key n es) fs ≡ true
    covered = right_true (all_keys (λ n. equal_at es n (entry_of n fs)) es) (all_keys (λ n. has_key n es) fs) h

    other : (b : Bool) → has_key k fs ≡ b → has_key k es ≡ false → entry_of k fs ≡ None
    other true p q = absurd (true≢false (sym (holds_of (λ n. has_key n es) fs k covered p) ∙ q))
    other false p q = missing (entry_of k fs) (sym (has_key-entry_of k fs) ∙ p)

    by : (b : Bool) → has_key k es ≡ b → agree (entry_of k es) (entry_of k fs) ≡ true
    by true p =
        agree-there (entry_of k es) (entry_of k fs)
        (sym (equal_at-entry_of es k (entry_of k fs)) ∙ holds_of (λ n. equal_at es n (entry_of n fs)) es k firsts p)
    by false p =
        ap (λ o. agree o (entry_of k fs)) (missing (entry_of k es) (sym (has_key-entry_of k es) ∙ p))
        ∙ ap (λ o. agree None o) (other (has_key k fs) refl p)

pub agree-equal : (es fs : Entries) → AgreeAtEachKey es fs → equal (tree.map es) (tree.map fs) ≡ true
agree-equal es fs h = and_from (all_keys (λ n. equal_at es n (entry_of n fs)) es) (all_keys (λ n. has_key n es) fs)
    (all_of (λ n. equal_at es n (entry_of n fs)) es
    (λ k there. equal_at-entry_of es k (entry_of k fs)
    ∙ there-agree (entry_of k es) (entry_of k fs) (sym (has_key-entry_of k es) ∙ there) (h k)))
    (all_of (λ n. has_key n es) fs (λ k there.
    has_key-entry_of k es ∙ there-too (entry_of k es) (entry_of k fs) (sym (has_key-entry_of k fs) ∙ there) (h k)))
