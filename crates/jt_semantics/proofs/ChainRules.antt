-- If no rule of chains is broken, an included name that may not be missing has a source. Each body
-- that calls `super()` then has a later body to call.
use Rattle.std.proofs.Common.{◌≡◌, ℕ, zero, suc, ◌≤◌, ◌==◌, Bool, true, false, ◌&&◌, List, [], ◌∷◌, ◌++◌, length, map}
use Rattle.std.proofs.Common.{Option, Some, None, refl, sym, ap, arith, inl, rules}
use Rattle.std.specs.Prelude.{not, nat_lt, flat_map}
use Rattle.std.specs.Option.{is_none}
use Rattle.std.specs.List.{list_any}
use Rattle.std.proofs.lemmas.Bool.Decides.{nat_tests}
use Rattle.std.proofs.lemmas.List.Folds.{list_any-append}
use Rattle.std.proofs.lemmas.Bool.{false_from_ne_true, and_from}
use Rattle.std.specs.List.{AllByRecursion as Each}
use Rattle.jt_ast.specs.Texts.{repeated}
use Rattle.jt_ast.specs.Expressions.{Text}
use Rattle.jt_chains.specs.Chain.{Sources, Namespace, a_chain, a_library, parent_of, names_up, max_templates, templates}
use Rattle.jt_chains.specs.Chain.{BlockBody, all_bodies, bodies, from_given}
use Rattle.jt_chains.specs.Includes.{needs_in}
use Rattle.jt_chains.specs.Rules.{is_empty, lacks_super, extends_path, asked, Reaches, is_whole, KeepsRules}
use Rattle.jt_chains.specs.Supers.{calls_super}
use Rattle.jt_semantics.specs.Resolve.{next_given}
use Rattle.jt_semantics.proofs.EnvLookup.{no_both}
use Rattle.jt_semantics.proofs.ExpressionCorrect.{GivenBy, given_by}
use Rattle.jt_semantics.proofs.WithoutSuper.{left_false, right_false}

below : (m n : ℕ) → m ≤ n → (m == n) ≡ false → nat_lt m n ≡ true
below m n l e = grind (arith, nat_tests, l, e)

-- ---- Consecutive bodies

pub lacks_at : (pre : List (ℕ × BlockBody)) (c : ℕ × BlockBody) (bs : List (ℕ × BlockBody))
    → lacks_super (map (λ d. d.1) (pre ++ (c ∷ bs))) ≡ false
    → (calls_super c.1.body && is_empty (from_given (map (λ d. d.1) bs))) ≡ false
lacks_at [] c bs e = search (arith, rules, left_false)
lacks_at (p ∷ pre) c bs e = search (arith, rules, right_false, lacks_at pre c bs)

none_given : (bs : List (ℕ × BlockBody)) (cs : List BlockBody) (o : Option ℕ) → GivenBy bs cs o → o ≡ None
    → is_empty cs ≡ true
none_given bs cs o g e = search (arith, rules)

-- If no later body can be called, `super()` is not called.
pub not_called : (bs : List (ℕ × BlockBody)) (b : Bool) → (b && is_empty (from_given (map (λ d. d.1) bs))) ≡ false
    → next_given bs ≡ None → b ≡ false
not_called bs false e g = refl
not_called bs true e g =
    absurd (no_both (none_given bs (from_given (map (λ d. d.1) bs)) (next_given bs) (given_by bs) g) e)

-- ---- A chain that is reached

each_fails : {A : Type 0} (p : A → Bool) (xs : List A) → list_any p xs ≡ false → Each (λ x. p x ≡ false) xs
each_fails p [] e = tt
each_fails p (x ∷ xs) e = search (arith, rules, left_false, right_false, each_fails p xs)

module _ (sources : Sources) (escaping : Bool) (entry h : Namespace) (reached : Reaches sources escaping entry h)
    (kept : KeepsRules sources escaping entry) where
  abbrev is_missing : Text → Bool
  is_missing n = is_none (sources n)

  none_missing : list_any is_missing (asked sources escaping false h) ≡ false
  none_missing =
      false_from_ne_true (list_any is_missing (asked sources escaping false h)) (λ e. kept.missing (h, reached, e))

  on_way : list_any is_missing (extends_path sources escaping h) ≡ false
  on_way = search (arith, rules, left_false, list_any-append, none_missing)

  -- Each name that the chain's templates include and that may not be missing has a source.
  pub needed_there : Each (λ n. is_none (sources n) ≡ false)
      (flat_map (λ t. needs_in false t.body) (templates sources h))
  needed_there = search (arith, rules, each_fails is_missing, left_false, list_any-append, right_false, none_missing)

  names_few : (k : ℕ) (o : Option Text) → length (names_up sources k o) ≤ k
  names_few zero o = omega arith
  names_few (suc k) None = omega arith
  names_few (suc k) (Some n) = let e = names_few k (parent_of (sources n)) in omega (arith, e)

  once_of : (k : Namespace) → k ≡ h → repeated (extends_path sources escaping k) ≡ false
  once_of (a_chain n) e =
      false_from_ne_true (repeated (extends_path sources escaping (a_chain n)))
      (λ r. kept.extends_cycle (h, reached, (n, sym e, suc max_templates, r)))
  once_of (a_library n) e = refl

  once : repeated (extends_path sources escaping h) ≡ false
  once = once_of h refl

  way_few : (k : Namespace) → length (extends_path sources escaping k) ≤ suc max_templates
  way_few (a_chain n) = names_few (suc max_templates) (Some n)
  way_few (a_library n) = omega arith

  short : nat_lt (length (extends_path sources escaping h)) (suc max_templates) ≡ true
  short =
      below (length (extends_path sources escaping h)) (suc max_templates) (way_few h)
      (false_from_ne_true (length (extends_path sources escaping h) == suc max_templates)
      (λ e. kept.too_long (inl (
        h,
        reached,
        and_from (length (extends_path sources escaping h) == suc max_templates)
            (not (repeated (extends_path sources escaping h))) e (ap not once),
      ))))

  whole : is_whole sources escaping h ≡ true
  whole = search (arith, rules, and_from, once, short, on_way)

  abbrev lacks : BlockBody → Bool
  lacks b = lacks_super (bodies sources escaping h b.name)

  none_lacks : list_any lacks (all_bodies sources escaping h) ≡ false
  none_lacks =
      false_from_ne_true (list_any lacks (all_bodies sources escaping h))
      (λ e. kept.no_super
      (h, reached, and_from (is_whole sources escaping h) (list_any lacks (all_bodies sources escaping h)) whole e))

  -- Each body that calls `super()` has a later body to call.
  pub bodies_behind : Each (λ b. lacks_super (bodies sources escaping h b.name) ≡ false)
      (all_bodies sources escaping h)
  bodies_behind = each_fails lacks (all_bodies sources escaping h) none_lacks
