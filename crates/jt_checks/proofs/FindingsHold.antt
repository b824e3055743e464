-- Each test decides its rule. A finding is true of the chains in which it is found, and chains without a finding
-- break no rule.
pub mod ArgumentsFit
pub use ArgumentsFit.*
use Rattle.jt_checks.specs.internal.RuleTests as test
use Rattle.jt_uses.specs.Uses as uses
use Rattle.jt_rules.specs.declared.error.ScopeError.TheVariants as error
use Rattle.jt_chains.specs.declared.chain.Namespace as written
use Rattle.jt_ast.specs.Expressions.{Expr}

-- ---- The first rule that a use breaks is broken there

-- The rule that is found is broken as N says, or if none is found, no rule is.
abbrev pub Judged : Option ScopeError → (ScopeError → Type 0) → Type 0
Judged None N = (rule : ScopeError) → N rule → ⊥
Judged (Some rule) N = N rule

is_false : (b : Bool) → Decides (not b) (b ≡ false)
is_false b = search (arith, rules)

none_there : (x : Text) (n : ℕ) (bs : List BlockBody)
    → Decides (not (is_some (first_of x n (map (λ b. b.name) bs)))) (filter (λ b. bytes_eq b.name x) bs ≡ [])
none_there x n [] = search (arith, rules)
none_there x n (b ∷ bs) = search (arith, rules, none_there x (suc n) bs)

only_called : (x : Text) → Decides (test.is_only_called x) (IsOnlyCalled x)
only_called x = search (arith, rules, Decides-or, bytes_eq-Decides)

loop_misused : (f : Expr) (w : Enclosing) → Decides (test.misuses_loop f w) (MisusesLoop f w)
loop_misused f w = search (arith, rules, bytes_eq-Decides, Decides-and, Decides-or, Decides-not, is_false)

module _ (cenv : CompileEnv) (namespace : Namespace) where
  never_called : (c : Callee) (w : Enclosing)
      → Decides (test.cannot_be_called cenv namespace c w) (CannotBeCalled cenv namespace c w)
  never_called c w = search (arith, rules, is_false, none_there)

  -- The first rule that a use breaks is broken there, or no rule is.
  pub use_judged : (u : Use) (w : Enclosing)
      → Judged (test.use_broken cenv namespace u w) (λ rule. BreaksAt cenv namespace rule u w)
  use_judged (calls f ts ps) w = search (arith, rules, loop_misused, never_called)
  use_judged u w = search (arith, rules, bytes_eq-Decides, only_called, Decides-ltb)

-- ---- The uses of a body bind as many names as the body is said to bind

one_more : (u : Use) (w : Enclosing) (s : Site) (ss : List Site)
    → length (cond (is_binding u) (s ∷ ss) ss) ≡ weight_of (λ x. 0) (λ c x. 0) u w + length ss
one_more u w s ss = search (arith, rules)

bindings_are : (ss : List Site) → length (filter binds_name ss) ≡ bindings ss
bindings_are [] = refl
bindings_are (s ∷ ss) = omega (arith, one_more s.made s.place.around s (filter binds_name ss), bindings_are ss)

lines_counted : (b : Body) → length (lines_bound (body_uses b uses.outside)) ≡ body_bound b
lines_counted b = rw (length-map, bindings_are) (bindings_counted b)

-- ---- Some item of a list has a property

record Same (A B : Type 0) : Type 0 where
  to : A → B
  back : B → A

never : {A : Type 0} (xs : List A) → ForSome (λ x. ⊥) xs → ⊥
never [] h = h
never (x ∷ xs) h = search (rules, never xs)

module _ {A : Type 0} (P : A → Type 0) where
  -- An item of a concatenation is an item of one of its lists.
  append_same : (xs ys : List A) → Same (ForSome P (xs ++ ys)) (ForSome P xs ⊎ ForSome P ys)
  append_same [] ys = search (arith, rules)
  append_same (x ∷ xs) ys = search (arith, rules, append_same xs ys)

  -- Some item of some list has the property, or some list has a property.
  flat_same : {B : Type 0} (g : B → List A) (Q : B → Type 0) (xs : List B)
      → Same (ForSome (λ x. ForSome P (g x) ⊎ Q x) xs) (ForSome P (flat_map g xs) ⊎ ForSome Q xs)
  flat_same g Q [] = search (arith, rules)
  flat_same g Q (x ∷ xs) = search (arith, rules, append_same (g x) (flat_map g xs), flat_same g Q xs)

-- ---- The first finding of items

-- A search ends with a finding that has the property P and whose rule is broken as N says, or without one, and then
-- no rule is broken.
pub record Decided (o : Option Finding) (P : Finding → Type 0) (N : ScopeError → Type 0) : Type 0 where
  pub rule : Judged (option_map (λ (f : Finding). f.rule) o) N
  pub holds : IfSome o P

or_decided : {P Q : Finding → Type 0} {N M : ScopeError → Type 0} (a b : Option Finding) → Decided a P N
    → Decided b Q M → Decided (option_or a b) (λ f. P f ⊎ Q f) (λ rule. N rule ⊎ M rule)
or_decided (Some f) b j k = record { rule = inl j.rule; holds = inl j.holds }
or_decided None (Some f) j k = record { rule = inr k.rule; holds = inr k.holds }
or_decided None None j k =
    record { rule = λ rule h. elim h [ inl n ↦ j.rule rule n | inr m ↦ k.rule rule m ]; holds = tt }

decided_as : {P Q : Finding → Type 0} {N M : ScopeError → Type 0} (o : Option Finding) → Decided o P N
    → ((f : Finding) → P f → Q f) → ((rule : ScopeError) → Same (N rule) (M rule)) → Decided o Q M
decided_as None j to same = record { rule = λ rule m. j.rule rule ((same rule).back m); holds = tt }
decided_as (Some f) j to same = record { rule = (same f.rule).to j.rule; holds = to f j.holds }

first_decided : {A : Type 0} {P : A → Finding → Type 0} {N : A → ScopeError → Type 0} (g : A → Option Finding)
    → ((x : A) → Decided (g x) (P x) (N x)) → (xs : List A)
    → Decided (test.first g xs) (λ f. ForSome (λ x. P x f) xs) (λ rule. ForSome (λ x. N x rule) xs)
first_decided g each [] = record { rule = λ rule h. h; holds = tt }
first_decided g each (x ∷ xs) = or_decided (g x) (test.first g xs) (each x) (first_decided g each xs)

module _ (cenv : CompileEnv) (namespace : Namespace) where
  -- ---- Uses

  abbrev SiteBreaks : ScopeError → Site → Type 0
  SiteBreaks rule s = BreaksAt cenv namespace rule s.made s.place.around

  -- A use without a subject breaks no rule.
  ruleless : (rule : ScopeError) (s : Site) → subject_of s.made ≡ None → SiteBreaks rule s → ⊥
  ruleless rule s e h = search (arith, rules)

  abbrev IsNamed : Text → Finding → Site → Type 0
  IsNamed n f s = (n ≡ f.template) × IsFoundAt cenv namespace f s

  site_decided : (n : Text) (s : Site)
      → Decided (test.site_finding cenv namespace n s) (λ f. IsNamed n f s) (λ rule. SiteBreaks rule s)
  site_decided n s =
      by (subject_of s.made) (test.use_broken cenv namespace s.made s.place.around) refl
      (use_judged cenv namespace s.made s.place.around)
    where
      by : (x : Option Subject) (r : Option ScopeError) → subject_of s.made ≡ x → Judged r (λ rule. SiteBreaks rule s)
          → Decided (test.finding_of n s.place.line x r) (λ f. IsNamed n f s) (λ rule. SiteBreaks rule s)
      by None r e j = record { rule = λ rule h. ruleless rule s e h; holds = tt }
      by (Some x) None e j = record { rule = j; holds = tt }
      by (Some x) (Some rule) e j =
          record { rule = j; holds = (refl, record { line = refl; broken = j; subject = e }) }

  -- ---- Templates

  abbrev OfNumber : ScopeError → Template → Type 0
  OfNumber error.TooManySlots t = BindsTooMany cenv namespace t
  OfNumber rule t = ⊥

  over_decided : (t : Template) → Decided (option_map (test.finding_over t.name) (test.line_over t.body))
      (λ f. (t.name ≡ f.template) × PassesBindings cenv namespace f t) (λ rule. OfNumber rule t)
  over_decided t = by (test.line_over t.body) refl
    where
      by : (o : Option ℕ) → test.line_over t.body ≡ o → Decided (option_map (test.finding_over t.name) o)
          (λ f. (t.name ≡ f.template) × PassesBindings cenv namespace f t) (λ rule. OfNumber rule t)
      by (Some l) e =
          let within = slice_get_within (lines_bound (body_uses t.body uses.outside)) 4096 l e in
          let broken : BindsTooMany cenv namespace t = omega (arith, lines_counted t.body) in
          record {
            rule = broken;
            holds = (refl, record { rule = refl; broken = broken; line = e; subject = refl });
          }
      by None e = record { rule = none; holds = tt }
        where
          none : (rule : ScopeError) → OfNumber rule t → ⊥
          none error.TooManySlots lt =
              let over = slice_get-get_or (lines_bound (body_uses t.body uses.outside)) 4096 0
              (omega (arith, lines_counted t.body)) in
              absurd (cc)
          none rule h = h

  abbrev TemplateBreaks : ScopeError → Template → Type 0
  TemplateBreaks rule t = ForSome (SiteBreaks rule) (body_uses t.body uses.outside) ⊎ OfNumber rule t

  named : (n : Text) (f : Finding) (ss : List Site) → ForSome (IsNamed n f) ss
      → (n ≡ f.template) × ForSome (IsFoundAt cenv namespace f) ss
  named n f [] h = absurd h
  named n f (s ∷ ss) h = search (arith, rules, named n f ss)

  template_decided : (t : Template)
      → Decided (test.template_broken cenv namespace t) (λ f. IsFoundIn cenv namespace f t)
      (λ rule. TemplateBreaks rule t)
  template_decided t =
      let ss = body_uses t.body uses.outside in
      decided_as _
      (or_decided _ _ (first_decided (test.site_finding cenv namespace t.name) (site_decided t.name) ss)
      (over_decided t))
      (λ f h. search (arith, rules, named t.name f ss)) (λ rule. record { to = λ h. h; back = λ h. h })

  -- ---- Chains

  abbrev ChainBreaks : ScopeError → Type 0
  ChainBreaks rule = ForSome (TemplateBreaks rule) (templates cenv.sources namespace)

  abbrev InParts : ScopeError → Type 0
  InParts rule =
      ForSome (SiteBreaks rule) (chain_uses cenv.sources namespace)
      ⊎ ForSome (OfNumber rule) (templates cenv.sources namespace)

  -- A rule is broken in a chain at one of its uses or by the number of names of a template.
  broken_same : (rule : ScopeError) → Same (ChainBreaks rule) (BrokenIn cenv namespace rule)
  broken_same rule =
      by rule
      (flat_same (SiteBreaks rule) (λ t. body_uses t.body uses.outside) (OfNumber rule)
      (templates cenv.sources namespace))
    where
      by : (rule : ScopeError) → Same (ChainBreaks rule) (InParts rule)
          → Same (ChainBreaks rule) (BrokenIn cenv namespace rule)
      by error.TooManySlots e = e
      by error.NoMemory e = record {
        to = λ h. elim (e.to h) [
          | inl p ↦ never (chain_uses cenv.sources namespace) p
          | inr q ↦ never (templates cenv.sources namespace) q
        ];
        back = λ h. absurd h;
      }
      by rule e = record {
        to = λ h. elim (e.to h) [ inl p ↦ p | inr q ↦ absurd (never (templates cenv.sources namespace) q) ];
        back = λ p. e.back (inl p);
      }

  chain_decided : Decided (test.chain_broken cenv namespace)
      (λ f. ForSome (IsFoundIn cenv namespace f) (templates cenv.sources namespace))
      (λ rule. BrokenIn cenv namespace rule)
  chain_decided =
      decided_as _
      (first_decided (test.template_broken cenv namespace) template_decided (templates cenv.sources namespace))
      (λ f h. h) broken_same

-- ---- All chains

module _ (cenv : CompileEnv) (order : List Namespace) where
  decided : (o : Option Finding) → o ≡ test.chains_broken cenv order
      → Decided o (λ f. ForSome (λ h. ForSome (IsFoundIn cenv h f) (templates cenv.sources h)) order)
      (λ rule. ForSome (λ h. BrokenIn cenv h rule) order)
  decided o e = rw e (first_decided (test.chain_broken cenv) (chain_decided cenv) order)

  -- A finding is true of the chains, and its rule is broken.
  pub found_holds : (f : Finding) → Some f ≡ test.chains_broken cenv order
      → Holds f cenv order × Breaks f.rule cenv order
  found_holds f e = let d = decided (Some f) e in (inl d.holds, by f.rule d.rule)
    where
      by : (rule : ScopeError) → ForSome (λ h. BrokenIn cenv h rule) order → Breaks rule cenv order
      by error.LoopOutside h = h
      by rule h = search (arith, rules)

  -- If no rule is found and the names are few, no rule is broken.
  pub none_is_broken : None ≡ test.chains_broken cenv order → names_counted cenv order ≤ 65535
      → KeepsRules cenv order
  none_is_broken e few = record { none = λ rule h. (decided None e).rule rule (search (arith, rules)) }

-- ---- Chains and templates, one at a time

-- The remaining chains are the one at the index and those after it.
pub chains_left : (c : Chain) (i : ℕ) → i < length c.namespaces.items
    → drop i (chain_view c).order ≡ namespace_in c i ∷ drop (i + 1) (chain_view c).order
chains_left c i lt = search (arith, rules, length-map, drop_more, unwrap_or-slice_get)

counted_first : (cenv : CompileEnv) (h : Namespace) (hs : List Namespace)
    → names_counted cenv (h ∷ hs) ≡ names_of cenv h + names_counted cenv hs
counted_first cenv (a_chain n) hs = refl
counted_first cenv (a_library n) hs = omega arith

pub names_left : (cenv : CompileEnv) (c : Chain) (i : ℕ) → i < length c.namespaces.items
    → names_counted cenv (drop i (chain_view c).order)
    ≡ names_of cenv (namespace_in c i) + names_counted cenv (drop (i + 1) (chain_view c).order)
names_left cenv c i lt = rw (chains_left c i lt) (counted_first cenv (namespace_in c i) _)

-- The remaining templates of a chain are the one at the index and those after it.
pub templates_left : (ts : List Template) (is : List ℕ) (i : ℕ) → i < length is
    → layers_along ts (drop i is) ≡ test.template_at ts (get_or is i 0) ∷ layers_along ts (drop (i + 1) is)
templates_left ts is i lt = ap (layers_along ts) (drop_more is i 0 lt)

-- The indices of a chain are those of templates.
pub template_within : (c : Chain) (i : ℕ) (h : written.Namespace) → i < length c.namespaces.items
    → h ≡ get_or c.namespaces.items i h → (k : ℕ) → k < length h.templates.items
    → get_or h.templates.items k 0 < length c.templates.items
template_within c i h lt at k within = search (arith, rules, index_within, namespace_indices)

-- The name of a chain or a library.
pub name_seen : (c : Chain) (i : ℕ) (h : written.Namespace) → i < length c.namespaces.items
    → h ≡ get_or c.namespaces.items i h → string_bytes h.name ≡ namespace_name (namespace_in c i)
name_seen c i h lt is = rw (name_of_namespace c.namespaces.items i h lt is) (by h.is_library)
  where
    by : (b : Bool)
        → string_bytes h.name
        ≡ namespace_name (if b then a_library (string_bytes h.name) else a_chain (string_bytes h.name))
    by b = search (arith, rules)
