-- A linked chain keeps the rules if its chains and libraries keep those on blocks, macros and imports. If one of them
-- breaks such a rule, the finding is true.
use Rattle.jt_inherit.proofs.Vocabulary as words
use words.{◌≡◌, ◌<◌, ℕ, Bool, true, false, List, [], ◌∷◌, map, length, get_or, refl, subst, arith}
use words.{rules, Some, None, Option, AllByRecursion, slice_get, Text, Body, Options, Sources, Namespace, a_chain}
use words.{a_library, listed, Template, templates, templates_at, SourceTexts, Seen, sources_of, IsChain, IsFinding}
use words.{IsNoMemory, Says, Breaks, Shows, Reaches, KeepsRules, ChainError, ChainFinding, ChainSubject}
use words.{TagPlace, BreakOne, KeepAll, any_lacks_macros, IsOfRule, RuleAt, BrokenIn, IsBroken, is_whole, and_from}
use words.{and_right, both_ways, same_namespace, length-map, namespace_view, IsLinked, library_template}
use Rattle.jt_chains.proofs.TemplatesByIndex.{indices_of_namespace}
use Rattle.jt_chains.specs.View.{chain_view, its_sources, its_templates, namespace_in}
use Rattle.jt_chains.specs.declared.chain.Chain.{Chain}
use Rattle.jt_chains.specs.declared.chain.Namespace as declared
use Rattle.jt_inherit.specs.internal.Breaking.{BreaksAt, KeepsAt}
use Rattle.jt_chains.specs.Chain.{Definition}
use Rattle.jt_chains.specs.Named.{names_view}
use Rattle.jt_names.specs.FactsOfChains.{IsKnown}
use Rattle.jt_names.specs.declared.facts.NamespaceFacts.{NamespaceFacts}
use Rattle.jt_inherit.proofs.RulesHaveTags.{given_tags}
use words.{◌≤◌, sym, defines, given, tag_count, times}
use Rattle.jt_inherit.proofs.RulesCarryOver.{no_chain, one_chain}
use Rattle.jt_inherit.proofs.DiscoveryInvariant.{none_lacking}
use Rattle.jt_inherit.proofs.NamespaceMembership.{reflexive, same}
use Rattle.jt_inherit.proofs.TopologicalOrder.{namespace_among, number_of, reached_in_order}
use words.error
use words.v

-- ---- the templates of a chain or library, by their indices

at_from : (ts : List Template) (is : List ℕ) (us : List Template) → map (slice_get ts) is ≡ map Some us
    → templates_at ts is ≡ us
at_from ts [] [] e = refl
at_from ts (i ∷ is) (u ∷ us) e = search (arith, rules, slice_get, at_from ts is us)
at_from ts is us e = absurd (cc)

pub own_templates : (c : Chain) (i : ℕ) (h : declared.Namespace) (is : List ℕ) → is ≡ h.templates.items
    → i < length c.namespaces.items → h ≡ get_or c.namespaces.items i h
    → templates_at (its_templates c) is ≡ templates (its_sources c) (namespace_in c i)
own_templates c i h is items lt at =
    rw items (at_from (its_templates c) h.templates.items _
    (indices_of_namespace (its_templates c) c.namespaces.items i h lt at c.once c.whole))

-- A name that the definitions have twice has two tags.
pub names_tagged : (c : Chain) (i : ℕ) (f : NamespaceFacts) (us : List Template) (x : Text) → IsKnown c i f
    → us ≡ templates (its_sources c) (namespace_in c i)
    → 2 ≤ times x (map (λ g. g.0) (names_view (its_templates c) (namespace_in c i) f.defined.items))
    → 2 ≤ tag_count (defines x) us
names_tagged c i f us x known own twice =
    let told : 2 ≤ times x (map (λ g. g.0) (given (its_sources c) (namespace_in c i))) =
    subst (λ (gs : List (Text × Definition)). 2 ≤ times x (map (λ g. g.0) gs)) known.all_defined twice in
    let tagged : 2 ≤ tag_count (defines x) (templates (its_sources c) (namespace_in c i)) =
    omega (arith, told, given_tags (its_sources c) (namespace_in c i) x) in
    subst (λ (ts : List Template). 2 ≤ tag_count (defines x) ts) (sym own) tagged

-- ---- the finding of a rule

pub rule_broken : {s : Sources} {escaping : Bool} {h : Namespace} {us : List Template} {e : ChainError}
    {f : ChainFinding} → us ≡ templates s h → BreakOne s escaping h e → IsOfRule s us e f → IsBroken s escaping h f
rule_broken {s} {escaping} {h} {us} {e} {f} own b r = search (arith, rules)

pub memory_broken : {s : Sources} {escaping : Bool} {h : Namespace} {f : ChainFinding} → IsNoMemory f
    → IsBroken s escaping h f
memory_broken {s} {escaping} m = rw m (record { broken = tt; said = refl })

-- A library lacks no macro that it imports, since it imports none.
chain_alone : (s : Sources) (h : Namespace) → any_lacks_macros s (templates s h) ≡ true → (n : Text) × (h ≡ a_chain n)
chain_alone s (a_chain n) b = (n, refl)
chain_alone s (a_library n) b = by (s n) b
  where
    by : (o : Option Body) → any_lacks_macros s (library_template n o) ≡ true
        → (m : Text) × (a_library n ≡ a_chain m)
    by o e = search (arith, rules, none_lacking)

at_listed : (P : Namespace → Type 0) (hs : List Namespace) → AllByRecursion P hs → (h : Namespace)
    → listed h hs ≡ true → P h
at_listed P [] a h there = absurd (cc)
at_listed P (k ∷ hs) a h there = by (same_namespace k h) refl (at_listed P hs a.1 h)
  where
    by : (b : Bool) → same_namespace k h ≡ b → (listed h hs ≡ true → P h) → P h
    by true e rest = subst P (same k h e) a.0
    by false e rest = rest (rw e at there)

-- ---- a linked chain

module _ {given : SourceTexts} {entry : Text} {options : Options} {chain : Seen}
    (l : IsLinked given entry options chain) where
  entry_in : listed (a_chain entry) chain.order ≡ true
  entry_in = search (arith, rules, listed, a_chain, reflexive)

  ordered : {h : Namespace} → Reaches (sources_of chain) chain.escaping (a_chain entry) h
      → listed h chain.order ≡ true
  ordered r = reached_in_order _ _ _ l.order r entry_in

  -- A chain whose namespaces keep the rules.
  module _ (kept : (h : Namespace) → listed h chain.order ≡ true → KeepAll (sources_of chain) chain.escaping h) where
    keeps : KeepsRules (sources_of chain) chain.escaping (a_chain entry)
    keeps = search (arith, rules, both_ways, ordered, and_right)

    keeping : IsChain given entry options chain
    keeping = search (arith, rules, keeps)

  shown : {P : Sources → Type 0} → P (sources_of chain) → Shows given options P
  shown holds = record { templates = chain.templates; read = l.read; only = l.only; holds = holds }

  -- A broken rule of one of its chains and libraries.
  module _ (h : Namespace) (there : listed h chain.order ≡ true) where
    here : Reaches (sources_of chain) options.autoescape (a_chain entry) h
    here = rw (← l.escaping) (at_listed _ chain.order l.reached h there)

    is_one : is_whole (sources_of chain) options.autoescape h ≡ true
    is_one = rw (← l.escaping) (at_listed _ chain.order l.whole h there)

    one_breaks : (e : ChainError) → BreakOne (sources_of chain) options.autoescape h e → Breaks e given entry options
    one_breaks error.DoubleBlock b = shown (h, here, b)
    one_breaks error.RequiredNotGiven b = shown (h, here, and_from _ _ is_one b)
    one_breaks error.NoSuper b = shown (h, here, and_from _ _ is_one b)
    one_breaks error.MacroTwice b = shown (h, here, and_from _ _ is_one b)
    one_breaks error.NoMacro b = let k = chain_alone _ h b in shown (h, here, (k.0, k.1, b))
    one_breaks error.NoMemory b = tt
    one_breaks e b = absurd b

    broken_said : (e : ChainError) (p : TagPlace) (x : ChainSubject)
        → BrokenIn (sources_of chain) (templates (sources_of chain) h) x e p
        → Says given entry options (Some p) (Some x) e
    broken_said e p (v.Macro library x) q = rw q.0 (shown (h, here, (q.1, q.2)))
    broken_said e p (v.NameTwice x first) q = rw q.0 (shown (h, here, q.1))
    broken_said e p (v.BlockTwice x first) q = rw q.0 (shown (h, here, q.1))
    broken_said e p (v.Block x) q = rw q.0 (shown (h, here, q.1))
    broken_said e p (v.Super x opened) q = rw q.0 (shown (h, here, (is_one, q.1)))
    broken_said e p x q = absurd q

    rule_said : (e : ChainError) (p : Option TagPlace) (x : Option ChainSubject)
        → RuleAt (sources_of chain) (templates (sources_of chain) h) p x e → Says given entry options p x e
    rule_said e None None q = q
    rule_said e None (Some x) q = absurd q
    rule_said e (Some p) None q = absurd q
    rule_said e (Some p) (Some x) q = broken_said e p x q

    finds : (f : ChainFinding) → IsBroken (sources_of chain) chain.escaping h f → IsFinding given entry options f
    finds f broken = search (arith, rules, sources_of, one_breaks, rule_said)

-- ---- the chains and libraries by their indices

module _ {given : SourceTexts} {entry : Text} {options : Options} (c : Chain)
    (l : IsLinked given entry options (chain_view c)) where
  pub checked : ((i : ℕ) → i < length c.namespaces.items → KeepsAt c i) → IsChain given entry options (chain_view c)
  checked kept = keeping l (λ h a.
      let k = number_of (chain_view c).order h a in
      subst (KeepAll (its_sources c) c.autoescape) k.2
      (kept k.0 (omega (arith, k.1, length-map c.namespaces.items namespace_view))))

  pub rule_finds : (i : ℕ) → i < length c.namespaces.items → (f : ChainFinding) → BreaksAt c i f
      → IsFinding given entry options f
  rule_finds i lt f b = search (arith, rules, finds, namespace_among, length-map, namespace_view)

  pub only_memory : (other : Seen) → IsChain given entry options other → (f : ChainFinding)
      → IsFinding given entry options f → f.error ≡ error.NoMemory
  only_memory other is f b = no_chain given options entry other is f.error b.broken

  pub only_chain : (other : Seen) → IsChain given entry options other → IsChain given entry options (chain_view c)
      → (n : Text) → sources_of (chain_view c) n ≡ sources_of other n
  only_chain other is this = one_chain given options entry (chain_view c) other this is l.only
