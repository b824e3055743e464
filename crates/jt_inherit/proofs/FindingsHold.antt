-- What a finding says holds in each chain that reaches the tag: findings of the name of a template, of a rule, of a
-- chain that is one too many, of a library that holds something other than macros, and of a ring.
use Rattle.jt_inherit.proofs.Vocabulary as words
use words.{rules, ◌≡◌, ℕ, suc, ◌+◌, ◌-◌, ◌<◌, ◌≤◌, Bool, true, false, List, [], ◌∷◌, ◌++◌, length, String, Global, drop}
use words.{get_or, zero, refl, sym, ap, subst, ◌∙◌, arith, inl, ◌⊎◌, Option, Some, None, string_bytes, ⊎_elim, not, inr}
use words.{HasRead, KeyedNeed, keyed_needs, keyed_view, needs_along, names, flat_map, slice_get, option_map, is_some}
use words.{option_to_list, append_assoc, append-nil, length-map, map-append, Options, among, repeated, Text, Use, Site}
use words.{templates_at, Sources, Namespace, namespace_name, a_chain, a_library, listed, Template, template, templates}
use words.{extends_of, names_up, sources_in, included, IsName, Reaches, here, through, extends_path, SourceTexts}
use words.{ForSome, IsAt, HasTag, all_uses, is_extends, Says, may_be_bare, AreKnown, BreaksAll, IsExtendsPath, Leads}
use words.{IsFaultOf, IsNamedOn, need_test, IsUnmet, tags, place_in, place_view, ChainError, ChainSubject, TagPlace}
use words.{among_next, once_more, of_texts, key_view, ChainFinding, NamespaceKey, both_ways, flat_map-append, Need}
use words.{IsFinding, IsNoMemory, is_include}
use words.{IsNextFinding, chosen, Graph, next_of, is_a_library, namespace_at, leads_to}
use words.{AreFound, is_no_library, and_from, IsBrokenAt, last_of, SaysAll, IsAsked, IsFirst, IsNameless, IsOfName}
use words.{IsOfNeed, IsParentAt, IsRingOf, NamedAt, IsAbout, any_tag, ◌||◌, IsFaultAt, ◌&&◌}
use words.{IsNoLibrary, IsOfImport, LeadsAt}
use words.{HasPath, needed, all_weaker, false_from_ne_true, LeadsTo, HasRing, cases_lt, map-map, unwrap_or, map}
use words.{AllByRecursion}
use Rattle.jt_inherit.proofs.ChainComplete.{edge, none_next, number}
use Rattle.jt_inherit.proofs.DiscoveryInvariant.{chosen_there, reached_from, reached_there, way_there}
use Rattle.jt_inherit.proofs.DiscoveryInvariant.{some_source, none_read, asks_needed, whole_path, included_is, asked_at}
use Rattle.jt_inherit.proofs.PathsGrow as paths_grow
use paths_grow.{all_among, shows, names_lead, templates_lead, few_templates, all_templates, next_at, asked_breaks}
use paths_grow.{among_passes, chains_listed, libraries_listed, reach_read}
use Rattle.jt_inherit.proofs.NumberTables.{is_chain}
use Rattle.jt_inherit.proofs.TagPlaces.{HasUse, placed, tag_front, tag_last, tag_weaker, extends_asks, asked_used}
use Rattle.jt_inherit.proofs.TagPlaces.{leads_used}
use Rattle.jt_inherit.proofs.TopologicalOrder.{namespace_among}
use words.error
use words.graph
use words.v

-- ---- a chain or library that is reached has a template, or is the entry's

listed_source : (s : Sources) (h m : Namespace) → listed m (included s h) ≡ true
    → is_some (s (namespace_name m)) ≡ true
listed_source s h (a_chain n) a = search (arith, rules, among_passes, chains_listed)
listed_source s h (a_library n) a = search (arith, rules, among_passes, libraries_listed)

pub reached_source : {s : Sources} {e : Bool} {h k : Namespace} → Reaches s e h k
    → (k ≡ h) ⊎ (is_some (s (namespace_name k)) ≡ true)
reached_source here = inl refl
reached_source {s} {e} (through {namespace = h} {next = m} a rest) =
    search (arith, rules, is_some, namespace_name, listed_source, reached_source rest)

-- ---- paths

-- The templates of a chain begin with those on its path.
pub chain_front : (s : Sources) (n : Text) (us : List Template) (o : Option Text) → length us ≤ 64
    → Leads s (Some n) us o → (rest : List Template) × (templates s (a_chain n) ≡ us ++ rest)
chain_front s n us o le l =
    let k = 64 - length us in (
      flat_map (λ m. template m (s m)) (names_up s k o),
      ap (flat_map (λ m. template m (s m))) (names_lead s 64 k _ us o (omega arith) l)
          ∙ flat_map-append (λ m. template m (s m)) (names us) (names_up s k o)
          ∙ ap (λ z. z ++ flat_map (λ m. template m (s m)) (names_up s k o)) (templates_lead s (Some n) us o l),
    )

-- ---- a path that comes back to one of its names

-- The path begins again at each of its templates.
leads_on : (s : Sources) (o : Option Text) (us : List Template) (t : Template) (vs : List Template) (p : Option Text)
    → Leads s o (us ++ t ∷ vs) p → Leads s (Some t.name) (t ∷ vs) p
leads_on s None [] t vs p l = absurd l
leads_on s (Some n) [] t vs p l = (refl, ap s l.0 ∙ l.1, l.2)
leads_on s None (u ∷ us) t vs p l = absurd l
leads_on s (Some n) (u ∷ us) t vs p l = leads_on s _ us t vs p l.2

last_name : (x : Text) (us : List Template) (t : Template) → last_of x (names (us ++ t ∷ [])) ≡ t.name
last_name x [] t = refl
last_name x (u ∷ us) t = last_name u.name us t

last_after : (x : Text) (us : List Template) (t : Template) (vs : List Template)
    → last_of x (names (us ++ t ∷ vs)) ≡ last_of t.name (names vs)
last_after x [] t vs = refl
last_after x (u ∷ us) t vs = last_after u.name us t vs

-- The templates before and after the one at a number on a path.
split_at : (ts : List Template) (is : List ℕ) (k : ℕ) (n : Text) → IsNamedOn ts is n k
    → (us : List Template) × (t : Template) × (t.name ≡ n)
    × (templates_at ts is ≡ us ++ t ∷ templates_at ts (drop (k + 1) is))
split_at ts [] k n at = let no : k < 0 = at.0 in absurd (omega arith)
split_at ts (i ∷ is) zero n at = by (slice_get ts i) refl
  where
    by : (o : Option Template) → slice_get ts i ≡ o
        → (us : List Template) × (t : Template) × (t.name ≡ n)
        × (templates_at ts (i ∷ is) ≡ us ++ t ∷ templates_at ts is)
    by None e =
        let no : None ≡ Some n = sym (ap (option_map (λ (t : Template). t.name)) e) ∙ at.1 in
        absurd (cc)
    by (Some t) e =
        let told : Some t.name ≡ Some n = sym (ap (option_map (λ (t : Template). t.name)) e) ∙ at.1 in
        ([], t, (let is_n : t.name ≡ n = cc in is_n), rw e)
split_at ts (i ∷ is) (suc k) n at =
    let lt : k < length is = omega (arith, at.0) in
    let rest = split_at ts is k n (lt, at.1) in
    let one : suc (k + 1) ≡ suc k + 1 = omega arith in (
      option_to_list (slice_get ts i) ++ rest.0,
      rest.1,
      rest.2,
      rw (← one)
          (rw rest.3
          (sym (append_assoc (option_to_list (slice_get ts i)) rest.0 (rest.1 ∷ templates_at ts (drop (k + 1) is))))),
    )

pub there_on : (ts : List Template) (is : List ℕ) (k : ℕ) (n : Text) → IsNamedOn ts is n k
    → among n (names (templates_at ts is)) ≡ true
there_on ts is k n on =
    let cut = split_at ts is k n on in
    let vs = templates_at ts (drop (k + 1) is) in
    rw cut.3 (ap (among n) (map-append (λ (t : Template). t.name) cut.0 (cut.1 ∷ vs))
    ∙ ap (λ z. among n (names cut.0 ++ z ∷ names vs)) cut.2 ∙ among_next of_texts n (names cut.0) (names vs))

-- ---- what is said in a chain that reaches a chain or library

module _ {given : SourceTexts} {options : Options} {root : Text} {ts : List Template}
    (known : AreKnown given options ts) {h : Namespace}
    (r : Reaches (sources_in ts) options.autoescape (a_chain root) h) where
  pub shown : (e : ChainError) (p : TagPlace) (x : ChainSubject)
      → IsBrokenAt given (sources_in ts) options.autoescape (a_chain root) h e p x
      → Says given root options (Some p) (Some x) e
  shown e p x b = shows known (h, r, b)

  unread_root : (n : Text) → namespace_name h ≡ n → is_some (sources_in ts n) ≡ false → n ≡ root
  unread_root n e none = search (arith, rules, both_ways, reached_source)

  missing_unread : (n : Text) → given n ≡ None → is_some (sources_in ts n) ≡ false
  missing_unread n f = some_source ts n ∙ none_read given options ts n known.read.each f

  bad_unread : (n : Text) → (IsName n → ⊥) → is_some (sources_in ts n) ≡ false
  bad_unread n f = false_from_ne_true _ (λ e.
      f (all_among IsName ts n (all_weaker (λ t q. q.named) ts known.read.each) (sym (some_source ts n) ∙ e)))

  -- An error of a source may come without a tag.
  fault_bare : (n : Text) (e : ChainError) → IsFaultOf e given n options → IsNameless e → may_be_bare e ≡ true
  fault_bare n error.Missing f q = absurd q
  fault_bare n error.BadName f q = absurd q
  fault_bare n error.NoMemory f q = refl
  fault_bare n (error.Scan m x) f q = refl
  fault_bare n (error.Parse m x) f q = refl
  fault_bare n e f q = absurd f

  -- The place of the first use that passes a test is known if one passes.
  pub said_at : (e : ChainError) (x : ChainSubject) (test : Use → Bool) (xs : List (Text × Site)) → HasUse test xs
      → (p : Option TagPlace) → option_map place_view p ≡ place_in 0 (tags test xs)
      → ((q : TagPlace) → ForSome (IsAt test q) xs → Says given root options (Some q) (Some x) e)
      → Says given root options p (Some x) e
  said_at e x test xs h p is f =
      let k = placed test xs h p is in
      rw k.1 (f k.0 k.2)

  asked_said : (n : Text) (e : ChainError) → IsFaultOf e given n options → (p : TagPlace) (m : String Global)
      → string_bytes m ≡ n → HasTag (need_test n e) (templates (sources_in ts) h) p → IsOfName e
      → Says given root options (Some p) (Some (v.Template m)) e
  asked_said n error.Missing f p m is t o =
      shown error.Missing p (v.Template m)
      (rw is (t, f))
  asked_said n error.BadName f p m is t o =
      shown error.BadName p (v.Template m)
      (rw is (t, f))
  asked_said n e f p m is t o = absurd o

  asked_placed : (n : Text) (e : ChainError) → IsFaultOf e given n options → (z : TagPlace) (m : String Global)
      → string_bytes m ≡ n → HasTag (need_test n e) (templates (sources_in ts) h) z → IsOfName e
      → (p : Option TagPlace) → p ≡ Some z → Says given root options p (Some (v.Template m)) e
  asked_placed n e f z m is t o p at = rw at (asked_said n e f z m is t o)

  -- A tag of the chain or library asks for the name at the place. A name without a place is the entry's
  -- own.
  abbrev AskedFor : Text → ChainError → Option TagPlace → Type 0
  AskedFor n e None = namespace_name h ≡ n
  AskedFor n e (Some p) = HasTag (need_test n e) (templates (sources_in ts) h) p

  pub named_said : (n : Text) (e : ChainError) → IsFaultOf e given n options → (o : Option TagPlace) → AskedFor n e o
      → (p : Option TagPlace) (x : Option ChainSubject) → NamedAt o n e x p → Says given root options p x e
  named_said n e f o a None None q = fault_bare n e f q
  named_said n error.Missing f None a None (Some (v.Template m)) q =
      let root_is = unread_root n a (missing_unread n f) in
      (q.1 ∙ root_is, ap given (sym root_is) ∙ f)
  named_said n error.BadName f None a None (Some (v.Template m)) q =
      let root_is = unread_root n a (bad_unread n f) in
      (q.1 ∙ root_is, λ k. f (rw root_is k))
  named_said n e f None a None (Some (v.Template m)) q = absurd q.2
  named_said n e f None a (Some p) (Some (v.Template m)) q = search (arith, rules)
  named_said n e f (Some z) a p (Some (v.Template m)) q = asked_placed n e f z m q.1 a q.2 p q.0
  named_said n e f o a p x q = absurd q

  pub need_said : {us : List Template} → templates (sources_in ts) h ≡ us → (n : Text) (e : ChainError)
      → IsFaultOf e given n options
      → HasUse (need_test n e) (all_uses us) → (o : Option TagPlace) → IsFirst (need_test n e) us o
      → (p : Option TagPlace) (x : Option ChainSubject) → NamedAt o n e x p → Says given root options p x e
  need_said {us} whole n e f used o first p x q =
      let k = placed _ _ used o first in
      named_said n e f o (rw k.1 (rw whole k.2))
      p x q

-- ---- an error at the end of a path

module _ {given : SourceTexts} {options : Options} {root : Text} {ts : List Template}
    (known : AreKnown given options ts) {h : Text}
    (r : Reaches (sources_in ts) options.autoescape (a_chain root) (a_chain h)) {is : List ℕ} {n : Text}
    (w : IsExtendsPath ts (a_chain h) is (Some n)) where
  -- A tag on the path is one of the chain.
  tagged : (q : TagPlace) → HasTag (is_extends n) (templates_at ts is) q
      → HasTag (is_extends n) (templates (sources_in ts) (a_chain h)) q
  tagged q t =
      let on = chain_front _ h _ _
      (omega (arith, few_templates ts is, w.few)) w.leads in
      rw on.1 (tag_front (is_extends n) q (templates_at ts is) on.0 t)

  -- The name of a chain whose path is empty.
  own_name : templates_at ts is ≡ [] → h ≡ n
  own_name e = search (arith, rules, sources_in)

  pub fault_placed : (e : ChainError) → IsFaultOf e given n options → (o : Option TagPlace)
      → IsAsked (templates_at ts is) n o → (p : Option TagPlace) (x : Option ChainSubject) → NamedAt o n e x p
      → Says given root options p x e
  fault_placed e f None a p x q = named_said known r n e f None (own_name a) p x q
  fault_placed e f (Some z) a p x q =
      named_said known r n e f (Some z)
      (tag_weaker (is_extends n) (need_test n e) (extends_asks (any_tag e) n) z (templates (sources_in ts) (a_chain h))
      (tagged z a.4)) p x q

  -- What the tag of the last template shows, if the path is not empty.
  parent_said : (e : ChainError) (x : ChainSubject) → (templates_at ts is ≡ [] → ⊥)
      → ((us : List Template) (t : Template) → templates_at ts is ≡ us ++ t ∷ [] → (q : TagPlace)
      → HasTag (is_extends n) (templates (sources_in ts) (a_chain h)) q → string_bytes q.template ≡ t.name
      → Says given root options (Some q) (Some x) e)
      → (o : Option TagPlace) → IsAsked (templates_at ts is) n o → (p : Option TagPlace) → p ≡ o
      → Says given root options p (Some x) e
  parent_said e x some f None a p is_o = absurd (some a)
  parent_said e x some f (Some z) a p is_o =
      rw is_o (f a.0 a.1 a.2 z (tagged z a.4) a.3)

  pub cycle_placed : {k : ℕ} → IsNamedOn ts is n k → (o : Option TagPlace) → IsAsked (templates_at ts is) n o
      → (f : ChainFinding) → f.place ≡ o → IsRingOf n (names (templates_at ts (drop (k + 1) is))) f.subject
      → Says given root options f.place f.subject error.ExtendsCycle
  cycle_placed {k} on o a f at told =
      let vs = templates_at ts (drop (k + 1) is) in
      let m = told.0 in
      let rest = told.1 in
      let len : length rest.items ≡ length vs =
      sym (length-map rest.items (λ (z : String Global). string_bytes z)) ∙ ap length told.4
      ∙ length-map vs (λ (t : Template). t.name) in
      rw told.2 (parent_said error.ExtendsCycle (v.Ring m rest) some
      (λ us t last z tag named.
      shown known r error.ExtendsCycle z (v.Ring m rest)
      (rw told.3 (
        tag,
        ap (λ j. names_up s (j + 1) (Some n)) len ∙ ring.0 ∙ ap (λ l. n ∷ l) (sym told.4),
        named ∙ ring.1 us t last ∙ ap (last_of n) (sym told.4),
      ))) o a f.place at)
    where
      s : Sources
      s = sources_in ts

      some : templates_at ts is ≡ [] → ⊥
      some e = let no = (rw e at (there_on ts is k n on)) in cc

      -- The names of the ring are those of the path from the name on.
      ring : (names_up s (length (templates_at ts (drop (k + 1) is)) + 1) (Some n)
          ≡ n ∷ names (templates_at ts (drop (k + 1) is)))
          × ((us : List Template) (t : Template) → templates_at ts is ≡ us ++ t ∷ []
          → t.name ≡ last_of n (names (templates_at ts (drop (k + 1) is))))
      ring =
          let vs = templates_at ts (drop (k + 1) is) in
          let cut = split_at ts is k n on in
          let leads = leads_on s _ cut.0 cut.1 vs _
          (rw cut.3 at w.leads) in (
            subst (λ z. names_up s (length vs + 1) (Some z) ≡ z ∷ names vs) cut.2
                (names_lead s (length vs + 1) 0 (Some cut.1.name) (cut.1 ∷ vs) (Some n) (omega arith) leads
                ∙ append-nil (names (cut.1 ∷ vs))),
            λ us t last.
                sym (last_name n us t) ∙ ap (λ l. last_of n (names l)) (sym last ∙ cut.3)
                ∙ last_after n cut.0 cut.1 vs ∙ ap (λ z. last_of z (names vs)) cut.2,
          )

  pub long_placed : length is ≡ 64 → among n (names (templates_at ts is)) ≡ false → (o : Option TagPlace)
      → IsAsked (templates_at ts is) n o → (f : ChainFinding) → f.place ≡ o → IsAbout v.Templates n f.subject
      → Says given root options f.place f.subject error.ChainTooLong
  long_placed full new o a f at told =
      let s = sources_in ts in
      let us = templates_at ts is in
      let len : length us ≡ 64 = all_templates ts is w.indices ∙ full in
      let up : extends_path s options.autoescape (a_chain h) ≡ names us ++ n ∷ [] =
      names_lead s 65 1 _ us _ (omega (arith, len)) w.leads in
      let count : length (names us) ≡ 64 = length-map us (λ (u : Template). u.name) ∙ len in
      rw told.1 (parent_said error.ChainTooLong (v.Templates told.0) (λ e. absurd (omega (arith, len, ap length e)))
      (λ front_templates t last z tag named.
      shown known r error.ChainTooLong z (v.Templates told.0)
      (rw told.2 (
        tag,
        rw up (subst (λ j. slice_get (names us ++ n ∷ []) j ≡ Some n) count (next_at (names us) n [])),
        ap repeated up ∙ once_more of_texts n (names us) w.once new,
      ))) o a f.place at)

-- The finding of an error of a chain, for each chain that reaches it, before more was read.
pub refused_all : {given : SourceTexts} {options : Options} {ts us : List Template} {xs : List Text}
    → HasRead given options ts us xs
    → (k : NamespaceKey) → k.is_library ≡ false → (e : ChainError) (f : ChainFinding) → f.error ≡ e
    → BreaksAll given options us (a_chain (string_bytes k.name)) e
    → ((root : Text)
    → Reaches (sources_in us) options.autoescape (a_chain root) (a_chain (string_bytes k.name))
    → Says given root options f.place f.subject e)
    → BreaksAll given options ts (key_view k) f.error × SaysAll given options ts (key_view k) f
refused_all r k is e f told b s =
    rw (is_chain k is, told) ((λ root q. b root (reach_read r q)), (λ root q. s root (reach_read r q)))

pub extends_told : (t : Template) (n : Text) (o : Option TagPlace) → IsParentAt t n o → extends_of t.body ≡ Some n
extends_told t n None a = absurd a
extends_told t n (Some p) a = a.0

-- A path with one template more, which extends the next name.
pub asked_turn : (vs ws : List Template) (t : Template) (n : Text) (o : Option TagPlace) → vs ≡ ws ++ t ∷ []
    → IsParentAt t n o → IsAsked vs n o
asked_turn vs ws t n None e a = absurd a
asked_turn vs ws t n (Some p) e a =
    (ws, t, e, a.1, rw e (tag_last _ p ws t a.2))

must_ask : (e : ChainError) (b : Bool) → (e ≡ error.Missing → b ≡ false) → (any_tag e || not b) ≡ true
must_ask error.Missing b h = rw (h refl)
must_ask e b h = refl

-- The finding of an included or imported template, by its index among them.
pub unmet_need : (given : SourceTexts) (options : Options) (ts : List Template) (is : List ℕ) (ns : List KeyedNeed)
    (k : ℕ) (x : KeyedNeed) (e : ChainError) (f : ChainFinding)
    → keyed_needs ns ≡ needs_along ts is → k < length ns → x ≡ get_or ns k x → IsFaultAt given options (keyed_view x) e
    → IsOfNeed (templates_at ts is) (string_bytes x.namespace.name) e f → IsUnmet given options ts is f
unmet_need given options ts is ns k x e f same_needs lt at fault told =
    inr (record {
      name = string_bytes x.namespace.name;
      asked = rw told.0 (rw (← same_needs) (asked_at ns k x lt at (any_tag e) (must_ask e x.ignoring fault.1)));
      fault = rw told.0 fault.0;
      placed = rw told.0 (refl, told.1);
    })

module _ {given : SourceTexts} {root : Text} {options : Options} where
  pub no_memory : (f : ChainFinding) → IsNoMemory f → IsFinding given root options f
  no_memory f is = rw is (record { broken = tt; says = refl })

  -- An error of an included or imported template.
  pub need_finds : {ts : List Template} {h : Namespace} {is : List ℕ} → AreKnown given options ts
      → Reaches (sources_in ts) options.autoescape (a_chain root) h → IsExtendsPath ts h is None → (f : ChainFinding)
      → IsUnmet given options ts is f → IsFinding given root options f
  need_finds {ts} {h} {is} known r w f unmet = ⊎_elim
      (λ m. no_memory f m)
      (λ n. record {
        broken =
            asked_breaks known r n.name f.error (asks_needed options.autoescape w (any_tag f.error) n.name n.asked)
            n.fault;
        says =
            need_said known r (whole_path w) n.name f.error n.fault
            (asked_used (any_tag f.error) n.name ts is w.indices n.asked)
            n.placed.1.0 n.placed.1.1 f.place f.subject n.placed.1.2;
      })
      unmet

-- A chain or library, the next one that is followed, leads to more chains than an entry may reach.
module _ {given : SourceTexts} {options : Options} {root : Text} {ts0 : List Template} {hs : List Namespace}
    {ws ns : Graph} (f : AreFound given options root ts0 hs ws ns) {h : Namespace}
    (at : slice_get hs (length ws) ≡ Some h) {ts1 : List Template} {is : List ℕ}
    (p : HasPath given options ts0 ts1 h is) {ts : List Template} {needs : List Need}
    (same_needs : needs ≡ needs_along ts1 is) (r : HasRead given options ts1 ts (needed true needs)) where
  pub next_finds : (x : ChainFinding) → IsNextFinding hs (chosen (names ts) needs) (templates_at ts is) x
      → IsFinding given root options x
  next_finds x q = ⊎_elim (λ m. no_memory x m)
      (λ t.
      let many = t.1 in
      let told = t.2 in
      let subject = v.Chains told.subject.0 in
      let there = reached_there f at p same_needs r in
      let whole = whole_path (way_there f at p same_needs r) in
      let reached = λ (m : Text) (a : among m many.chains ≡ true).
      reached_from f at p same_needs r (a_chain m) (many.from m a) in
      let used = subst (λ l. HasUse (is_include t.0) (all_uses l)) whole
      (leads_used _ h _ (ap (listed (a_chain t.0)) (chosen_there f at p same_needs r) ∙ many.led)) in
      record {
        broken =
            rw told.error (shows r.known (inr (many.chains, many.many, ap not many.once, reached)));
        says =
            rw (told.error, told.subject.1) (said_at r.known there error.ChainTooLong subject (is_include t.0) _ used
            x.place told.place
            (λ z tag. shown r.known there error.ChainTooLong z subject
            (rw told.subject.2 (
              rw whole tag,
              record {
                names = many.chains;
                many = many.many;
                once = many.once;
                reached = reached;
                this_one = many.this_one;
              },
            ))));
      })
      q

module _ {given : SourceTexts} {options : Options} {entry : Text} {ts : List Template}
    {hs : List Namespace} {ws ns : Graph} (f : AreFound given options entry ts hs ws ns) where
  -- A followed chain or library leads to the library.
  led_there : (n : Text) → listed (a_library n) hs ≡ true → (i : ℕ) × (i < length ws)
      × HasUse (leads_to (a_library n)) (all_uses (templates_at ts (next_of ws i)))
  led_there n a = ⊎_elim (λ (e : a_library n ≡ a_chain entry). absurd (cc))
      (λ l.
      let i = l.0 in
      let lt : i < length ws = l.1 in
      let h = namespace_at hs i in
      let w = (f.followed.each i lt).led in (
        i,
        lt,
        rw (← (whole_path w)) (leads_used _ h _
            (ap (listed (a_library n)) (included_is w) ∙ l.2)),
      ))
      (f.led (a_library n) a)

  import_said : (n : Text) → listed (a_library n) hs ≡ true
      → (is_some (sources_in ts n) && not (is_a_library (sources_in ts n))) ≡ true → (p : Option TagPlace)
      → LeadsAt ts ws (a_library n) p → (x : Option ChainSubject) → IsAbout v.Template n x
      → Says given entry options p x error.NotALibrary
  import_said n a other None none x q =
      let l = led_there n a in
      let found = placed _ _ l.2 None
      (sym (none l.0 l.1)) in
      let no = found.1 in
      absurd (cc)
  import_said n a other (Some p) q x is =
      let k = q.0 in
      let within : k < length ws = q.1 in
      let lt : k < length hs = omega (arith, within, f.followed.few) in
      let h = namespace_at hs k in
      let front = whole_path (f.followed.each k within).led in
      rw is.1 (shown f.known (f.reached h (namespace_among hs k lt)) error.NotALibrary p (v.Template is.0)
      (rw is.2 (rw front q.2, other)))

  no_library : (h : Namespace) → listed h hs ≡ true → (x : ChainFinding) → is_no_library ts h ≡ true
      → IsOfImport ts ws h x → IsFinding given entry options x
  no_library (a_chain n) a x none told = absurd (cc)
  no_library (a_library n) a x none told =
      search (arith, rules, sources_in, is_some, reached_source, and_from, shows, import_said)

  pub library_finds : (h : Namespace) → listed h hs ≡ true → (x : ChainFinding) → IsNoLibrary ts ws h x
      → IsFinding given entry options x
  library_finds h a x q = ⊎_elim (λ m. no_memory x m) (λ n. no_library h a x n.0 n.1) q

-- ---- rings: a ring of the numbers of chains and libraries is one of the chains and libraries

led_reaches : (s : Sources) (e : Bool) (h : Namespace) (ks : List Namespace) (t : Namespace) → LeadsTo s h ks t
    → Reaches s e h t
led_reaches s e h [] t l = rw (← l) here
led_reaches s e h (k ∷ ks) t l = through l.0 (led_reaches s e k ks t l.1)

-- The last one of a number and further numbers.
abbrev pub last_on : ℕ → List ℕ → ℕ
last_on i [] = i
last_on i (k ∷ ks) = last_on k ks

pub last_item : (i : ℕ) (is : List ℕ) → unwrap_or (slice_get is (length is - 1)) i ≡ last_on i is
last_item i [] = refl
last_item i (k ∷ []) = refl
last_item i (k ∷ (j ∷ is)) =
    let one : length (k ∷ (j ∷ is)) - 1 ≡ suc (length (j ∷ is) - 1) = omega arith in
    rw one (last_item i (j ∷ is))

last_leads : (g : Graph) (i : ℕ) (is : List ℕ) (t : ℕ) → graph.Leads g i is t
    → graph.among t (next_of g (last_on i is)) ≡ true
last_leads g i [] t a = a
last_leads g i (k ∷ is) t a = last_leads g k is t a.1

module _ {given : SourceTexts} {options : Options} {entry : Text} {ts : List Template}
    {hs : List Namespace} {ws ns : Graph} (f : AreFound given options entry ts hs ws ns)
    (all : length ws ≡ length hs) where
  leads_namespaces : (i : ℕ) (is : List ℕ) (t : ℕ) → graph.Leads ns i is t
      → LeadsTo (sources_in ts) (namespace_at hs i) (map (namespace_at hs) is) (namespace_at hs (last_on i is))
  leads_namespaces i [] t a = refl
  leads_namespaces i (k ∷ is) t a = ((edge f all i k a.0).1, leads_namespaces k is t a.1)

  -- The error of an order: lack of memory, or a ring.
  pub order_finds : (x : ChainFinding) → IsNoMemory x ⊎ HasRing ts hs ws ns x → IsFinding given entry options x
  order_finds x q = ⊎_elim (λ m. no_memory x m) ring q
    where
      ring : HasRing ts hs ws ns x → IsFinding given entry options x
      ring r =
          let first = r.0 in
          let last = last_on first r.1 in
          let e = edge f all last first (last_leads ns first r.1 first r.2) in
          let h = namespace_at hs last in
          let front = whole_path (number f all last e.0).led in
          let next = namespace_at hs first in
          let used = subst (λ l. HasUse (leads_to next) (all_uses l)) front (leads_used _ h next e.1) in
          let there = f.reached h (namespace_among hs last e.0) in
          let back = leads_namespaces first r.1 first r.2 in
          let q = r.3.subject in
          record {
            broken =
                rw r.3.error (shows f.known (h, there, (next, e.1, led_reaches _ _ next _ h back)));
            says =
                rw r.3.error (rw q.2 (said_at f.known there _ _ _
                (all_uses (templates_at ts (next_of ws last))) used x.place (rw (last_item first r.1) at r.3.place)
                (λ z tag. shown f.known there error.IncludeCycle z (v.Ring q.0 q.1) (record {
                  next = next;
                  others = map (namespace_at hs) r.1;
                  first_name = sym q.3;
                  other_names = map-map namespace_name (namespace_at hs) r.1 ∙ sym q.4;
                  tag = rw front tag;
                  led = e.1;
                  back = back;
                }))));
          }

-- A number that leads to another one is a node.
node : (g : Graph) (i j : ℕ) → graph.among j (next_of g i) ≡ true → i < length g
node g i j a = ⊎_elim (λ (lt : i < length g). lt) (λ (le : length g ≤ i). absurd (none_next g i j le a))
    (cases_lt i (length g))

-- The numbers of a ring are those of nodes.
pub ring_within : (g : Graph) (i : ℕ) (is : List ℕ) (t : ℕ) → graph.Leads g i is t
    → (i < length g) × AllByRecursion (λ k. k < length g) is × (last_on i is < length g)
ring_within g i [] t a = (node g i t a, tt, node g i t a)
ring_within g i (k ∷ is) t a =
    let rest = ring_within g k is t a.1 in
    (node g i k a.0, (rest.0, rest.1), rest.2)
