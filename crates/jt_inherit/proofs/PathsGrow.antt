-- Paths that are extended: their names, sources and weights, and what stays true of them when more is read.
use Rattle.jt_inherit.proofs.Vocabulary as words
use words.{◌≡◌, ℕ, zero, suc, ◌+◌, ◌-◌, ◌<◌, ◌≤◌, ◌==◌, Bool, true, false, not, ◌&&◌, List, [], ◌∷◌, ◌++◌, length, drop}
use words.{get_or, refl, sym, ap, subst, ◌∙◌, arith, inl, inr, ⊎_elim, Option, Some, None, length-append}
use words.{string_bytes, rules, nat_lt, map, HasRead, among_behind, among_cases, names, flat_map, slice_get, bytes_eq}
use words.{option_to_list, slice_get_within, slice_get-get_or, AllByRecursion, append-nil, append_assoc, drop_more}
use words.{length-map, Options, among, repeated, Text, Body, end, AreIndices, templates_at, Sources, Namespace, a_chain}
use words.{a_library, Template, template, templates, libraries, extends_of, parent_of, names_up, sources_in}
use words.{SourceTexts, IsRead, IsOnly, IsFaultOf, needs_in, file_view, files_view, TemplateFile, Breaks, HasFault}
use words.{Shows, Reaches, asked, extends_path, Leads, AreKnown, IsExtendsPath, IsWithin, ChainError, only_one, map_at}
use words.{IsNamedOn, of_texts, same, among_front, among_next, once_more, map_push, list_any, is_none, nat_tests}
use words.{templates_weight, templates_len, or_from, or_right, filter, is_some, listed, library_template}
use words.{libraries_in, included, with_source, Asks, here, through, reflexive}
use words.{any_tag, slice_get-map, flat_map-append, HasFaulty, LeadsFrom, all_more, comes_again, names_at, map-append}
use Rattle.std.proofs.lemmas.Option.{slice_get_past}
use words.error

-- ---- sources that grow

abbrev pub Grows : Sources → Sources → Type 0
Grows s r = (n : Text) (b : Body) → s n ≡ Some b → r n ≡ Some b

pub more_sources : (ts us : List Template) → Grows (sources_in ts) (sources_in (ts ++ us))
more_sources [] us n b e = absurd (cc)
more_sources (t ∷ ts) us n b e = search (arith, rules, more_sources ts us n b)

pub leads_grow : (s r : Sources) → Grows s r → (o : Option Text) (ts : List Template) (p : Option Text) → Leads s o ts p
    → Leads r o ts p
leads_grow s r g o [] p l = l
leads_grow s r g None (t ∷ ts) p l = absurd l
leads_grow s r g (Some n) (t ∷ ts) p l = (l.0, g n t.body l.1, leads_grow s r g _ ts p l.2)

-- A path with one template more.
pub leads_more : (s : Sources) (o : Option Text) (ts : List Template) (t : Template) → Leads s o ts (Some t.name)
    → s t.name ≡ Some t.body → Leads s o (ts ++ t ∷ []) (extends_of t.body)
leads_more s None [] t l e = absurd (cc)
leads_more s (Some n) [] t l e = search (arith, rules)
leads_more s None (u ∷ ts) t l e = absurd l
leads_more s (Some n) (u ∷ ts) t l e = (l.0, l.1, leads_more s _ ts t l.2 e)

-- ---- the names on a path

pub none_up : (s : Sources) (k : ℕ) → names_up s k None ≡ []
none_up s zero = refl
none_up s (suc k) = refl

pub names_lead : (s : Sources) (m k : ℕ) (o : Option Text) (ts : List Template) (p : Option Text) → m ≡ length ts + k
    → Leads s o ts p → names_up s m o ≡ names ts ++ names_up s k p
names_lead s m k o [] p e l = search (arith, rules, names_up)
names_lead s m k None (t ∷ ts) p e l = absurd l
names_lead s zero k (Some n) (t ∷ ts) p e l = absurd (omega arith)
names_lead s (suc m) k (Some n) (t ∷ ts) p e l =
    search (arith, rules, names_up, parent_of, extends_of, names_lead s m k)

pub names_to_root : (s : Sources) (m : ℕ) (o : Option Text) (ts : List Template) → length ts ≤ m → Leads s o ts None
    → names_up s m o ≡ names ts
names_to_root s m o ts le l =
    let k = m - length ts in
    names_lead s m k o ts None (omega arith) l ∙ ap (λ xs. names ts ++ xs) (none_up s k) ∙ append-nil (names ts)

pub templates_lead : (s : Sources) (o : Option Text) (ts : List Template) (p : Option Text) → Leads s o ts p
    → flat_map (λ n. template n (s n)) (names ts) ≡ ts
templates_lead s o [] p l = refl
templates_lead s None (t ∷ ts) p l = absurd l
templates_lead s (Some n) (t ∷ ts) p l =
    rw (ap s l.0 ∙ l.1) (ap (λ xs. t ∷ xs) (templates_lead s (extends_of t.body) ts p l.2))

pub templates_to_root : (s : Sources) (h : Text) (ts : List Template) → length ts ≤ 64 → Leads s (Some h) ts None
    → templates s (a_chain h) ≡ ts
templates_to_root s h ts le l =
    ap (flat_map (λ n. template n (s n))) (names_to_root s 64 _ ts le l) ∙ templates_lead s (Some h) ts None l

-- The next name is requested.
pub next_asked : (s : Sources) (e all : Bool) (h : Text) (ts : List Template) (n : Text) → length ts ≤ 64
    → Leads s (Some h) ts (Some n) → among n (asked s e all (a_chain h)) ≡ true
next_asked s e all h ts n le l =
    let k = 64 - length ts in
    let up : extends_path s e (a_chain h) ≡ names ts ++ names_up s (suc k) (Some n) =
    names_lead s 65 (suc k) _ ts _ (omega arith) l in
    among_front of_texts n (extends_path s e (a_chain h)) _
    (ap (among n) up ∙ among_next of_texts n (names ts) (names_up s k (parent_of (s n))))

-- ---- templates at indices when more are read

pub indices_grow : (ts us : List Template) (is : List ℕ) → AreIndices ts is → AreIndices (ts ++ us) is
indices_grow ts us [] a = tt
indices_grow ts us (i ∷ is) a = (omega (arith, a.0, length-append ts us), indices_grow ts us is a.1)

pub at_front : {A : Type 0} (xs ys : List A) (i : ℕ) → i < length xs → slice_get (xs ++ ys) i ≡ slice_get xs i
at_front [] ys i lt = absurd (omega arith)
at_front (x ∷ xs) ys zero lt = refl
at_front (x ∷ xs) ys (suc i) lt = at_front xs ys i (omega arith)

pub templates_grow : (ts us : List Template) (is : List ℕ) → AreIndices ts is
    → templates_at (ts ++ us) is ≡ templates_at ts is
templates_grow ts us [] a = refl
templates_grow ts us (i ∷ is) a =
    rw (at_front ts us i a.0) (ap (λ l. option_to_list (slice_get ts i) ++ l) (templates_grow ts us is a.1))

pub templates_more : (ts : List Template) (is : List ℕ) (i : ℕ) (t : Template) → slice_get ts i ≡ Some t
    → templates_at ts (is ++ i ∷ []) ≡ templates_at ts is ++ t ∷ []
templates_more ts [] i t e = rw e
templates_more ts (j ∷ is) i t e =
    search (arith, rules, option_to_list, slice_get, templates_more ts is i t e, append_assoc, templates_at)

-- The template file at an index, and the templates at the further indices.
module _ (ps : List TemplateFile) (is : List ℕ) (k : ℕ) (p : TemplateFile) (lt : k < length is)
    (within : get_or is k 0 < length ps) (at : p ≡ get_or ps (get_or is k 0) p) where
  pub templates_turn : templates_at (files_view ps) (drop k is)
      ≡ file_view p ∷ templates_at (files_view ps) (drop (k + 1) is)
  templates_turn = search (arith, rules, drop_more, map_at)

  -- The template file at a number on a path has the name, or another one.
  pub named_here : (n : Text) → bytes_eq (string_bytes p.name) n ≡ true → IsNamedOn (files_view ps) is n k
  named_here n e = search (arith, rules, map_at, same)

  pub passed_by : (n : Text) (b : Bool) → bytes_eq (string_bytes p.name) n ≡ false
      → among n (names (templates_at (files_view ps) (drop k is))) ≡ b
      → among n (names (templates_at (files_view ps) (drop (k + 1) is))) ≡ b
  passed_by n b e before = search (arith, rules, templates_turn)

-- Nothing is at an index out of range.
pub templates_past : (ps : List TemplateFile) (is : List ℕ) (k : ℕ) → k < length is → length ps ≤ get_or is k 0
    → templates_at (files_view ps) (drop k is) ≡ templates_at (files_view ps) (drop (k + 1) is)
templates_past ps is k lt le = search (arith, rules, drop_more, slice_get_past, length-map)

pub few_templates : (ts : List Template) (is : List ℕ) → length (templates_at ts is) ≤ length is
few_templates ts [] = omega arith
few_templates ts (i ∷ is) = search (arith, rules, few_templates ts is, length-append)

pub all_templates : (ts : List Template) (is : List ℕ) → AreIndices ts is → length (templates_at ts is) ≡ length is
all_templates ts [] a = refl
all_templates ts (i ∷ is) a = by (slice_get ts i) refl (all_templates ts is a.1)
  where
    by : (o : Option Template) → slice_get ts i ≡ o → length (templates_at ts is) ≡ length is
        → length (templates_at ts (i ∷ is)) ≡ suc (length is)
    by None e r =
        let h = slice_get-get_or ts i (let none : Template = record { name = []; body = end } in none) a.0 in
        absurd (cc)
    by (Some t) e r = rw e (ap suc r)

pub all_at_indices : (P : Template → Type 0) (ts : List Template) (is : List ℕ) → AllByRecursion P ts
    → AllByRecursion P (templates_at ts is)
all_at_indices P ts [] a = tt
all_at_indices P ts (i ∷ is) a = by (slice_get ts i) refl (all_at_indices P ts is a)
  where
    at : (us : List Template) (j : ℕ) (t : Template) → slice_get us j ≡ Some t → AllByRecursion P us → P t
    at [] j t e h = absurd (cc)
    at (u ∷ us) zero t e h = rw (← (let k : u ≡ t = cc in k)) h.0
    at (u ∷ us) (suc j) t e h = at us j t e h.1

    by : (o : Option Template) → slice_get ts i ≡ o → AllByRecursion P (templates_at ts is)
        → AllByRecursion P (option_to_list (slice_get ts i) ++ templates_at ts is)
    by None e r = rw e r
    by (Some t) e r = rw e (at ts i t e a, r)

-- ---- templates that are read

-- One template more was read.
pub one_read : {given : SourceTexts} {options : Options} {ts us : List Template} {t : Template} {n : Text}
    → AreKnown given options ts → among t.name (names ts) ≡ false → IsRead given options t → IsOnly given options t
    → IsWithin given t → us ≡ ts ++ t ∷ [] → t.name ≡ n → HasRead given options ts us (n ∷ [])
one_read {given} {options} {ts} {us} {t} {n} k new r only i grown named = record {
  known = rw grown (search (arith, rules, all_more, map_push, once_more of_texts));
  more = t ∷ [];
  grown = grown;
  from = λ x a. search (arith, rules, among_cases of_texts, map_push);
}

-- Nothing more was read.
pub nothing_read : {given : SourceTexts} {options : Options} {ts : List Template} {xs : List Text}
    → AreKnown given options ts → HasRead given options ts ts xs
nothing_read {ts = ts} k = record { known = k; more = []; grown = sym (append-nil ts); from = λ n a. inl a }

pub read_on : {given : SourceTexts} {options : Options} {ts us vs : List Template} {xs ys zs : List Text}
    → HasRead given options ts us xs → HasRead given options us vs ys
    → ((n : Text) → among n xs ≡ true → among n zs ≡ true) → ((n : Text) → among n ys ≡ true → among n zs ≡ true)
    → HasRead given options ts vs zs
read_on {ts = ts} p q f g = record {
  known = q.known;
  more = p.more ++ q.more;
  grown = q.grown ∙ ap (λ l. l ++ q.more) p.grown ∙ append_assoc ts p.more q.more;
  from = λ n a. ⊎_elim (λ b. ⊎_elim (λ c. inl c) (λ c. inr (f n c)) (p.from n b)) (λ b. inr (g n b)) (q.from n a);
}

pub next_at : {X : Type 0} (xs : List X) (x : X) (ys : List X) → slice_get (xs ++ x ∷ ys) (length xs) ≡ Some x
next_at [] x ys = refl
next_at (y ∷ xs) x ys = next_at xs x ys

-- ---- paths

from_grows : (s r : Sources) → Grows s r → (h : Namespace) (ts : List Template) (p : Option Text) → LeadsFrom s h ts p
    → LeadsFrom r h ts p
from_grows s r g (a_chain n) ts p l = leads_grow s r g _ ts p l
from_grows s r g (a_library n) ts p l = search (arith, rules)

-- What stays true of templates, of the indices of templates and of a path when more is read.
module _ {given : SourceTexts} {options : Options} {ts us : List Template} {xs : List Text}
    (r : HasRead given options ts us xs) where
  pub names_read : (n : Text) → among n (names ts) ≡ true → among n (names us) ≡ true
  names_read n a = rw (r.grown, map-append) (among_front of_texts n (names ts) (names r.more) a)

  pub templates_read : (is : List ℕ) → AreIndices ts is → templates_at us is ≡ templates_at ts is
  templates_read is a = rw r.grown (templates_grow ts r.more is a)

  pub way_read : {h : Namespace} {is : List ℕ} {p : Option Text} → IsExtendsPath ts h is p → IsExtendsPath us h is p
  way_read w = rw r.grown (search (arith, rules, templates_grow, indices_grow, from_grows, more_sources))

pub way_next : (ts : List Template) (h : Text) (is : List ℕ) (i : ℕ) (t : Template) (n : Text)
    → IsExtendsPath ts (a_chain h) is (Some n) → slice_get ts i ≡ Some t → t.name ≡ n
    → among n (names (templates_at ts is)) ≡ false
    → repeated (names ts) ≡ false → length is < 64 → IsExtendsPath ts (a_chain h) (is ++ i ∷ []) (extends_of t.body)
way_next ts h is i t n w at is_named new once lt =
    search (
      arith,
      rules,
      templates_more,
      all_more,
      slice_get_within,
      leads_more,
      only_one,
      map_push,
      once_more of_texts,
      length-append,
    )

-- ---- a reached chain, and the errors on its path

-- What holds of the templates that were read is shown.
pub shows : {given : SourceTexts} {options : Options} {ts : List Template} {P : Sources → Type 0}
    → AreKnown given options ts → P (sources_in ts) → Shows given options P
shows {ts = ts} known holds = record { templates = ts; read = known.read; only = known.only; holds = holds }

module _ {given : SourceTexts} {options : Options} {root : Text} {ts : List Template}
    (known : AreKnown given options ts) {h : Namespace}
    (r : Reaches (sources_in ts) options.autoescape (a_chain root) h) where
  fault_asked : {m : Text} {P : Text → Type 0} (n : Text)
      → among n (asked (sources_in ts) options.autoescape true h) ≡ true → HasFaulty m given n options P
      → HasFault given root options m P
  fault_asked n a f = search (arith, rules, shows)

  -- An error of a requested template breaks each chain that reaches the requester.
  pub asked_breaks : (n : Text) (e : ChainError)
      → among n (asked (sources_in ts) options.autoescape (any_tag e) h) ≡ true
      → IsFaultOf e given n options → Breaks e given root options
  asked_breaks n error.Missing a f = record { name = n; reached = shows known (h, r, a); found = f }
  asked_breaks n error.BadName a f = shows known (h, r, (n, a, f))
  asked_breaks n (error.Scan m e) a f = fault_asked n a f
  asked_breaks n (error.Parse m e) a f = fault_asked n a f
  asked_breaks n error.NoMemory a f = tt
  asked_breaks n e a f = absurd f

module _ {given : SourceTexts} {options : Options} {root : Text} {ts : List Template}
    (known : AreKnown given options ts) {h : Text}
    (r : Reaches (sources_in ts) options.autoescape (a_chain root) (a_chain h)) where
  pub cycle_breaks : {is : List ℕ} {n : Text} → IsExtendsPath ts (a_chain h) is (Some n)
      → among n (names (templates_at ts is)) ≡ true → Breaks error.ExtendsCycle given root options
  cycle_breaks {is} {n} w there =
      let s = sources_in ts in
      let us = templates_at ts is in
      let up : names_up s (length us + 1) (Some h) ≡ names us ++ n ∷ [] =
      names_lead s _ 1 _ us _ refl w.leads in
      shows known (a_chain h, r, (h, refl, length us + 1, ap repeated up ∙ comes_again of_texts n (names us) [] there))

  pub long_breaks : {is : List ℕ} {n : Text} → IsExtendsPath ts (a_chain h) is (Some n) → length is ≡ 64
      → among n (names (templates_at ts is)) ≡ false → Breaks error.ChainTooLong given root options
  long_breaks {is} {n} w full new =
      let s = sources_in ts in
      let us = templates_at ts is in
      let len : length us ≡ 64 = all_templates ts is w.indices ∙ full in
      let up : extends_path s options.autoescape (a_chain h) ≡ names us ++ n ∷ [] =
      names_lead s 65 1 _ us _ (omega (arith, len)) w.leads in
      shows known (inl (
        a_chain h,
        r,
        subst (λ xs. ((length xs == 65) && not (repeated xs)) ≡ true) (sym up)
            (sixty_five n us len (once_more of_texts n (names us) w.once new)),
      ))
    where
      sixty_five : (n : Text) (us : List Template) → length us ≡ 64 → repeated (names us ++ n ∷ []) ≡ false
          → ((length (names us ++ n ∷ []) == 65) && not (repeated (names us ++ n ∷ []))) ≡ true
      sixty_five n us len o =
          let count : length (names us ++ n ∷ []) ≡ 65 =
          length-append (names us) (n ∷ []) ∙ ap (λ k. k + 1) (length-map us (λ (u : Template). u.name) ∙ len) in
          rw count (ap not o)

  pub fault_breaks : {is : List ℕ} {n : Text} → IsExtendsPath ts (a_chain h) is (Some n) → (e : ChainError)
      → IsFaultOf e given n options → Breaks e given root options
  fault_breaks {is} {n} w e f =
      asked_breaks known r n e
      (next_asked (sources_in ts) options.autoescape (any_tag e) h (templates_at ts is) n
      (omega (arith, few_templates ts is, w.few)) w.leads) f

-- ---- one step of a path

-- The template file at the index of a name.
pub file_there : (ps : List TemplateFile) (i : ℕ) {n : Text} {p : TemplateFile}
    → slice_get (names (files_view ps)) i ≡ Some n → p ≡ get_or ps i p
    → (slice_get (files_view ps) i ≡ Some (file_view p)) × (string_bytes p.name ≡ n)
file_there ps i {n} {p} at there =
    let held : slice_get (files_view ps) i ≡ Some (file_view p) = search (
      arith,
      rules,
      map_at,
      file_view,
      slice_get_within,
      length-map,
    ) in
    (held, search (arith, rules, string_bytes, slice_get-map, file_view))

-- The template of the next name was read and is appended to a path: the path goes on to the parent.
module _ {given : SourceTexts} {options : Options} {vs ts us : List Template} {is js : List ℕ} {n : Text}
    (before : HasRead given options vs ts (names (templates_at ts is))) (r : HasRead given options ts us (n ∷ []))
    {h : Text} (w : IsExtendsPath ts (a_chain h) is (Some n)) (i : ℕ) {t : Template} (held : slice_get us i ≡ Some t)
    (named : t.name ≡ n) (longer : js ≡ is ++ i ∷ []) where
  pub path_turn : templates_at us js ≡ templates_at ts is ++ t ∷ []
  path_turn =
      ap (templates_at us) longer ∙ templates_more us is i t held
      ∙ ap (λ l. l ++ t ∷ []) (templates_read r is w.indices)

  pub read_step : HasRead given options vs us (names (templates_at us js))
  read_step =
      let theirs : names (templates_at us js) ≡ names (templates_at ts is) ++ n ∷ [] =
      ap names path_turn ∙ map_push (λ (u : Template). u.name) (templates_at ts is) t
      ∙ ap (λ x. names (templates_at ts is) ++ x ∷ []) named in
      read_on before r
      (λ x a. ap (among x) theirs ∙ among_front of_texts x _ _ a)
      (λ x a. ap (among x) theirs ∙ among_behind of_texts x (names (templates_at ts is)) (n ∷ []) a)

  pub way_step : {o : Option Text} → among n (names (templates_at ts is)) ≡ false → length is < 64
      → o ≡ extends_of t.body → IsExtendsPath us (a_chain h) js o
  way_step {o} new lt ext =
      rw longer (rw ext (way_next us h is i t n (way_read r w) held named
      (ap (λ l. among n (names l)) (templates_read r is w.indices) ∙ new) r.known.read.once lt))

-- ---- names on the path

front_up : (s : Sources) (k : ℕ) (n : Text) (t : Template) → t.name ≡ n → s n ≡ Some t.body
    → names_up s (suc k) (Some n) ≡ t.name ∷ names_up s k (extends_of t.body)
front_up s k n t e f = search (arith, rules, names_up, extends_of)

among_up : (s : Sources) (k : ℕ) (o : Option Text) (ts : List Template) (x : Text) → Leads s o ts None
    → among x (names_up s k o) ≡ true → among x (names ts) ≡ true
among_up s (suc k) (Some n) (t ∷ ts) x l h = search (arith, rules, front_up, among_up s k, extends_of, names, or_right)
among_up s k o ts x l h = absurd (cc)

pub repeated_up : (s : Sources) (k : ℕ) (o : Option Text) (ts : List Template) → Leads s o ts None
    → repeated (names_up s k o) ≡ true → repeated (names ts) ≡ true
repeated_up s (suc k) (Some n) (t ∷ ts) l h =
    search (arith, rules, front_up, repeated_up s k, extends_of, names, among_up, or_right)
repeated_up s k o ts l h = absurd (cc)

pub all_among : (P : Text → Type 0) (ts : List Template) (n : Text) → AllByRecursion (λ t. P t.name) ts
    → among n (names ts) ≡ true → P n
all_among P [] n a h = absurd (cc)
all_among P (t ∷ ts) n a h = search (arith, rules, all_among P ts n a.1, names, same)

pub have_sources : (s : Sources) (ts : List Template) → AllByRecursion (λ t. s t.name ≡ Some t.body) ts
    → list_any (λ n. is_none (s n)) (names ts) ≡ false
have_sources s [] a = refl
have_sources s (t ∷ ts) a =
    or_from (is_none (s t.name)) (list_any (λ n. is_none (s n)) (names ts)) (ap is_none a.0) (have_sources s ts a.1)

pub too_few : (n : ℕ) (b : Bool) → n ≤ 64 → ((n == 65) && b) ≡ false
too_few n b le = search (arith, rules, nat_tests)

pub few_names : (n : ℕ) → n ≤ 64 → nat_lt n 65 ≡ true
few_names n le = grind (arith, nat_tests)

-- ---- weights

pub weigh : (given : SourceTexts) (ts : List Template) → AllByRecursion (IsWithin given) ts
    → templates_weight ts ≤ templates_len given ts
weigh given [] a = omega arith
weigh given (t ∷ ts) a = omega (arith, a.0.weighs, weigh given ts a.1)

pub names_indexed : (ts : List Template) (is : List ℕ) (us : List Template) → map (slice_get ts) is ≡ map Some us
    → names_at ts is ≡ map (λ t. Some t.name) us
names_indexed ts [] [] e = refl
names_indexed ts (i ∷ is) (u ∷ us) e = search (arith, rules, names_indexed ts is us)
names_indexed ts is us e = absurd (cc)

-- ---- the members that pass a test

pub among_passes : (p : Text → Bool) (x : Text) (xs : List Text) → among x (filter p xs) ≡ true
    → (among x xs ≡ true) × (p x ≡ true)
among_passes p x [] h = absurd (cc)
among_passes p x (y ∷ xs) h = search (arith, rules, among_passes p x xs, same, or_right)

pub passes_among : (p : Text → Bool) (x : Text) (xs : List Text) → among x xs ≡ true → p x ≡ true
    → among x (filter p xs) ≡ true
passes_among p x [] h t = absurd (cc)
passes_among p x (y ∷ xs) h t = search (arith, rules, passes_among p x xs, or_right, same)

-- ---- the templates of a chain when sources grow

-- The templates of the names on a path.
abbrev pub templates_up : Sources → ℕ → Option Text → List Template
templates_up s k o = flat_map (λ n. template n (s n)) (names_up s k o)

up_some : (s : Sources) (k : ℕ) (n : Text) (b : Body) → s n ≡ Some b
    → templates_up s (suc k) (Some n) ≡ template n (Some b) ++ templates_up s k (extends_of b)
up_some s k n b e = rw e

up_none : (s : Sources) (k : ℕ) (n : Text) → s n ≡ None → templates_up s (suc k) (Some n) ≡ []
up_none s k n e = search (arith, rules, template, flat_map, names_up, parent_of, none_up)

-- Each of these names that has a tree in the first sources has the same tree in the second ones.
abbrev pub Carries : Sources → Sources → List Text → Type 0
Carries s r xs = (n : Text) → among n xs ≡ true → (b : Body) → s n ≡ Some b → r n ≡ Some b

-- Each name of a part of such a list keeps its source too.
module _ {s r : Sources} where
  pub carries_head : (n : Text) (xs : List Text) → Carries s r (n ∷ xs) → (b : Body) → s n ≡ Some b → r n ≡ Some b
  carries_head n xs g = g n (rw (reflexive n))

  pub carries_rest : (n : Text) (xs : List Text) → Carries s r (n ∷ xs) → Carries s r xs
  carries_rest n xs g m a = g m (or_right _ _ a)

  pub carries_front : (xs ys : List Text) → Carries s r (xs ++ ys) → Carries s r xs
  carries_front xs ys g m a = g m (among_front of_texts m xs ys a)

  pub carries_behind : (xs ys : List Text) → Carries s r (xs ++ ys) → Carries s r ys
  carries_behind xs ys g m a = g m (among_behind of_texts m xs ys a)

-- When more is read, a path and its templates begin with those before. They stay the same if each name had a source.
pub record Continues (s r : Sources) (k : ℕ) (o : Option Text) : Type 0 where
  pub more : List Text
  pub longer : names_up r k o ≡ names_up s k o ++ more
  pub more_templates : List Template
  pub more_there : templates_up r k o ≡ templates_up s k o ++ more_templates
  pub whole : list_any (λ n. is_none (s n)) (names_up s k o) ≡ false
      → (names_up r k o ≡ names_up s k o) × (templates_up r k o ≡ templates_up s k o)

pub continues : (s r : Sources) (k : ℕ) (o : Option Text) → Carries s r (names_up r k o) → Continues s r k o
continues s r (suc k) (Some n) g =
    by (s n) refl (λ b e. continues s r k _ (rw (carries_head n _ g b e) at (carries_rest n _ g)))
  where
    by : (o : Option Body) → s n ≡ o → ((b : Body) → s n ≡ Some b → Continues s r k (extends_of b))
        → Continues s r (suc k) (Some n)
    by None e f = record {
      more = names_up r k (parent_of (r n));
      longer =
          sym (rw e (ap (λ l. n ∷ l ++ names_up r k (parent_of (r n))) (none_up s k)));
      more_templates = templates_up r (suc k) (Some n);
      more_there = sym (rw (up_none s k n e));
      whole = λ h.
          let no : true ≡ false =
          sym (rw e) ∙ h in
          absurd (cc);
    }
    by (Some b) e f =
        let at = carries_head n _ g b e in
        let p = f b e in
        record {
          more = p.more;
          longer = search (arith, rules);
          more_templates = p.more_templates;
          more_there = search (arith, rules, up_some);
          whole = λ h. search (arith, rules, up_some);
        }
continues s r k o g =
    record { more = []; longer = refl; more_templates = []; more_there = refl; whole = λ h. (refl, refl) }

-- The first m names on the path begin with the first k.
pub up_more : (s : Sources) (m k : ℕ) (o : Option Text) → k ≤ m
    → (rest : List Text) × (names_up s m o ≡ names_up s k o ++ rest)
up_more s m zero o le = (names_up s m o, refl)
up_more s zero (suc k) o le = absurd (omega arith)
up_more s (suc m) (suc k) None le = ([], refl)
up_more s (suc m) (suc k) (Some n) le =
    let more = up_more s m k _ (omega (arith, le)) in
    (more.0, ap (λ l. n ∷ l) more.1)

-- ---- namespaces of some names

pub chains_listed : (n : Text) (xs ys : List Text)
    → listed (a_chain n) (map a_chain xs ++ map a_library ys) ≡ among n xs
chains_listed n [] ys = none ys
  where
    none : (zs : List Text) → listed (a_chain n) (map a_library zs) ≡ false
    none [] = refl
    none (z ∷ zs) = none zs
chains_listed n (x ∷ xs) ys = rw (chains_listed n xs ys)

pub libraries_listed : (n : Text) (xs ys : List Text)
    → listed (a_library n) (map a_chain xs ++ map a_library ys) ≡ among n ys
libraries_listed n [] ys = theirs ys
  where
    theirs : (zs : List Text) → listed (a_library n) (map a_library zs) ≡ among n zs
    theirs [] = refl
    theirs (z ∷ zs) = rw (theirs zs)
libraries_listed n (x ∷ xs) ys = libraries_listed n xs ys

-- Namespaces of names are members if the names are.
pub namespaces_among : (m : Namespace) (xs ys us vs : List Text) → ((n : Text) → among n xs ≡ true → among n us ≡ true)
    → ((n : Text) → among n ys ≡ true → among n vs ≡ true)
    → listed m (map a_chain xs ++ map a_library ys) ≡ true → listed m (map a_chain us ++ map a_library vs) ≡ true
namespaces_among (a_chain n) xs ys us vs f g a = rw chains_listed (f n (rw chains_listed at a))
namespaces_among (a_library n) xs ys us vs f g a = rw libraries_listed (g n (rw libraries_listed at a))

-- ---- concatenation of the paths of namespaces

pub reaches_next : {s : Sources} {e : Bool} {h k m : Namespace} → Reaches s e h k → listed m (included s k) ≡ true
    → Reaches s e h m
reaches_next here a = through a here
reaches_next (through b r) a = through b (reaches_next r a)

-- ---- reachability and requests, if each requested name keeps its source

library_more : (s r : Sources) (n : Text) → Carries s r (n ∷ [])
    → (rest : List Template) × (library_template n (r n) ≡ library_template n (s n) ++ rest)
library_more s r n g = by (s n) refl
  where
    by : (o : Option Body) → s n ≡ o
        → (rest : List Template) × (library_template n (r n) ≡ library_template n (s n) ++ rest)
    by None e = (library_template n (r n), sym (rw e))
    by (Some b) e = search (arith, rules, reflexive, append-nil)

-- Each name that is requested in the second sources keeps its source there.
pub record Keeps (s r : Sources) (e : Bool) (entry : Namespace) : Type 0 where
  pub kept : (n : Text) (b : Body) → Asks r e entry n → s n ≡ Some b → r n ≡ Some b

module _ {s r : Sources} {e : Bool} {entry : Namespace} (g : Keeps s r e entry) where
  pub on_path : (h : Namespace) → Reaches r e entry h → Carries s r (extends_path r e h)
  on_path h p n a b =
      g.kept n b (h, p, among_front of_texts n (extends_path r e h) _ a)

  -- The first 64 names are among the first 65.
  pub on_first : (h : Text) → Reaches r e entry (a_chain h) → Carries s r (names_up r 64 (Some h))
  on_first h p n a b =
      let more = up_more r 65 64 (Some h) (omega arith) in
      on_path (a_chain h) p n (ap (among n) more.1 ∙ among_front of_texts n (names_up r 64 (Some h)) more.0 a) b

  -- The libraries of a namespace keep their sources.
  pub on_libraries : (h : Namespace) → Reaches r e entry h → Carries s r (libraries r h)
  on_libraries h p n a b =
      g.kept n b (h, p, among_behind of_texts n (extends_path r e h) _ (among_behind of_texts n _ _ a))

  -- When more is read, the path of a namespace begins with its path before.
  pub way_more : (h : Namespace) → Reaches r e entry h
      → (rest : List Text) × (extends_path r e h ≡ extends_path s e h ++ rest)
  way_more (a_chain n) p = let c = continues s r 65 (Some n) (on_path (a_chain n) p) in (c.more, c.longer)
  way_more (a_library n) p = ([], refl)

  pub namespace_more : (h : Namespace) → Reaches r e entry h
      → (rest : List Template) × (templates r h ≡ templates s h ++ rest)
  namespace_more (a_chain n) p =
      let c = continues s r 64 (Some n) (on_first n p) in (c.more_templates, c.more_there)
  namespace_more (a_library n) p = library_more s r n (on_path (a_library n) p)

  pub libraries_more : (h : Namespace) → Reaches r e entry h
      → (rest : List Text) × (libraries r h ≡ libraries s h ++ rest)
  libraries_more (a_chain n) p =
      let f : Template → List Text = λ t. libraries_in t.body in
      let more = namespace_more (a_chain n) p in
      (flat_map f more.0, ap (flat_map f) more.1 ∙ flat_map-append f (templates s (a_chain n)) more.0)
  libraries_more (a_library n) p = ([], refl)

  pub needs_more : (all : Bool) (h : Namespace) → Reaches r e entry h → (n : Text)
      → among n (flat_map (λ t. needs_in all t.body) (templates s h)) ≡ true
      → among n (flat_map (λ t. needs_in all t.body) (templates r h)) ≡ true
  needs_more all h p n a = search (arith, rules, namespace_more, flat_map-append, among_front of_texts)

  pub imports_more : (h : Namespace) → Reaches r e entry h → (n : Text) → among n (libraries s h) ≡ true
      → among n (libraries r h) ≡ true
  imports_more h p n a =
      let more = libraries_more h p in
      ap (among n) more.1 ∙ among_front of_texts n _ _ a

  pub asked_more : (all : Bool) (h : Namespace) → Reaches r e entry h → (n : Text) → among n (asked s e all h) ≡ true
      → among n (asked r e all h) ≡ true
  asked_more all h p n a =
      search (
        arith,
        rules,
        way_more,
        among_front of_texts,
        among_behind of_texts,
        needs_more,
        imports_more,
        among_cases of_texts,
      )

  -- The names with a source stay names with a source.
  sourced : (h : Namespace) → Reaches r e entry h → (xs ys : List Text)
      → ((n : Text) → among n xs ≡ true → among n ys ≡ true) → ((n : Text) → among n ys ≡ true → Asks r e entry n)
      → (n : Text) → among n (with_source s xs) ≡ true → among n (with_source r ys) ≡ true
  sourced h p xs ys f asks n a =
      let k = among_passes _ n xs a in
      passes_among _ n ys (f n k.0) (by (s n) refl k.1 (asks n (f n k.0)))
    where
      by : (o : Option Body) → s n ≡ o → is_some o ≡ true → Asks r e entry n → is_some (r n) ≡ true
      by None q t i = absurd (cc)
      by (Some b) q t i = ap is_some (g.kept n b i q)

  pub included_more : (h : Namespace) → Reaches r e entry h → (m : Namespace) → listed m (included s h) ≡ true
      → listed m (included r h) ≡ true
  included_more h p m a =
      let mine = flat_map (λ t. needs_in true t.body) (templates s h) in
      let ours = flat_map (λ t. needs_in true t.body) (templates r h) in
      namespaces_among m _ _ _
      _
      (sourced h p mine ours (needs_more true h p)
      (λ n q. (h, p, among_behind of_texts n (extends_path r e h) _ (among_front of_texts n ours _ q))))
      (sourced h p (libraries s h) (libraries r h) (imports_more h p)
      (λ n q. (h, p, among_behind of_texts n (extends_path r e h) _ (among_behind of_texts n ours _ q)))) a

  pub reaches_more : {h k : Namespace} → Reaches r e entry h → Reaches s e h k → Reaches r e h k
  reaches_more p here = here
  reaches_more p (through {namespace = h} {next = m} a rest) =
      through (included_more h p m a) (reaches_more (reaches_next p (included_more h p m a)) rest)

  pub asks_more : (n : Text) → Asks s e entry n → Asks r e entry n
  asks_more n x = search (arith, rules, reaches_more, here, asked_more)

-- What is reached or requested stays so when more is read.
module _ {given : SourceTexts} {options : Options} {ts us : List Template} {xs : List Text}
    (r : HasRead given options ts us xs) where
  grows : Grows (sources_in ts) (sources_in us)
  grows = rw r.grown (more_sources ts r.more)

  pub reach_read : {e : Bool} {h k : Namespace} → Reaches (sources_in ts) e h k → Reaches (sources_in us) e h k
  reach_read q = reaches_more (record { kept = λ n b i. grows n b }) here q

  pub ask_read : (e : Bool) (h : Namespace) (n : Text) → Asks (sources_in ts) e h n → Asks (sources_in us) e h n
  ask_read e h n q = asks_more (record { kept = λ m b i. grows m b }) n q
