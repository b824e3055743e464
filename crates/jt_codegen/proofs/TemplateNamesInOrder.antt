-- The templates and places of the code of chains are in order, and few chains have few templates.
use Rattle.std.proofs.Common.{◌≡◌, ℕ, zero, suc, ◌+◌, ◌*◌, ◌<◌, ◌≤◌, List, [], ◌∷◌, ◌++◌, length, map, Option, Some}
use Rattle.std.proofs.Common.{None, refl, ap, subst, arith, length-append, ⊎_elim, inl, inr}
use Rattle.std.proofs.lemmas.List.{length-map}
use Rattle.std.specs.Prelude.{flat_map}
use Rattle.std.specs.Int.{w16, to_le_bytes}
use Rattle.std.specs.List.{AllByRecursion}
use Rattle.std.proofs.lemmas.List.Concat.{flat_map-cons}
use Rattle.jt_value.specs.Place.{Place}
use Rattle.jt_scan.specs.declared.options.Options.{Options}
use Rattle.jt_ast.specs.Expressions.{Text}
use Rattle.jt_ast.specs.Statements.{Body}
use Rattle.jt_chains.specs.Chain.{Sources, Namespace, a_chain, a_library, Template, parent_of, names_up, sources_in}
use Rattle.jt_chains.specs.Chain.{template, library_template, templates, max_templates}
use Rattle.jt_chains.specs.Names.{IsName}
use Rattle.jt_inherit.specs.Chains.{SourceTexts, IsRead}
use Rattle.jt_image.proofs.ReadPrefix.{all_weaker}
use Rattle.jt_image.specs.Code.{SourceLoc}
use Rattle.jt_image.specs.IsCode.{AscendTexts, IsSourceLoc}
use Rattle.jt_image.specs.Parts.{AreTemplates}
use Rattle.jt_image.specs.Spelling.{template_bytes, loc_bytes}
use Rattle.jt_semantics.specs.Ascends.{Above, Ascends}
use Rattle.jt_semantics.proofs.NameCounts.{ascending_ascends}
use Rattle.jt_lower.specs.SourceLocs.{templates_of, loc_of}
use Rattle.jt_lower.specs.SourceLocs as locs
use Rattle.jt_lower.proofs.LawfulProgramsFit.{all_append}
use Rattle.jt_lower.proofs.SourceLocsCorrect.{Among, number_within, all_here}
use Rattle.jt_codegen.proofs.EitherHolds.{either_of}
use Rattle.jt_codegen.proofs.AscendingSubsets.{no_more}
use Rattle.jt_codegen.proofs.NamesAreNotEmpty.{IsLine, first_line, tree_said}
use Rattle.jt_codegen.proofs.ChainTemplates.{chain_has, all_inserted_all}
use Rattle.jt_codegen.proofs.PlacesAreTags.{BodyLines, OnTag, IsTagged}

-- The place is that of a tag, and its template is one of these and has a name.
pub record IsTag (ns : List Text) (q : Place) : Type 0 where
  pub some : 0 < length q.template
  pub short : length q.template ≤ 255
  pub line : IsLine q.line
  pub among : Among q.template ns

-- ---- the templates of places

templates_all : (P : Text → Type 0) (qs : List (Option Place)) → AllByRecursion (OnTag (λ q. P q.template)) qs
    → AllByRecursion P (locs.templates_in qs)
templates_all P [] h = tt
templates_all P (None ∷ qs) h = templates_all P qs h.1
templates_all P (Some q ∷ qs) h = (h.0, templates_all P qs h.1)

on_each : (P Q : Place → Type 0) → ((q : Place) → P q → Q q) → (qs : List (Option Place)) → AllByRecursion (OnTag P) qs
    → AllByRecursion (OnTag Q) qs
on_each P Q f [] h = tt
on_each P Q f (None ∷ qs) h = (tt, on_each P Q f qs h.1)
on_each P Q f (Some q ∷ qs) h = (f q h.0, on_each P Q f qs h.1)

-- A property of the template of each place holds of each template in the table.
named_all : (P : Text → Type 0) (qs : List (Option Place)) → AllByRecursion (OnTag (λ q. P q.template)) qs
    → AllByRecursion P (templates_of qs)
named_all P qs h = all_inserted_all P (locs.templates_in qs) [] (templates_all P qs h) tt

above_texts : (x : Text) (xs : List Text) → Above x xs → AscendTexts (x ∷ xs)
above_texts x [] h = tt
above_texts x (y ∷ ys) h = (h.0, above_texts y ys h.1)

ascend_texts : (xs : List Text) → Ascends xs → AscendTexts xs
ascend_texts [] h = tt
ascend_texts (x ∷ xs) h = above_texts x xs h

pub are_templates : (ns : List Text) (qs : List (Option Place)) → AllByRecursion (OnTag (IsTag ns)) qs
    → AreTemplates (templates_of qs)
are_templates ns qs h =
    record {
      some = named_all (λ t. 0 < length t) qs (on_each (IsTag ns) (λ q. 0 < length q.template) (λ q t. t.some) qs h);
      ascend = ascend_texts (templates_of qs) (ascending_ascends (locs.templates_in qs));
    }

-- ---- encoded places

told : (ts : List Text) (qs : List (Option Place))
    → AllByRecursion (OnTag (λ q. Among q.template ts × IsLine q.line)) qs
    → AllByRecursion (IsSourceLoc (length ts)) (map (loc_of ts) qs)
told ts [] h = tt
told ts (None ∷ qs) h = (record { template = omega arith; line = refl }, told ts qs h.1)
told ts (Some q ∷ qs) h = (record { template = number_within q.template ts h.0.0; line = h.0.1 }, told ts qs h.1)

-- The template of each of these places is among the given ones.
there : (ns ts : List Text) (qs : List (Option Place)) → ((t : Text) → Among t (locs.templates_in qs) → Among t ts)
    → AllByRecursion (OnTag (IsTag ns)) qs → AllByRecursion (OnTag (λ q. Among q.template ts × IsLine q.line)) qs
there ns ts [] f h = tt
there ns ts (None ∷ qs) f h = (tt, there ns ts qs f h.1)
there ns ts (Some q ∷ qs) f h = ((f q.template (inl refl), h.0.line), there ns ts qs (λ t i. f t (inr i)) h.1)

pub are_locs : (ns : List Text) (qs : List (Option Place)) → AllByRecursion (OnTag (IsTag ns)) qs
    → AllByRecursion (IsSourceLoc (length (templates_of qs))) (map (loc_of (templates_of qs)) qs)
are_locs ns qs h =
    told (templates_of qs) qs (there ns (templates_of qs) qs (λ t i. all_here t (locs.templates_in qs) [] i) h)

-- ---- the templates of chains

module _ (sources : Sources) where
  -- The names of the templates of all namespaces.
  abbrev pub names_of : List Namespace → List Text
  names_of hs = flat_map (λ h. map (λ t. t.name) (templates sources h)) hs

  few_up : (k : ℕ) (o : Option Text) → length (flat_map (λ n. template n (sources n)) (names_up sources k o)) ≤ k
  few_up zero o = omega arith
  few_up (suc k) None = omega arith
  few_up (suc k) (Some n) = by (sources n) (few_up k (parent_of (sources n)))
    where
      rest : List Template
      rest = flat_map (λ n. template n (sources n)) (names_up sources k (parent_of (sources n)))

      by : (o : Option Body) → length rest ≤ k → length (template n o ++ rest) ≤ suc k
      by None l = omega (arith, l)
      by (Some b) l = omega (arith, l)

  few_library : (n : Text) (o : Option Body) → length (library_template n o) ≤ 1
  few_library n None = omega arith
  few_library n (Some b) = grind (arith, either_of)

  few_templates_in : (h : Namespace) → length (templates sources h) ≤ 64
  few_templates_in (a_chain n) = few_up max_templates (Some n)
  few_templates_in (a_library n) = omega (arith, few_library n (sources n))

  pub few_names : (hs : List Namespace) → length (names_of hs) ≤ 64 * length hs
  few_names [] = omega arith
  few_names (h ∷ hs) = grind (arith, few_templates_in, few_names hs, length-append, length-map)

  named_have : (P : Text → Type 0) (ts : List Template) → AllByRecursion (λ t. P t.name) ts
      → AllByRecursion P (map (λ t. t.name) ts)
  named_have P [] h = tt
  named_have P (t ∷ ts) h = (h.0, named_have P ts h.1)

  -- A property of the name of each template holds of the names of all namespaces.
  pub names_have : (P : Text → Type 0) → ((h : Namespace) → AllByRecursion (λ t. P t.name) (templates sources h))
      → (hs : List Namespace) → AllByRecursion P (names_of hs)
  names_have P f [] = tt
  names_have P f (h ∷ hs) =
      all_append P (map (λ t. t.name) (templates sources h)) (names_of hs) (named_have P (templates sources h) (f h))
      (names_have P f hs)

  among_left : (x : Text) (xs ys : List Text) → Among x xs → Among x (xs ++ ys)
  among_left x [] ys i = absurd i
  among_left x (z ∷ xs) ys i = ⊎_elim (λ e. inl e) (λ k. inr (among_left x xs ys k)) i

  among_right : (x : Text) (xs ys : List Text) → Among x ys → Among x (xs ++ ys)
  among_right x [] ys i = i
  among_right x (z ∷ xs) ys i = inr (among_right x xs ys i)

  -- Each tag of templates with such names and lines has the place of a tag.
  tagged : (ns : List Text) (ts : List Template) → ((x : Text) → Among x (map (λ t. t.name) ts) → Among x ns)
      → AllByRecursion (λ t. IsName t.name × BodyLines IsLine t.body) ts
      → AllByRecursion (λ t. IsTagged (IsTag ns) IsLine first_line t.name t.body) ts
  tagged ns [] f h = tt
  tagged ns (t ∷ ts) f h = (
    record {
      here = λ line l. record { some = h.0.0.some; short = h.0.0.short; line = l; among = f t.name (inl refl) };
      lines = h.0.1;
    },
    tagged ns ts (λ x i. f x (inr i)) h.1,
  )

  pub all_tagged : (ns : List Text) (hs : List Namespace) → ((x : Text) → Among x (names_of hs) → Among x ns)
      → ((h : Namespace) → AllByRecursion (λ t. IsName t.name × BodyLines IsLine t.body) (templates sources h))
      → AllByRecursion
      (λ h. AllByRecursion (λ t. IsTagged (IsTag ns) IsLine first_line t.name t.body) (templates sources h)) hs
  all_tagged ns [] f g = tt
  all_tagged ns (h ∷ hs) f g =
      let here = map (λ t. t.name) (templates sources h) in (
        tagged ns (templates sources h) (λ x i. f x (among_left x here (names_of hs) i)) (g h),
        all_tagged ns hs (λ x i. f x (among_right x here (names_of hs) i)) g,
      )

pub namespaces_tagged : (given : SourceTexts) (options : Options) (ts : List Template)
    → AllByRecursion (IsRead given options) ts → (hs : List Namespace)
    → AllByRecursion (λ h. AllByRecursion
    (λ t. IsTagged (IsTag (names_of (sources_in ts) hs)) IsLine first_line t.name t.body) (templates (sources_in ts) h))
    hs
namespaces_tagged given options ts read hs =
    let lined = all_weaker (IsRead given options) (λ t. IsName t.name × BodyLines IsLine t.body) ts
    (λ t r. (r.named, (tree_said options r.source t.body r.tree).0)) read in
    all_tagged (sources_in ts) (names_of (sources_in ts) hs) hs (λ x i. i)
    (chain_has (λ m b. IsName m × BodyLines IsLine b) ts lined)

-- ---- few chains have few templates, with short names

-- What holds of each of these texts holds of one among them.
holds_among : (P : Text → Type 0) (ts : List Text) → AllByRecursion P ts → (x : Text) → Among x ts → P x
holds_among P [] h x i = absurd i
holds_among P (t ∷ ts) h x (inl e) = subst P e h.0
holds_among P (t ∷ ts) h x (inr i) = holds_among P ts h.1 x i

module _ (ns : List Text) (qs : List (Option Place)) (tags : AllByRecursion (OnTag (IsTag ns)) qs) where
  pub few_templates : length (templates_of qs) ≤ length ns
  few_templates =
      no_more (templates_of qs) ns (ascending_ascends (locs.templates_in qs))
      (holds_among (λ t. Among t ns) (templates_of qs)
      (named_all (λ t. Among t ns) qs (on_each (IsTag ns) (λ q. Among q.template ns) (λ q t. t.among) qs tags)))

  -- A property of these names holds of each template in the table.
  pub templates_have : (P : Text → Type 0) → AllByRecursion P ns → AllByRecursion P (templates_of qs)
  templates_have P h =
      named_all P qs (on_each (IsTag ns) (λ q. P q.template) (λ q t. holds_among P ns h q.template t.among) qs tags)

  pub short_templates : AllByRecursion (λ t. length t ≤ 255) (templates_of qs)
  short_templates =
      named_all (λ t. length t ≤ 255) qs (on_each (IsTag ns) (λ q. length q.template ≤ 255) (λ q t. t.short) qs tags)

-- ---- bytes

template_len : (t : Text) → length (template_bytes t) ≡ length t + 2
template_len t = omega (arith, length-append (to_le_bytes w16 (length t)) t, len16 (length t))
  where
    len16 : (n : ℕ) → length (to_le_bytes w16 n) ≡ 2
    len16 n = refl

pub templates_spelled : (ts : List Text) → AllByRecursion (λ t. length t ≤ 255) ts
    → length (flat_map template_bytes ts) ≤ 257 * length ts
templates_spelled [] h = omega arith
templates_spelled (t ∷ ts) h =
    omega (
      arith,
      h.0,
      ap length (flat_map-cons template_bytes t ts),
      length-append (template_bytes t) (flat_map template_bytes ts),
      template_len t,
      templates_spelled ts h.1,
    )

loc_len : (s : SourceLoc) → length (loc_bytes s) ≡ 6
loc_len s = refl

pub locs_spelled : (ss : List SourceLoc) → length (flat_map loc_bytes ss) ≡ 6 * length ss
locs_spelled [] = refl
locs_spelled (s ∷ ss) = grind (arith, flat_map-cons, length-append, loc_len, locs_spelled ss)
