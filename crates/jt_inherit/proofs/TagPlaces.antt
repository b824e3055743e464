-- The places of tags: what the first ones show, and that whatever statements name has a use.
use Rattle.jt_inherit.proofs.Vocabulary as words
use words.{map-append, rules, ◌≡◌, ℕ, zero, suc, ◌+◌, ◌<◌, Bool, true, false, List, [], ◌∷◌, ◌++◌, length, drop}
use words.{get_or, refl, is_some}
use words.{sym, ap, ◌∙◌, arith, inl, inr, ⊎_elim, Option, Some, not, ◌||◌, ◌&&◌, map, None, if◌then◌else◌}
use words.{string_bytes, filter-append, TwiceAt, place_of, option_map, option_to_list}
use words.{append_assoc, Text, Use, Site, templates_at, Sources, Template, file_view, files_view, TemplateFile, map_at}
use words.{ForSome, InTurn, IsAt, HasTag, all_uses, uses_in, asks, is_extends, IsOfRule, IsTwiceIn, RuleAt}
use words.{ChainFinding, ChainSubject, tags, place_in, place_view, tag_view, tags_view, FoundTag, TagPlace, flat_map}
use words.{bytes_eq, Stmt, Body, Branches, among, body_uses, outside, AreIndices, Namespace, a_chain}
use words.{a_library, listed, templates, extends_of, libraries_in, included, needs_by, needs_in}
use words.{needs_under, needed, by_templates, needed-append, is_import}
use words.{is_include, leads_to, needs_along, among_cases, only_among, of_texts, reflexive, AllByRecursion}
use words.{subst, body_view}
use Rattle.jt_ast.specs.StatementView.{stmt_view}
use Rattle.jt_ast.specs.declared.statement.Stmt as code
use words.{and_right, has_call, lacks_call, or_from}
use Rattle.std.specs.List.{list_all}
use words.{calls_super_at, is_required, IsLastCall, IsParentAt, extends_at, need, body_at, option_or, file_at}
use Rattle.std.proofs.Math.Seq.{drop-append-add}
use Rattle.jt_inherit.proofs.PathsGrow.{next_at, templates_turn, among_passes, chains_listed, libraries_listed}
use uses.{branch_uses, stmt_uses, expr_uses, pair_uses, keys_bound, bound, filter_call_uses, condition_uses, place_at}
use uses.{inside_scope, inside_loop, inside_block, inside_macro}
use Rattle.jt_uses.specs.declared.site.Enclosing.{Enclosing}
use Rattle.jt_inherit.proofs.DiscoveryInvariant.{includes_told, imports_needed}
use Rattle.jt_uses.specs.Uses as uses
use words.error
use words.v
use words.trees

-- ---- tags of several templates

pub tags-append : (test : Use → Bool) (xs ys : List (Text × Site)) → tags test (xs ++ ys) ≡ tags test xs ++ tags test ys
tags-append test xs ys = filter-append (λ x. test x.1.made) xs ys

-- The uses that are known of the template file at an index.
pub known_uses : (ps : List TemplateFile) (i : ℕ) (p : TemplateFile) (ss : List Site) → i < length ps
    → p ≡ get_or ps i p → ss ≡ body_uses (body_at (files_view ps) i) outside
    → map (λ s. (string_bytes p.name, s)) ss ≡ uses_in (file_view p)
known_uses ps i p ss lt at e = rw (e, file_at ps i p lt at) refl

-- The place of the first tag is that of the first tag of the first list, if it has one.
pub first_found : (o : Option TagPlace) (a b : Option (Text × ℕ)) → is_some o ≡ true → option_map place_view o ≡ a
    → option_map place_view o ≡ option_or a b
first_found None a b s e = absurd (cc)
first_found (Some p) a b s e = rw (← e) refl

pub none_found : (o : Option TagPlace) (a b : Option (Text × ℕ)) → is_some o ≡ false → option_map place_view o ≡ a
    → option_or a b ≡ b
none_found None a b s e = rw (← e) refl
none_found (Some p) a b s e = absurd (cc)

first_or : (xs ys : List (Text × Site)) → place_in 0 (xs ++ ys) ≡ option_or (place_in 0 xs) (place_in 0 ys)
first_or [] ys = refl
first_or (x ∷ xs) ys = refl

-- ---- what the first tags show

at_place : (test : Use → Bool) (p : TagPlace) (x : Text × Site) → test x.1.made ≡ true
    → Some (place_of x) ≡ Some (place_view p) → IsAt test p x
at_place test p x h e = search (arith, rules, place_view)

-- The place of the tag at an index.
pub place_here : (found : List FoundTag) (k : ℕ) (t : FoundTag) (q : Text × ℕ) → k < length found
    → t ≡ get_or found k t → q ≡ place_of (tag_view t) → place_in k (tags_view found) ≡ Some q
place_here found k t q lt is at =
    ap (option_map place_of) (map_at tag_view found k t lt is) ∙ ap (λ (z : Text × ℕ). Some z) (sym at)

pub first_shows : (test : Use → Bool) (p : TagPlace) (xs : List (Text × Site))
    → place_in 0 (tags test xs) ≡ Some (place_view p) → ForSome (IsAt test p) xs
first_shows test p [] e = absurd (cc)
first_shows test p (x ∷ xs) e = by (test x.1.made) refl (λ f. first_shows test p xs f)
  where
    by : (b : Bool) → test x.1.made ≡ b
        → (place_in 0 (tags test xs) ≡ Some (place_view p) → ForSome (IsAt test p) xs)
        → ForSome (IsAt test p) (x ∷ xs)
    by true h go = inl (at_place test p x h (rw h at e))
    by false h go = inr (go (rw h at e))

pub second_shows : (test : Use → Bool) (p q : TagPlace) (xs : List (Text × Site))
    → place_in 0 (tags test xs) ≡ Some (place_view p) → place_in 1 (tags test xs) ≡ Some (place_view q)
    → InTurn (IsAt test p) (IsAt test q) xs
second_shows test p q [] e f = absurd (cc)
second_shows test p q (x ∷ xs) e f = by (test x.1.made) refl (λ g h. second_shows test p q xs g h)
  where
    by : (b : Bool) → test x.1.made ≡ b
        → (place_in 0 (tags test xs) ≡ Some (place_view p) → place_in 1 (tags test xs) ≡ Some (place_view q)
        → InTurn (IsAt test p) (IsAt test q) xs)
        → InTurn (IsAt test p) (IsAt test q) (x ∷ xs)
    by true h go = inl (at_place test p x h (rw h at e), first_shows test q xs (rw h at f))
    by false h go = inr (go (rw h at e) (rw h at f))

-- A use passes the test.
abbrev pub HasUse : (Use → Bool) → List (Text × Site) → Type 0
HasUse test = ForSome (λ x. test x.1.made ≡ true)

-- The first use that passes has a place.
tag_found : (test : Use → Bool) (xs : List (Text × Site)) → HasUse test xs
    → (q : Text × ℕ) × (place_in 0 (tags test xs) ≡ Some q)
tag_found test [] h = absurd h
tag_found test (x ∷ xs) h = by (test x.1.made) refl h (λ k. tag_found test xs k)
  where
    by : (b : Bool) → test x.1.made ≡ b → HasUse test (x ∷ xs)
        → (HasUse test xs → (q : Text × ℕ) × (place_in 0 (tags test xs) ≡ Some q))
        → (q : Text × ℕ) × (place_in 0 (tags test (x ∷ xs)) ≡ Some q)
    by true e k go = (place_of x, rw e)
    by false e k go = search (arith, rules)

-- If a use passes, the place of the first tag is known.
pub placed : (test : Use → Bool) (xs : List (Text × Site)) → HasUse test xs → (p : Option TagPlace)
    → option_map place_view p ≡ place_in 0 (tags test xs) → (q : TagPlace) × (p ≡ Some q) × ForSome (IsAt test q) xs
placed test xs h None e = search (arith, rules, tag_found)
placed test xs h (Some q) e = (q, refl, first_shows test q xs (sym e))

-- ---- some of the items

pub some_front : {A : Type 0} (P : A → Type 0) (xs ys : List A) → ForSome P xs → ForSome P (xs ++ ys)
some_front P [] ys h = absurd h
some_front P (x ∷ xs) ys h = ⊎_elim (λ p. inl p) (λ q. inr (some_front P xs ys q)) h

pub some_behind : {A : Type 0} (P : A → Type 0) (xs ys : List A) → ForSome P ys → ForSome P (xs ++ ys)
some_behind P [] ys h = h
some_behind P (x ∷ xs) ys h = inr (some_behind P xs ys h)

pub some_weaker : {A : Type 0} (P Q : A → Type 0) → ((x : A) → P x → Q x) → (xs : List A) → ForSome P xs
    → ForSome Q xs
some_weaker P Q f [] h = absurd h
some_weaker P Q f (x ∷ xs) h = ⊎_elim (λ p. inl (f x p)) (λ q. inr (some_weaker P Q f xs q)) h

-- A use of a statement is one of its body.
pub statement_used : (P : Site → Type 0) (ss : List code.Stmt) (k : ℕ) (s : code.Stmt) (w : Enclosing)
    → k < length ss → s ≡ get_or ss k s → ForSome P (stmt_uses (stmt_view s) w)
    → ForSome P (body_uses (body_view ss) w)
statement_used P [] k s w lt at h = absurd (omega arith)
statement_used P (t ∷ ss) zero s w lt at h =
    some_front P _ _ (subst (λ (u : code.Stmt). ForSome P (stmt_uses (stmt_view u) w)) at h)
statement_used P (t ∷ ss) (suc k) s w lt at h =
    some_behind P _ _
    (statement_used P ss k s w (omega arith) at h)

uses-append : (ts us : List Template) → all_uses (ts ++ us) ≡ all_uses ts ++ all_uses us
uses-append [] us = refl
uses-append (t ∷ ts) us = search (arith, rules, uses-append ts us, append_assoc, uses_in, all_uses)

-- A tag of the first templates is one of them all.
pub tag_front : (test : Use → Bool) (p : TagPlace) (ts us : List Template) → HasTag test ts p
    → HasTag test (ts ++ us) p
tag_front test p ts us h = search (arith, rules, uses-append, some_front)

-- A tag of the last template is one of them all.
pub tag_last : (test : Use → Bool) (p : TagPlace) (ts : List Template) (t : Template)
    → ForSome (IsAt test p) (uses_in t) → HasTag test (ts ++ t ∷ []) p
tag_last test p ts t h = search (arith, rules, uses-append, some_behind, all_uses, some_front, uses_in)

-- A weaker test passes at the same tag.
pub tag_weaker : (test weak : Use → Bool) → ((u : Use) → test u ≡ true → weak u ≡ true) → (p : TagPlace)
    (ts : List Template) → HasTag test ts p → HasTag weak ts p
tag_weaker test weak f p ts h = search (arith, rules, some_weaker)

-- The `extends` tag asks for its parent.
pub extends_asks : (all : Bool) (n : Text) (u : Use) → is_extends n u ≡ true → asks all n u ≡ true
extends_asks all n (uses.extends m) h = h
extends_asks all n u h = absurd (cc)

-- ---- a template with two blocks of one name

pub some_template : (P : Template → Type 0) (ps : List TemplateFile) (is : List ℕ) (k : ℕ) (p : TemplateFile)
    → k < length is → get_or is k 0 < length ps → p ≡ get_or ps (get_or is k 0) p → P (file_view p)
    → ForSome P (templates_at (files_view ps) is)
some_template P ps [] k p lt within at h = absurd (omega arith)
some_template P ps (i ∷ is) zero p lt within at h =
    search (arith, rules, option_to_list, templates_at, files_view, map_at, file_view)
some_template P ps (i ∷ is) (suc k) p lt within at h =
    some_behind P _ _
    (some_template P ps is k p (omega arith) within at h)

-- The template file at an index, one template more.
module _ (ps : List TemplateFile) (is : List ℕ) (k : ℕ) (p : TemplateFile) (lt : k < length is)
    (within : get_or is k 0 < length ps) (at : p ≡ get_or ps (get_or is k 0) p) where
  pub tags_turn : (test : Use → Bool) (old more new all : List (Text × Site)) → more ≡ tags test (uses_in (file_view p))
      → new ≡ old ++ more → old ++ tags test (all_uses (templates_at (files_view ps) (drop k is))) ≡ all
      → new ++ tags test (all_uses (templates_at (files_view ps) (drop (k + 1) is))) ≡ all
  tags_turn test old more new all theirs longer before =
      search (arith, rules, templates_turn, tags-append, append_assoc)

  -- The first tag of the templates from this one on.
  pub first_turn : (test : Use → Bool)
      → place_in 0 (tags test (all_uses (templates_at (files_view ps) (drop k is))))
      ≡ option_or (place_in 0 (tags test (uses_in (file_view p))))
      (place_in 0 (tags test (all_uses (templates_at (files_view ps) (drop (k + 1) is)))))
  first_turn test = search (arith, rules, templates_turn, tags-append, first_or)

  pub twice_rule : (s : Sources) (f : ChainFinding) → IsTwiceIn (file_view p) f
      → IsOfRule s (templates_at (files_view ps) is) error.DoubleBlock f
  twice_rule s f told = (told.0, by f.place f.subject told.1)
    where
      by : (q : Option TagPlace) (x : Option ChainSubject) → TwiceAt (file_view p) q x
          → RuleAt s (templates_at (files_view ps) is) q x error.DoubleBlock
      by (Some q) (Some (v.BlockTwice x first)) h = search (arith, rules, some_template)
      by q x h = absurd h

-- The use at a place passes the test.
abbrev Passes : (Use → Bool) → Site → Type 0
Passes test s = test s.made ≡ true

-- A name among the names of one part or another.
either : (test : Use → Bool) (n : Text) (xs ys : List Text) (ss us : List Site) → among n (xs ++ ys) ≡ true
    → (among n xs ≡ true → ForSome (Passes test) ss) → (among n ys ≡ true → ForSome (Passes test) us)
    → ForSome (Passes test) (ss ++ us)
either test n xs ys ss us a f g =
    ⊎_elim (λ p. some_front _ ss us (f p)) (λ q. some_behind _ ss us (g q))
    (among_cases of_texts n xs ys a)

-- ---- includes

module _ (all : Bool) (n : Text) (test : Use → Bool)
    (passes : (m : Text) (i c : Bool) → among n (need all m i) ≡ true → test (uses.includes m i c) ≡ true) where
  mutual
    by_statement : (s : Stmt) (w : Enclosing) → among n (needs_by all s) ≡ true → ForSome (Passes test) (stmt_uses s w)
    by_statement (trees.include line m i c) w a = inl (passes m i c a)
    by_statement (trees.choose bs other) w a = search (arith, rules, either, by_branches bs w, by_body other w)
    by_statement (trees.for_each line xs e c body other) w a =
        search (arith, rules, some_behind, either, by_body body, by_body other w)
    by_statement (trees.set_block line x body) w a = inr (by_body body (inside_scope w) a)
    by_statement (trees.with_values line ps body) w a = search (arith, rules, some_behind, body_uses, by_body body)
    by_statement (trees.filter_block line fs body) w a = search (arith, rules, some_behind, body_uses, by_body body)
    by_statement (trees.autoescape line on body) w a = by_body body (inside_scope w) a
    by_statement (trees.macro line x ps body) w a = search (arith, rules, some_behind, by_body body)
    by_statement (trees.block line x scoped required body) w a = inr (by_body body (inside_block w) a)
    by_statement s w a = absurd (cc)

    by_body : (b : Body) (w : Enclosing) → among n (needs_in all b) ≡ true → ForSome (Passes test) (body_uses b w)
    by_body trees.end w a = absurd (cc)
    by_body (trees.stmt s rest) w a = search (arith, rules, either, by_statement s w, by_body rest w)

    by_branches : (bs : Branches) (w : Enclosing) → among n (needs_under all bs) ≡ true
        → ForSome (Passes test) (branch_uses bs w)
    by_branches trees.no_branches w a = absurd (cc)
    by_branches (trees.branch line c body rest) w a =
        search (arith, rules, either, some_behind, by_body body w, by_branches rest w)

-- ---- imports and parents

module _ (n : Text) (test : Use → Bool) (passes : test (uses.imports n) ≡ true) where
  imports_by : (m : Text) → among n (m ∷ []) ≡ true → test (uses.imports m) ≡ true
  imports_by m a = rw (only_among of_texts m n a) passes

  libraries_by : (b : Body) (w : Enclosing) → among n (libraries_in b) ≡ true → ForSome (Passes test) (body_uses b w)
  libraries_by trees.end w a = absurd (cc)
  libraries_by (trees.stmt (trees.import_as line m x) rest) w a =
      search (arith, rules, imports_by, libraries_by rest w, among_cases, of_texts, libraries_in)
  libraries_by (trees.stmt (trees.import_from line m xs) rest) w a =
      search (arith, rules, imports_by, some_behind, libraries_by rest w, among_cases, of_texts, libraries_in)
  libraries_by (trees.stmt s rest) w a = search (arith, rules, some_behind, body_uses, libraries_by rest w a)

extends_is : (b : Body) → option_map (λ q. q.0) (extends_at b) ≡ extends_of b
extends_is trees.end = refl
extends_is (trees.stmt (trees.extends line m) rest) = refl
extends_is (trees.stmt s rest) = extends_is rest

extends_by : (n : Text) (line : ℕ) (b : Body) (w : Enclosing) → extends_at b ≡ Some (n, line)
    → ForSome (λ (s : Site). (line ≡ s.place.line) × Passes (is_extends n) s) (body_uses b w)
extends_by n line trees.end w e = absurd (cc)
extends_by n line (trees.stmt (trees.extends at m) rest) w e = search (arith, rules, bytes_eq, reflexive)
extends_by n line (trees.stmt s rest) w e =
    search (arith, rules, some_behind, is_extends, body_uses, extends_by n line rest w e)

-- ---- the uses of templates

with_name : (test : Use → Bool) (n : Text) (ss : List Site) → ForSome (Passes test) ss
    → HasUse test (map (λ s. (n, s)) ss)
with_name test n [] h = absurd h
with_name test n (s ∷ ss) h = ⊎_elim (λ p. inl p) (λ q. inr (with_name test n ss q)) h

-- The tag by which a template extends a name.
pub extends_tag : (t : Template) (n : Text) (p : TagPlace) → extends_at t.body ≡ Some (n, p.line)
    → string_bytes p.template ≡ t.name → IsParentAt t n (Some p)
extends_tag t n p e named = (
  sym (extends_is t.body) ∙ ap (option_map (λ (q : Text × ℕ). q.0)) e,
  named,
  at_tag (body_uses t.body outside) (extends_by n p.line t.body outside e),
)
  where
    at_tag : (ss : List Site) → ForSome (λ (s : Site). (p.line ≡ s.place.line) × Passes (is_extends n) s) ss
        → ForSome (IsAt (is_extends n) p) (map (λ s. (t.name, s)) ss)
    at_tag [] h = absurd h
    at_tag (s ∷ ss) h = ⊎_elim (λ q. inl (named, q.0, q.1)) (λ q. inr (at_tag ss q)) h

pub extends_none : (b : Body) → extends_at b ≡ None → extends_of b ≡ None
extends_none b e = sym (extends_is b) ∙ ap (option_map (λ (q : Text × ℕ). q.0)) e

in_templates : (test : Use → Bool) (n : Text) (g : Body → List Text)
    → ((b : Body) → among n (g b) ≡ true → ForSome (Passes test) (body_uses b outside)) → (ts : List Template)
    → among n (flat_map (λ t. g t.body) ts) ≡ true → HasUse test (all_uses ts)
in_templates test n g f [] a = absurd (cc)
in_templates test n g f (t ∷ ts) a =
    ⊎_elim
    (λ p.
    some_front _ _ _
    (with_name test t.name _ (f t.body p)))
    (λ q.
    some_behind _ _ _
    (in_templates test n g f ts q))
    (among_cases of_texts n _ _ a)

asks_include : (all : Bool) (n m : Text) (i c : Bool) → among n (need all m i) ≡ true
    → asks all n (uses.includes m i c) ≡ true
asks_include all n m i c a = by (all || not i) a
  where
    by : (b : Bool) → among n (if b then m ∷ [] else []) ≡ true → (b && bytes_eq m n) ≡ true
    by true h = rw (only_among of_texts m n h) (reflexive n)
    by false h = absurd (cc)

-- A template that is asked for has a tag that asks for it.
pub asked_used : (all : Bool) (n : Text) (ts : List Template) (is : List ℕ) → AreIndices ts is
    → among n (needed all (needs_along ts is)) ≡ true → HasUse (asks all n) (all_uses (templates_at ts is))
asked_used all n ts is w a =
    let us = templates_at ts is in
    ⊎_elim
    (λ p.
    in_templates _ n _
    (λ b q. by_body all n (asks all n) (asks_include all n) b outside q) us p)
    (λ p. in_templates _ n _
    (λ b q. libraries_by n (asks all n) (reflexive n) b outside q) us p)
    (among_cases of_texts n _ _
    (rw (includes_told ts is w, needed-append all, by_templates all, imports_needed all) at a))

-- A chain or library that another one leads to has a tag there that leads to it.
pub leads_used : (s : Sources) (h m : Namespace) → listed m (included s h) ≡ true
    → HasUse (leads_to m) (all_uses (templates s h))
leads_used s h (a_chain n) a =
    in_templates (is_include n) n (needs_in true)
    (λ b q. by_body true n (is_include n) (λ m i c p. rw (only_among of_texts m n p) (reflexive n)) b outside q)
    (templates s h) (among_passes _ n _ (rw chains_listed at a)).0
leads_used s (a_chain k) (a_library n) a =
    in_templates (is_import n) n libraries_in (λ b q. libraries_by n (is_import n) (reflexive n) b outside q)
    (templates s (a_chain k)) (among_passes _ n _ (rw libraries_listed at a)).0
leads_used s (a_library k) (a_library n) a = let no = (rw libraries_listed at a) in absurd (cc)

-- ---- blocks after the last call of `super()`

not_all : (us : List (Text × Site)) (y : Text × Site) (ws : List (Text × Site)) → is_required y.1.made ≡ false
    → list_all (λ s. is_required s.1.made) (us ++ y ∷ ws) ≡ false
not_all [] y ws r = rw r refl
not_all (u ∷ us) y ws r = and_right _ _ (not_all us y ws r)

none_before : (us : List (Text × Site)) (y : Text × Site) (ws : List (Text × Site)) → has_call y.1.made ≡ false
    → is_required y.1.made ≡ false → lacks_call ws ≡ false → lacks_call (us ++ y ∷ ws) ≡ false
none_before [] y ws h r n = rw (h, n) refl
none_before (u ∷ us) y ws h r n = or_from _ _ (and_right _ _ (not_all us y ws r)) (none_before us y ws h r n)

-- No block calls `super()` if one without a call is not required, and none after it calls.
pub call_none : (bs qs : List FoundTag) (b : FoundTag) (rest : List FoundTag) → bs ≡ qs ++ b ∷ rest
    → has_call (tag_view b).1.made ≡ false → is_required (tag_view b).1.made ≡ false
    → lacks_call (tags_view rest) ≡ false → lacks_call (tags_view bs) ≡ false
call_none bs qs b rest e h r n =
    rw (e, map-append tag_view qs (b ∷ rest)) (none_before (tags_view qs) (tag_view b) (tags_view rest) h r n)

pub call_found : (bs qs : List FoundTag) (b : FoundTag) (rest : List FoundTag) → bs ≡ qs ++ b ∷ rest → (line : ℕ)
    → calls_super_at line (tag_view b).1.made ≡ true
    → AllByRecursion (λ s. is_required s.1.made ≡ true) (tags_view rest) → IsLastCall (tags_view bs) (tag_view b) line
call_found bs qs b rest e line h a =
    let before = tags_view qs in
    let after = tag_view b ∷ tags_view rest in
    rw (e, map-append tag_view qs (b ∷ rest)) (record {
      number = length before;
      there = next_at before _ _;
      calls = h;
      last = rw (drop-append-add before after 1) a;
    })
