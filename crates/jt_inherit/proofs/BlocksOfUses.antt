-- The blocks of a body are its block uses, in order. So the tags of the blocks of one name and the bodies of that name
-- are as many, in order, with the same requirements and bodies.
use Rattle.jt_inherit.proofs.Vocabulary as words
use words.{◌≡◌, suc, Bool, true, false, ◌&&◌, List, [], ◌∷◌, ◌++◌, length, map, filter, refl, sym}
use words.{ap}
use words.{◌∙◌, rules, Option, Some, None, if◌then◌else◌, cond, slice_get, bytes_eq, map-append, Text, Use, Site}
use words.{Body, Branches, Stmt, body_uses, outside, uses_in, all_uses, Template, blocks_in, BlockBody, their_blocks}
use words.{◌≤◌, subst, named, tags, is_block, calls_super, from_given, has_call, lacks_call, times}
use Rattle.std.specs.List.{filter_map, cons_option, list_all}
use Rattle.std.proofs.lemmas.List.Elements.{filter_map-append}
use Rattle.jt_ast.specs.Expressions.{Expr, Pairs, no_pairs, pair}
use Rattle.jt_ast.specs.Statements.{Parameter, FilterCall}
use Rattle.jt_chains.specs.Chain.{blocks_of, blocks_under}
use Rattle.jt_chains.specs.Rules as chain_rules
use Rattle.jt_inherit.specs.Findings as findings
use Rattle.jt_uses.proofs.ExpressionsBindNothing as below
use Rattle.jt_uses.specs.Uses as uses
use uses.{branch_uses, stmt_uses, expr_uses, pair_uses, keys_bound, bound, parameters_bound, macros_bound}
use Rattle.jt_uses.specs.declared.site.Enclosing.{Enclosing}
use Rattle.jt_uses.specs.declared.site.Place.{Place}
use words.trees

-- The name of a block, whether it is required, and its body.
abbrev Part : Type 0
Part = Text × Bool × Body

abbrev part_of : Use → Option Part
part_of (uses.declares_block x scoped required body) = Some (x, required, body)
part_of u = None

abbrev site_part : Site → Option Part
site_part s = part_of s.made

abbrev tag_part : Text × Site → Option Part
tag_part x = part_of x.1.made

abbrev block_part : BlockBody → Part
block_part b = (b.name, b.required, b.body)

-- ---- the blocks of bodies

abbrev parts_in : List Site → List Part
parts_in = filter_map site_part

-- Expressions and bindings are no blocks.
passed : below.Passes site_part
passed = search rules

expr_none : (e : Expr) (p : Place) → parts_in (expr_uses e p) ≡ []
expr_none e p = (below.expr_none site_part passed e p).is

bound_none : (xs : List Text) (p : Place) → parts_in (bound xs p) ≡ []
bound_none [] p = refl
bound_none (x ∷ xs) p = bound_none xs p

parameters_none : (ps : List Parameter) (p : Place) → parts_in (parameters_bound ps p) ≡ []
parameters_none [] p = refl
parameters_none (x ∷ xs) p = parameters_none xs p

keys_none : (ps : Pairs) (p : Place) → parts_in (keys_bound ps p) ≡ []
keys_none no_pairs p = refl
keys_none (pair x e ps) p = keys_none ps p

macros_none : (n : Text) (xs : List (Text × Text)) (p : Place) → parts_in (macros_bound n xs p) ≡ []
macros_none n [] p = refl
macros_none n (x ∷ xs) p = macros_none n xs p

module _ (n : Text) where
  mutual
    statement_blocks : (s : Stmt) (on : Bool) (w : Enclosing)
        → parts_in (stmt_uses s w) ≡ map block_part (blocks_of n s on)
    statement_blocks (trees.print line e) on w = expr_none e _
    statement_blocks (trees.choose bs other) on w =
        simp (filter_map-append, map-append, branches_blocks bs on, body_blocks other on)
    statement_blocks (trees.for_each line xs e c body other) on w =
        let condition = λ (p : Place). (below.condition_none site_part passed c p).is in
        simp (
          filter_map-append,
          map-append,
          expr_none,
          bound_none,
          condition,
          body_blocks body on,
          body_blocks other on,
        )
    statement_blocks (trees.set line xs e) on w = simp (filter_map-append, expr_none, bound_none)
    statement_blocks (trees.set_block line x body) on w = body_blocks body on _
    statement_blocks (trees.with_values line ps body) on w =
        let pairs = λ (p : Place). (below.pairs_none site_part passed ps p).is in
        simp (filter_map-append, pairs, keys_none, body_blocks body on)
    statement_blocks (trees.filter_block line fs body) on w =
        let filters = λ (p : Place). (below.filter_calls_none site_part passed fs p).is in
        simp (filter_map-append, filters, body_blocks body on)
    statement_blocks (trees.autoescape line now body) on w = body_blocks body now _
    statement_blocks (trees.macro line x ps body) on w =
        simp (filter_map-append, parameters_none, body_blocks body on)
    statement_blocks (trees.import_from line m xs) on w = macros_none m xs _
    statement_blocks (trees.block line x scoped required body) on w =
        ap (λ l. (x, required, body) ∷ l) (body_blocks body on _)
    statement_blocks s on w = refl

    body_blocks : (b : Body) (on : Bool) (w : Enclosing)
        → parts_in (body_uses b w) ≡ map block_part (blocks_in n b on)
    body_blocks trees.end on w = refl
    body_blocks (trees.stmt s rest) on w =
        simp (filter_map-append, map-append, statement_blocks s on, body_blocks rest on)

    branches_blocks : (bs : Branches) (on : Bool) (w : Enclosing)
        → parts_in (branch_uses bs w) ≡ map block_part (blocks_under n bs on)
    branches_blocks trees.no_branches on w = refl
    branches_blocks (trees.branch line c body rest) on w =
        simp (filter_map-append, map-append, expr_none, body_blocks body on, branches_blocks rest on)

-- ---- the blocks of templates

tag_parts : (n : Text) (ss : List Site) → filter_map tag_part (map (λ s. (n, s)) ss) ≡ parts_in ss
tag_parts n [] = refl
tag_parts n (s ∷ ss) = ap (cons_option (site_part s)) (tag_parts n ss)

template_blocks : (t : Template) (on : Bool)
    → filter_map tag_part (uses_in t) ≡ map block_part (blocks_in t.name t.body on)
template_blocks t on = tag_parts t.name (body_uses t.body outside) ∙ body_blocks t.name t.body on outside

templates_blocks : (on : Bool) (ts : List Template)
    → filter_map tag_part (all_uses ts) ≡ map block_part (their_blocks on ts)
templates_blocks on [] = refl
templates_blocks on (t ∷ ts) =
    filter_map-append tag_part (uses_in t) (all_uses ts)
    ∙ ap (λ l. l ++ filter_map tag_part (all_uses ts)) (template_blocks t on)
    ∙ ap (λ l. map block_part (blocks_in t.name t.body on) ++ l) (templates_blocks on ts)
    ∙ sym (map-append block_part (blocks_in t.name t.body on) (their_blocks on ts))

-- ---- the tags and the bodies of one name

-- The tags are those of the bodies, in order.
abbrev pub AreTags : List (Text × Site) → List BlockBody → Type 0
AreTags [] [] = Unit {0}
AreTags (x ∷ xs) (b ∷ bs) = (tag_part x ≡ Some (block_part b)) × AreTags xs bs
AreTags xs bs = ⊥

tags_more : (y : Text × Site) (b : BlockBody) (ys : List (Text × Site)) (bs : List BlockBody) (p q : Bool) → p ≡ q
    → tag_part y ≡ Some (block_part b) → AreTags ys bs
    → AreTags (cond p (y ∷ ys) ys) (cond q (b ∷ bs) bs)
tags_more y b ys bs true true e h rest = (h, rest)
tags_more y b ys bs false false e h rest = rest
tags_more y b ys bs p q e h rest = absurd (cc)

tags_of : (x : Text) (xs : List (Text × Site)) (bs : List BlockBody) → filter_map tag_part xs ≡ map block_part bs
    → AreTags (tags (is_block x) xs) (named x bs)
tags_of x [] [] e = tt
tags_of x [] (b ∷ bs) e = absurd (cc)
tags_of x (y ∷ xs) bs e = by y.1.made refl bs e (tags_of x xs)
  where
    by : (u : Use) → y.1.made ≡ u → (cs : List BlockBody) → filter_map tag_part (y ∷ xs) ≡ map block_part cs
        → ((ds : List BlockBody) → filter_map tag_part xs ≡ map block_part ds
        → AreTags (tags (is_block x) xs) (named x ds))
        → AreTags (tags (is_block x) (y ∷ xs)) (named x cs)
    by (uses.declares_block z scoped required body) h [] f go = let no = (rw h at f) in absurd (cc)
    by (uses.declares_block z scoped required body) h (b ∷ cs) f go =
        let all = (rw h at f) in
        let one : (z, required, body) ≡ block_part b = cc in
        let rest : filter_map tag_part xs ≡ map block_part cs = cc in
        tags_more y b _ _ _ _ (ap (is_block x) h ∙ ap (λ (p : Part). bytes_eq p.0 x) one)
        (ap part_of h ∙ ap (λ (p : Part). Some p) one) (go cs rest)
    by u h cs f go = rw h (go cs (rw h at f))

module _ (x : Text) where
  -- The uses of a template have the tags of its blocks.
  pub block_tags : (t : Template) (on : Bool)
      → AreTags (tags (is_block x) (uses_in t)) (named x (blocks_in t.name t.body on))
  block_tags t on = tags_of x (uses_in t) _ (template_blocks t on)

  pub blocks_tags : (on : Bool) (ts : List Template)
      → AreTags (tags (is_block x) (all_uses ts)) (named x (their_blocks on ts))
  blocks_tags on ts = tags_of x (all_uses ts) _ (templates_blocks on ts)

  pub named_times : (bs : List BlockBody) → length (named x bs) ≡ times x (map (λ b. b.name) bs)
  named_times [] = refl
  named_times (b ∷ bs) = by (bytes_eq b.name x) (named_times bs)
    where
      by : (c : Bool) → length (named x bs) ≡ times x (map (λ d. d.name) bs)
          → length (cond c (b ∷ named x bs) (named x bs))
          ≡ length (cond c (b.name ∷ filter (λ y. bytes_eq y x) (map (λ d. d.name) bs))
          (filter (λ y. bytes_eq y x) (map (λ d. d.name) bs)))
      by true e = ap suc e
      by false e = e

pub as_many : (ys : List (Text × Site)) (bs : List BlockBody) → AreTags ys bs → length ys ≡ length bs
as_many [] [] h = refl
as_many (y ∷ ys) (b ∷ bs) h = ap suc (as_many ys bs h.1)
as_many ys bs h = absurd h

-- ---- required blocks, and calls of `super()`

part_required : (u : Use) (p : Part) → part_of u ≡ Some p → findings.is_required u ≡ p.1
part_required (uses.declares_block x scoped required body) p e =
    let one : (x, required, body) ≡ p = cc in ap (λ (q : Part). q.1) one
part_required u p e = absurd (cc)

part_calls : (u : Use) (p : Part) → part_of u ≡ Some p → has_call u ≡ calls_super p.2
part_calls (uses.declares_block x scoped required body) p e =
    let one : (x, required, body) ≡ p = cc in ap (λ (q : Part). calls_super q.2) one
part_calls u p e = absurd (cc)

-- If the nearest body is required, its tag is the first one.
pub first_required : (ys : List (Text × Site)) (bs : List BlockBody) → AreTags ys bs
    → chain_rules.is_required bs ≡ true
    → (y : Text × Site) × (slice_get ys 0 ≡ Some y) × (findings.is_required y.1.made ≡ true)
first_required [] [] h r = absurd (cc)
first_required (y ∷ ys) (b ∷ bs) h r = (y, refl, part_required y.1.made (block_part b) h.0 ∙ r)
first_required ys bs h r = absurd h

none_given : (ys : List (Text × Site)) (bs : List BlockBody) → AreTags ys bs
    → list_all (λ y. findings.is_required y.1.made) ys ≡ chain_rules.is_empty (from_given bs)
none_given [] [] h = refl
none_given (y ∷ ys) (b ∷ bs) h =
    ap (λ r. r && list_all (λ z. findings.is_required z.1.made) ys) (part_required y.1.made (block_part b) h.0)
    ∙ by b.required (none_given ys bs h.1)
  where
    by : (r : Bool) → list_all (λ z. findings.is_required z.1.made) ys ≡ chain_rules.is_empty (from_given bs)
        → (r && list_all (λ z. findings.is_required z.1.made) ys)
        ≡ chain_rules.is_empty (if r then from_given bs else b ∷ bs)
    by true e = e
    by false e = refl
none_given ys bs h = absurd h

-- A body lacks a next one exactly if the tag of a call does.
pub lacks_tag : (ys : List (Text × Site)) (bs : List BlockBody) → AreTags ys bs
    → lacks_call ys ≡ chain_rules.lacks_super bs
lacks_tag [] [] h = refl
lacks_tag (y ∷ ys) (b ∷ bs) h =
    rw (part_calls y.1.made (block_part b) h.0, none_given ys bs h.1, lacks_tag ys bs h.1) refl
lacks_tag ys bs h = absurd h

-- A name that two blocks of a body have has two tags.
pub twice_tagged : (n m : Text) (b : Body) (on : Bool) (x : Text) (bs : List BlockBody) (ss : List Site)
    → bs ≡ blocks_in m b on → ss ≡ body_uses b outside → 2 ≤ times x (map (λ d. d.name) bs)
    → 2 ≤ length (tags (is_block x) (map (λ s. (n, s)) ss))
twice_tagged n m b on x bs ss seen used twice =
    let whole =
    tag_parts n ss ∙ ap parts_in used ∙ body_blocks m b on outside
    ∙ ap (λ (l : List BlockBody). map block_part l) (sym seen) in
    subst (λ k. 2 ≤ k) (sym (as_many _ _ (tags_of x (map (λ s. (n, s)) ss) bs whole) ∙ named_times x bs)) twice

-- A name whose nearest body is required has a first tag, which is required.
pub required_tagged : (x : Text) (on : Bool) (ts : List Template) (ys : List (Text × Site))
    → ys ≡ tags (is_block x) (all_uses ts) → chain_rules.is_required (named x (their_blocks on ts)) ≡ true
    → (y : Text × Site) × (slice_get ys 0 ≡ Some y) × (findings.is_required y.1.made ≡ true)
required_tagged x on ts ys is r = rw is (first_required _ _ (blocks_tags x on ts) r)

-- If a body of the name lacks a next one, its tag does.
pub lacking_tagged : (x : Text) (on : Bool) (ts : List Template) (ys : List (Text × Site))
    → ys ≡ tags (is_block x) (all_uses ts) → chain_rules.lacks_super (named x (their_blocks on ts)) ≡ true
    → lacks_call ys ≡ true
lacking_tagged x on ts ys is r = rw is (lacks_tag _ _ (blocks_tags x on ts) ∙ r)
