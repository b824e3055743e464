-- In the place table of an image the templates are sorted, and each place has the number of its
-- template.
use Rattle.std.proofs.Common.{◌≡◌, ℕ, ◌+◌, ◌<◌, List, [], ◌∷◌, ◌++◌, length, map, drop, get_or, Option, Some, None}
use Rattle.std.proofs.Common.{refl, sym, ap, ◌∙◌, subst, append_assoc, inl, inr, arith, rules}
use Rattle.std.specs.List.{AllByRecursion}
use Rattle.std.proofs.lemmas.List.{map-append, drop_more}
use Rattle.std.proofs.lemmas.Slice.Eq.{bytes_eq-Decides}
use Rattle.jt_value.specs.Place as place
use Rattle.jt_ast.specs.Expressions.{Text}
use Rattle.jt_ast.specs.Texts.{all_inserted, inserted}
use Rattle.jt_image.specs.View.{loc_view, locs_view}
use Rattle.jt_image.specs.declared.parts.SourceLoc as given
use Rattle.jt_ir.specs.declared.program.Place.{Place}
use Rattle.jt_lower.specs.Emission.{tag_view, places_view}
use Rattle.jt_lower.specs.SourceLocs.{templates_in, templates_of, loc_of}
use Rattle.jt_lower.proofs.SourceLocsCorrect.{Among, number_within, all_here}
use Rattle.jt_names.proofs.SortedNames.{ascending_inserted}
use Rattle.jt_codegen.specs.internal.Naming.{IsNamed}

-- ---- sorted templates

place_left : (ps : List (Option Place)) (i : ℕ) (d o : Option Place) → i < length ps → get_or ps i d ≡ o
    → drop i ps ≡ o ∷ drop (i + 1) ps
place_left ps i d o lt is = drop_more ps i d lt ∙ ap (λ y. y ∷ drop (i + 1) ps) is

first_inserted : (o : Option place.Place) (qs : List (Option place.Place)) (ns : List Text)
    → all_inserted (templates_in qs) (all_inserted (templates_in (o ∷ [])) ns) ≡ all_inserted (templates_in (o ∷ qs)) ns
first_inserted None qs ns = refl
first_inserted (Some q) qs ns = refl

once : (x : Text) → inserted x (x ∷ []) ≡ x ∷ []
once x = rw ((bytes_eq-Decides x x).1 refl) refl

pub again : (x : Text) (ns : List Text) → inserted x (inserted x ns) ≡ inserted x ns
again x ns = sym (ascending_inserted (x ∷ x ∷ []) ns) ∙ ap (λ l. all_inserted l ns) (once x)

pub named_more : (ts : List Text) (ps : List (Option Place)) (i : ℕ) (d o : Option Place) (ns ns' : List Text)
    → i < length ps → get_or ps i d ≡ o → ns' ≡ all_inserted (templates_in (tag_view ts o ∷ [])) ns
    → all_inserted (templates_in (places_view ts (drop (i + 1) ps))) ns'
    ≡ all_inserted (templates_in (places_view ts (drop i ps))) ns
named_more ts ps i d o ns ns' lt is e = search (arith, rules, place_left, first_inserted)

-- The template of each place is among the names.
each_named : (ns : List Text) (qs : List (Option place.Place)) → ((t : Text) → Among t (templates_in qs) → Among t ns)
    → AllByRecursion (IsNamed ns) qs
each_named ns [] f = tt
each_named ns (None ∷ qs) f = (tt, each_named ns qs f)
each_named ns (Some q ∷ qs) f =
    (number_within q.template ns (f q.template (inl refl)), each_named ns qs (λ t i. f t (inr i)))

pub all_named : (qs : List (Option place.Place)) → AllByRecursion (IsNamed (templates_of qs)) qs
all_named qs = each_named (templates_of qs) qs (λ t i. all_here t (templates_in qs) [] i)

-- ---- encoded places

-- The first `i` places are encoded, and the templates of the rest are among the names.
abbrev pub Told : List Text → List Text → List (Option Place) → ℕ → List given.SourceLoc → Type 0
Told ts ns ps i ss =
    (locs_view ss ++ map (loc_of ns) (places_view ts (drop i ps)) ≡ map (loc_of ns) (places_view ts ps))
    × AllByRecursion (IsNamed ns) (places_view ts (drop i ps))

pub here_named : (ts ns : List Text) (ps : List (Option Place)) (i : ℕ) (d o : Option Place) (ss : List given.SourceLoc)
    → i < length ps → get_or ps i d ≡ o → Told ts ns ps i ss → IsNamed ns (tag_view ts o)
here_named ts ns ps i d o ss lt is h =
    (subst (λ l. AllByRecursion (IsNamed ns) (places_view ts l)) (place_left ps i d o lt is) h.1).0

pub told_more : (ts ns : List Text) (ps : List (Option Place)) (i : ℕ) (d o : Option Place)
    (ss ss' : List given.SourceLoc) (s : given.SourceLoc)
    → i < length ps → get_or ps i d ≡ o → loc_view s ≡ loc_of ns (tag_view ts o) → ss' ≡ ss ++ s ∷ []
    → Told ts ns ps i ss → Told ts ns ps (i + 1) ss'
told_more ts ns ps i d o ss ss' s lt is e more h = search (arith, rules, place_left, map-append, append_assoc)
