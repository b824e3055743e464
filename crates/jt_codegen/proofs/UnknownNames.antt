-- The unknown name that is found is that of the first use at the line that names one.
use Rattle.std.proofs.Common.{◌≡◌, ℕ, suc, Bool, true, false, List, [], ◌∷◌, Option, Some, None, refl, sym, ap}
use Rattle.std.proofs.Common.{◌∙◌, subst, inl, inr}
use Rattle.std.specs.Prelude.{◌==◌, ◌⊎◌, if◌then◌else◌}
use Rattle.std.specs.Option.{option_or}
use Rattle.std.proofs.lemmas.Bool.{eqb-true, eqb-false}
use Rattle.std.specs.Prelude.{chars}
use Rattle.jt_scan.specs.Cut.{IsCut}
use Rattle.jt_scan.specs.LineEnds.{normalized}
use Rattle.jt_scan.specs.SourceView.{Held}
use Rattle.jt_scan.specs.View.{cut_of, HaveOptions}
use Rattle.jt_scan.specs.declared.options.Options.{Options}
use Rattle.jt_scan.specs.declared.segment.Segment.{Segment}
use Rattle.jt_ast.specs.Statements.{Body}
use Rattle.jt_ast.specs.StatementView.{body_of}
use Rattle.jt_ast.specs.declared.statement.Template.{Template}
use Rattle.jt_parse.specs.Grammar.{Spelled}
use Rattle.jt_parse.specs.Kept.{pieces}
use Rattle.jt_parse.specs.View.{reads_of}
use Rattle.jt_ids.specs.FilterTable.{named_at}
use Rattle.jt_ids.specs.declared.filter_id.FilterId.{FilterId}
use Rattle.jt_ids.specs.declared.filter_id.ArgumentRole.{ArgumentRole}
use Rattle.jt_ast.specs.Expressions.{Text, Exprs, no_exprs, expr, Pairs}
use Rattle.jt_ast.specs.Written.{literal_text, filter_written}
use Rattle.jt_expr.specs.Named.{unknown_filter, unknown_test, argument_unknown}
use Rattle.jt_expr.specs.declared.named.Named.{Named}
use Rattle.jt_inherit.proofs.SourceErrors.{read_cut}
use Rattle.jt_uses.specs.Uses as uses
use Rattle.jt_uses.specs.Uses.{Site, body_uses, outside}
use Rattle.jt_codegen.specs.Unknown.{HasUses, NamedIn, NamesUnknown, NamesAt, StandsAt}
use Rattle.jt_codegen.specs.internal.UnknownNames.{argument_name, unknown_argument, unknown_among}
use Rattle.jt_codegen.specs.internal.UnknownNames.{unknown_in, unknown_here, unknown_at}

-- A first result, or one among the others.
either_some : {A : Type 0} (P Q : A → Type 0) (o p : Option A) (x : A) → (o ≡ Some x → P x) → (p ≡ Some x → Q x)
    → option_or o p ≡ Some x → P x ⊎ Q x
either_some P Q None p x first later e = inr (later e)
either_some P Q (Some y) p x first later e = inl (first e)

-- A text that is given only if it has a property.
given_if : (b : Bool) (y x : Text) → (if b then Some y else None) ≡ Some x → (y ≡ x) × (b ≡ true)
given_if true y x e = (some_same y x e, refl)
  where
    some_same : (a b : Text) → Some a ≡ Some b → a ≡ b
    some_same a b e = cc
given_if false y x e = absurd (cc)

argument_named : (wanted : Named) (role : Option ArgumentRole) (o : Option Text) (x : Text)
    → argument_name wanted role o ≡ Some x → (o ≡ Some x) × (argument_unknown wanted role (Some x) ≡ true)
argument_named wanted role None x e = absurd (cc)
argument_named wanted role (Some y) x e =
    let g = given_if (argument_unknown wanted role (Some y)) y x e in
    (ap (λ (z : Text). Some z) g.0, subst (λ (z : Text). argument_unknown wanted role (Some z) ≡ true) g.0 g.1)

named_there : (wanted : Named) (filter : FilterId) (place : ℕ) (ts : Exprs) (x : Text)
    → unknown_argument wanted filter place ts ≡ Some x → NamedIn wanted filter place ts x
named_there wanted filter place no_exprs x e = absurd (cc)
named_there wanted filter place (expr first rest) x e =
    either_some
    (λ y. (literal_text first ≡ Some y) × (argument_unknown wanted (named_at filter place) (Some y) ≡ true))
    (λ y. NamedIn wanted filter (suc place) rest y)
    (argument_name wanted (named_at filter place) (literal_text first))
    (unknown_argument wanted filter (suc place) rest) x
    (argument_named wanted (named_at filter place) (literal_text first) x)
    (named_there wanted filter (suc place) rest x) e

among_there : (wanted : Named) (o : Option FilterId) (ts : Exprs) (x : Text) → unknown_among wanted o ts ≡ Some x
    → (filter : FilterId) × (o ≡ Some filter) × NamedIn wanted filter 1 ts x
among_there wanted None ts x e = absurd (cc)
among_there wanted (Some filter) ts x e = (filter, refl, named_there wanted filter 1 ts x e)

filter_there : (wanted : Named) (y : Text) (ts : Exprs) (ps : Pairs) (x : Text) (b : Bool)
    → unknown_filter wanted y ≡ b → (if b then Some y else unknown_among wanted (filter_written y ts ps) ts) ≡ Some x
    → NamesUnknown wanted x (uses.filters y ts ps)
filter_there wanted y ts ps x true is e =
    let g = given_if true y x e in inl (sym g.0, subst (λ (z : Text). unknown_filter wanted z ≡ true) g.0 is)
filter_there wanted y ts ps x false is e = inr (among_there wanted (filter_written y ts ps) ts x e)

use_there : (wanted : Named) (u : uses.Use) (x : Text) → unknown_in wanted u ≡ Some x → NamesUnknown wanted x u
use_there wanted (uses.filters y ts ps) x e = filter_there wanted y ts ps x (unknown_filter wanted y) refl e
use_there wanted (uses.tests y ts ps) x e =
    let g = given_if (unknown_test wanted y) y x e in
    (sym g.0, subst (λ (z : Text). unknown_test wanted z ≡ true) g.0 g.1)
use_there wanted u x e = absurd (cc)

here : (wanted : Named) (line : ℕ) (s : Site) (x : Text) (b : Bool) → (s.place.line == line) ≡ b
    → (if b then unknown_in wanted s.made else None) ≡ Some x
    → NamesAt line wanted x s
here wanted line s x true is e = (eqb-true s.place.line line is, use_there wanted s.made x e)
here wanted line s x false is e = absurd (cc)

-- ---- where no name is found, no use names one

not_given : (b : Bool) (x : Text) (o : Option Text) → (if b then Some x else o) ≡ None → (b ≡ false) × (o ≡ None)
not_given true x o e = absurd (cc)
not_given false x o e = (refl, e)

neither : (o p : Option Text) → option_or o p ≡ None → (o ≡ None) × (p ≡ None)
neither None p e = (refl, e)
neither (Some x) p e = absurd (cc)

both_not : (b : Bool) → b ≡ true → b ≡ false → ⊥
both_not true h n = absurd (cc)
both_not false h n = absurd (cc)

no_argument : (wanted : Named) (role : Option ArgumentRole) (o : Option Text) (x : Text)
    → argument_name wanted role o ≡ None → o ≡ Some x → argument_unknown wanted role (Some x) ≡ true → ⊥
no_argument wanted role None x e is u = absurd (cc)
no_argument wanted role (Some y) x e is u =
    both_not (argument_unknown wanted role (Some y)) (ap (argument_unknown wanted role) is ∙ u)
    (not_given (argument_unknown wanted role (Some y)) y None e).0

none_named : (wanted : Named) (filter : FilterId) (place : ℕ) (ts : Exprs) (x : Text)
    → unknown_argument wanted filter place ts ≡ None → NamedIn wanted filter place ts x → ⊥
none_named wanted filter place no_exprs x e n = n
none_named wanted filter place (expr first rest) x e n =
    by n
    (neither (argument_name wanted (named_at filter place) (literal_text first))
    (unknown_argument wanted filter (suc place) rest) e) (none_named wanted filter (suc place) rest x)
  where
    by : ((literal_text first ≡ Some x) × (argument_unknown wanted (named_at filter place) (Some x) ≡ true))
        ⊎ NamedIn wanted filter (suc place) rest x
        → (argument_name wanted (named_at filter place) (literal_text first) ≡ None)
        × (unknown_argument wanted filter (suc place) rest ≡ None)
        → (unknown_argument wanted filter (suc place) rest ≡ None → NamedIn wanted filter (suc place) rest x → ⊥) → ⊥
    by (inl a) k r = no_argument wanted (named_at filter place) (literal_text first) x k.0 a.0 a.1
    by (inr n) k r = r k.1 n

none_among : (wanted : Named) (o : Option FilterId) (filter : FilterId) (ts : Exprs) (x : Text)
    → unknown_among wanted o ts ≡ None → o ≡ Some filter → NamedIn wanted filter 1 ts x → ⊥
none_among wanted None filter ts x e is n = absurd (cc)
none_among wanted (Some given) filter ts x e is n =
    let same : given ≡ filter = cc in
    none_named wanted given 1 ts x e (subst (λ (f : FilterId). NamedIn wanted f 1 ts x) (sym same) n)

none_used : (wanted : Named) (u : uses.Use) (x : Text) → unknown_in wanted u ≡ None → NamesUnknown wanted x u → ⊥
none_used wanted (uses.filters y ts ps) x e (inl a) =
    both_not (unknown_filter wanted y) (ap (unknown_filter wanted) (sym a.0) ∙ a.1)
    (not_given (unknown_filter wanted y) y (unknown_among wanted (filter_written y ts ps) ts) e).0
none_used wanted (uses.filters y ts ps) x e (inr a) =
    none_among wanted (filter_written y ts ps) a.0 ts x
    (not_given (unknown_filter wanted y) y (unknown_among wanted (filter_written y ts ps) ts) e).1 a.1 a.2
none_used wanted (uses.tests y ts ps) x e n =
    both_not (unknown_test wanted y) (ap (unknown_test wanted) (sym n.0) ∙ n.1)
    (not_given (unknown_test wanted y) y None e).0
none_used wanted u x e n = n

none_here : (wanted : Named) (line : ℕ) (s : Site) (x : Text) (b : Bool) → (s.place.line == line) ≡ b
    → (if b then unknown_in wanted s.made else None) ≡ None → NamesAt line wanted x s → ⊥
none_here wanted line s x true is e n = none_used wanted s.made x e n.1
none_here wanted line s x false is e n = eqb-false s.place.line line is n.0

stands : (wanted : Named) (line : ℕ) (ss : List Site) (x : Text) → unknown_at wanted line ss ≡ Some x
    → StandsAt line wanted x ss
stands wanted line [] x e = absurd (cc)
stands wanted line (s ∷ ss) x e = by (unknown_here wanted line s) refl e (stands wanted line ss x)
  where
    by : (o : Option Text) → unknown_here wanted line s ≡ o → option_or o (unknown_at wanted line ss) ≡ Some x
        → (unknown_at wanted line ss ≡ Some x → StandsAt line wanted x ss) → StandsAt line wanted x (s ∷ ss)
    by (Some y) is f r = inl (here wanted line s x (s.place.line == line) refl (is ∙ f))
    by None is f r = inr (λ y n. none_here wanted line s y (s.place.line == line) refl is n, r f)

pub stands_there : (wanted : Named) (line : ℕ) (ss : List Site) (x : Text) → unknown_at wanted line ss ≡ Some x
    → StandsAt line wanted x ss
stands_there = stands

-- The source spells the tree that is read of its segments.
pub tree_there : (options : Options) (given : Text) (s : Held)
    → s ≡ record { text = normalized options.keep_trailing_newline given; options = options } → (ss : List Segment)
    → (t : Template) → IsCut (cut_of ss) (chars s.text) → HaveOptions s.options ss
    → Spelled (body_of t) (pieces (reads_of ss))
    → HasUses options given (λ sites. sites ≡ body_uses (body_of t) outside)
tree_there options given s is ss t c h p = record {
  segments = cut_of ss;
  cut = subst (λ x. IsCut (cut_of ss) (chars x)) (ap (λ (z : Held). z.text) is) c;
  body = body_of t;
  spelled =
      subst (λ rs. Spelled (body_of t) (pieces rs))
      (read_cut options ss (subst (λ o. HaveOptions o ss) (ap (λ (z : Held). z.options) is) h)) p;
  holds = refl;
}

-- What holds of the uses of the tree holds of the uses of the source.
pub uses_there : (options : Options) (given : Text) (P : List Site → Type 0) (b : Body)
    → HasUses options given (λ sites. sites ≡ body_uses b outside) → P (body_uses b outside) → HasUses options given P
uses_there options given P b h p = record {
  segments = h.segments;
  cut = h.cut;
  body = h.body;
  spelled = h.spelled;
  holds = subst P (sym h.holds) p;
}
