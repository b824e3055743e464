-- A place that covers another one takes all tokens that the other one takes.
use Rattle.std.proofs.Common.{◌≡◌, Bool, true, false, List, [], ◌∷◌, ◌++◌, refl, sym, ap, subst, ◌∙◌, arith, Option}
use Rattle.std.proofs.Common.{Some, None, rules, ◌⊎◌, inl, inr}
use Rattle.jt_scan.specs.Cut.{Token}
use Rattle.jt_expr.specs.Grammar.{Tokens}
use Rattle.jt_syntax.specs.declared.kinds.Kind.{Kind}
use Rattle.jt_syntax.specs.declared.frames.Row.TheVariants as row
use Rattle.jt_syntax.specs.declared.frames.Bracket.{Bracket}
use Rattle.jt_syntax.specs.declared.frames.Bracket.TheVariants as b
use Rattle.jt_syntax.specs.declared.frames.Clause.{Clause}
use Rattle.jt_syntax.specs.declared.frames.Comparison.{Comparison}
use Rattle.jt_syntax.specs.declared.frames.Frame.{Frame}
use Rattle.jt_syntax.specs.declared.frames.Prefixes.{Prefixes}
use Rattle.jt_syntax.specs.declared.frames.Prefixes.TheVariants as prefixes
use Rattle.jt_syntax.specs.declared.frames.Ending.{Ending}
use Rattle.jt_syntax.specs.declared.frames.Ending.TheVariants as ending
use Rattle.jt_syntax.specs.declared.frames.Place.{Place}
use Rattle.jt_syntax.specs.declared.frames.Place.TheVariants as p
use Rattle.jt_syntax.specs.declared.frames.Move.{Move}
use Rattle.jt_syntax.specs.declared.frames.Move.TheVariants as m
use Rattle.jt_syntax.specs.internal.Kinds.{kind_of}
use Rattle.jt_syntax.specs.internal.Moves.{next, frame, operand, behind, part}
use Rattle.jt_syntax.specs.internal.States.{State, at, made, made_by, step_by, walk}

-- The place takes the tokens of an operand with these prefixes.
abbrev pub begins : Bracket → Prefixes → Place → Bool
begins c q (p.Operand prefixes.All) = true
begins c prefixes.Signs (p.Operand prefixes.Signs) = true
begins (b.Sequence row.Items t) q p.Part = true
begins (b.Sequence row.Arguments t) q p.Part = true
begins _ _ _ = false

abbrev pub includes : Ending → Ending → Bool
includes ending.Postscript d = true
includes ending.Postfix ending.Postfix = true
includes ending.Postfix ending.Keyword = true
includes ending.Keyword ending.Keyword = true
includes ending.FilterName ending.FilterName = true
includes ending.TestName ending.TestName = true
includes _ _ = false

abbrev pub ends : Ending → Place → Bool
ends e (p.Behind d) = includes e d
ends e _ = false

-- The second place takes all tokens that the first one takes.
abbrev pub covers : Bracket → Place → Place → Bool
covers c (p.Operand q) r = begins c q r
covers c (p.Behind e) r = ends e r
covers c p.Part p.Part = true
covers c p.Colon p.Colon = true
covers c p.Assign p.Assign = true
covers c p.Attribute p.Attribute = true
covers c p.Filter p.Filter = true
covers c p.Test p.Test = true
covers c p.NegatedTest p.NegatedTest = true
covers c p.In p.In = true
covers c _ _ = false

pub covers_self : (c : Bracket) (q : Place) → covers c q q ≡ true
covers_self c q = search (arith, rules)

includes_trans : (d e f : Ending) → includes d e ≡ true → includes e f ≡ true → includes d f ≡ true
includes_trans d e f h i = search (arith, rules)

pub covers_trans : (c : Bracket) (q r t : Place) → covers c q r ≡ true → covers c r t ≡ true → covers c q t ≡ true
covers_trans c q r t h i = search (arith, rules, includes_trans)

-- Both places take the token alike, or it is a name that may be a keyword.
abbrev Alike : Frame → Place → Place → Kind → Move → Type 0
Alike f q r t y =
    (next r f t ≡ Some y)
    ⊎ ((y ≡ m.To (p.Behind ending.Postfix) f) × (next r f t ≡ Some (m.To (p.Behind ending.Keyword) f)))

ending_alike : (d e : Ending) (f : Frame) (t : Kind) (y : Move) → includes d e ≡ true → behind d f t ≡ Some y
    → behind e f t ≡ Some y
ending_alike d e f t y h i = search (arith, rules)

operand_alike : (q r : Prefixes) (f : Frame) (t : Kind) (y : Move) → begins f.bracket q (p.Operand r) ≡ true
    → operand q f t ≡ Some y → operand r f t ≡ Some y
operand_alike q r f t y h i = search (arith, rules)

items_alike : (q : Prefixes) (f : Frame) (t : Kind) (y : Move) → operand q f t ≡ Some y
    → part row.Items f t ≡ Some y
items_alike q f t y i = search (arith, rules)

arguments_alike : (q : Prefixes) (f : Frame) (t : Kind) (y : Move) → operand q f t ≡ Some y
    → (part row.Arguments f t ≡ Some y)
    ⊎ ((y ≡ m.To (p.Behind ending.Postfix) f) × (part row.Arguments f t ≡ Some (m.To (p.Behind ending.Keyword) f)))
arguments_alike q f t y i = search (arith, rules)

alike : (c : Bracket) (x : Clause) (o : Comparison) (q r : Place) (t : Kind) (y : Move) → covers c q r ≡ true
    → next q (frame c x o) t ≡ Some y → Alike (frame c x o) q r t y
alike c x o q r t y h i = search (arith, rules, ending_alike, operand_alike, items_alike, arguments_alike)

-- ---- walks

-- From the state, the tokens lead to a place that covers the given one.
pub record Walks (x : State) (ts : Tokens) (q : Place) (f : Frame) (fs : List Frame) : Type 0 where
  pub place : Place
  pub walked : walk ts (Some x) ≡ Some (at place f fs)
  pub covered : covers f.bracket q place ≡ true

pub walk_none : (ts : Tokens) → walk ts None ≡ None
walk_none [] = refl
walk_none (t ∷ ts) = walk_none ts

pub walk_append : (ts us : Tokens) (x : Option State) → walk (ts ++ us) x ≡ walk us (walk ts x)
walk_append [] us x = refl
walk_append (t ∷ ts) us x = walk_append ts us (step_by x (kind_of t))

pub arrived : (x : State) (ts : Tokens) (q : Place) (f : Frame) (fs : List Frame)
    → walk ts (Some x) ≡ Some (at q f fs) → Walks x ts q f fs
arrived x ts q f fs h = record { place = q; walked = h; covered = covers_self f.bracket q }

-- Both moves lead on alike.
after_move : (y : Move) (q r : Place) (f : Frame) (fs : List Frame) → made y (at q f fs) ≡ made y (at r f fs)
after_move (m.To p0 f0) q r f fs = refl
after_move (m.Opens p0 f0) q r f fs = refl
after_move m.Closes q r f fs = refl

stepped : (t : Token) (ts : Tokens) (q r : Place) (f : Frame) (fs : List Frame) (u : Place) (g : Frame)
    (gs : List Frame)
    → ((p0 r0 : Place) (f0 : Frame) (fs0 : List Frame) → covers f0.bracket p0 r0 ≡ true
    → walk ts (Some (at p0 f0 fs0)) ≡ Some (at u g gs) → Walks (at r0 f0 fs0) ts u g gs)
    → (y : Move) → walk ts (made y (at q f fs)) ≡ Some (at u g gs) → Alike f q r (kind_of t) y
    → Walks (at r f fs) (t ∷ ts) u g gs
stepped t ts q r f fs u g gs ih y v (inl e) =
    arrived (at r f fs) (t ∷ ts) u g gs
    (ap (λ o. walk ts (made_by o (at r f fs))) e ∙ ap (walk ts) (after_move y r q f fs) ∙ v)
stepped t ts q r f fs u g gs ih y v (inr e) =
    let a : walk ts (Some (at (p.Behind ending.Postfix) f fs)) ≡ Some (at u g gs) =
    subst (λ z. walk ts (made z (at q f fs)) ≡ Some (at u g gs)) e.0 v in
    let w = ih (p.Behind ending.Postfix) (p.Behind ending.Keyword) f fs refl a in
    record {
      place = w.place;
      walked = ap (λ o. walk ts (made_by o (at r f fs))) e.1 ∙ w.walked;
      covered = w.covered;
    }

-- A step from the place and from a place that covers it, and the walks behind them.
carried_step : (t : Token) (ts : Tokens) (q r : Place) (f : Frame) (fs : List Frame) (u : Place) (g : Frame)
    (gs : List Frame)
    → ((p0 r0 : Place) (f0 : Frame) (fs0 : List Frame) → covers f0.bracket p0 r0 ≡ true
    → walk ts (Some (at p0 f0 fs0)) ≡ Some (at u g gs) → Walks (at r0 f0 fs0) ts u g gs)
    → (y : Option Move) → next q f (kind_of t) ≡ y
    → ((z : Move) → y ≡ Some z → Alike f q r (kind_of t) z)
    → walk (t ∷ ts) (Some (at q f fs)) ≡ Some (at u g gs) → Walks (at r f fs) (t ∷ ts) u g gs
carried_step t ts q r f fs u g gs ih None e h w =
    let v : walk ts None ≡ Some (at u g gs) = subst (λ o. walk ts (made_by o (at q f fs)) ≡ Some (at u g gs)) e w in
    let n : None ≡ Some (at u g gs) = sym (walk_none ts) ∙ v in
    absurd (cc)
carried_step t ts q r f fs u g gs ih (Some y) e h w =
    let v : walk ts (made y (at q f fs)) ≡ Some (at u g gs) =
    subst (λ o. walk ts (made_by o (at q f fs)) ≡ Some (at u g gs)) e w in
    stepped t ts q r f fs u g gs ih y v (h y refl)

-- What a place takes, a place that covers it takes.
pub carried : (ts : Tokens) (q r : Place) (f : Frame) (fs : List Frame) (u : Place) (g : Frame) (gs : List Frame)
    → covers f.bracket q r ≡ true → walk ts (Some (at q f fs)) ≡ Some (at u g gs) → Walks (at r f fs) ts u g gs
carried [] q r f fs u g gs h w =
    let ef : f ≡ g = cc in
    let eq : q ≡ u = cc in
    record {
      place = r;
      walked = cc;
      covered = subst (λ z. covers z.bracket u r ≡ true) ef (subst (λ z. covers f.bracket z r ≡ true) eq h);
    }
carried (t ∷ ts) q r f fs u g gs h w =
    carried_step t ts q r f fs u g gs (λ p0 r0 f0 fs0. carried ts p0 r0 f0 fs0 u g gs) (next q f (kind_of t)) refl
    (λ z e. alike f.bracket f.clause f.comparison q r (kind_of t) z h e) w

-- A walk, and a walk from the place that it covers.
pub then : (x : State) (ts us : Tokens) (q : Place) (f : Frame) (fs : List Frame) (r : Place) (g : Frame)
    (gs : List Frame) → Walks x ts q f fs → Walks (at q f fs) us r g gs → Walks x (ts ++ us) r g gs
then x ts us q f fs r g gs v w =
    let c = carried us q v.place f fs w.place g gs v.covered w.walked in
    record {
      place = c.place;
      walked = walk_append ts us (Some x) ∙ ap (walk us) v.walked ∙ c.walked;
      covered = covers_trans g.bracket r w.place c.place w.covered c.covered;
    }
