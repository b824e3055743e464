-- What reads, fields of loop, calls, filters and tests do not give, the uses in expressions do not give.
use Rattle.std.proofs.Common.{◌≡◌, Bool, true, false, if◌then◌else◌, List, [], ◌∷◌, ◌++◌, refl, ap, ◌∙◌, Option}
use Rattle.std.proofs.Common.{Some, None}
use Rattle.std.specs.List.{filter_map, cons_option}
use Rattle.std.proofs.lemmas.List.Elements.{filter_map-append}
use Rattle.jt_ast.specs.Expressions.{Expr, constant, name, group, list_of, map_of, attribute, item, call, filter, test}
use Rattle.jt_ast.specs.Expressions.{unary, binary, when, choice, Exprs, no_exprs, expr, Pairs, no_pairs, pair, Text}
use Rattle.jt_ast.specs.Statements.{FilterCall}
use Rattle.jt_uses.specs.Uses.{Use, reads, reads_loop_field, calls, filters, tests, Site, at, is_loop, place_at}
use Rattle.jt_uses.specs.Uses.{is_called_by_name, inside_callee, before_loop, expr_uses, row_uses, pair_uses}
use Rattle.jt_uses.specs.Uses.{condition_uses, filter_call_uses}
use Rattle.jt_uses.specs.declared.site.Place.{Place}

-- The function gives nothing of the uses of expressions.
pub record Passes {A : Type 0} (h : Site → Option A) : Type 0 where
  pub name : (p : Place) (x : Text) → h (record { place = p; made = reads x }) ≡ None
  pub field : (p : Place) (k : Text) → h (record { place = p; made = reads_loop_field k }) ≡ None
  pub call : (p : Place) (f : Expr) (ts : Exprs) (ps : Pairs) → h (record { place = p; made = calls f ts ps }) ≡ None
  pub filter : (p : Place) (x : Text) (ts : Exprs) (ps : Pairs)
      → h (record { place = p; made = filters x ts ps }) ≡ None
  pub test : (p : Place) (x : Text) (ts : Exprs) (ps : Pairs) → h (record { place = p; made = tests x ts ps }) ≡ None

-- The function gives nothing of these uses.
pub record Nothing {A : Type 0} (h : Site → Option A) (ss : List Site) : Type 0 where
  pub is : filter_map h ss ≡ []

module _ {A : Type 0} (h : Site → Option A) where
  pub none_at : (p : Place) (u : Use) → h (record { place = p; made = u }) ≡ None → Nothing h (at p u)
  none_at p u e = record { is = ap (λ o. cons_option o []) e }

  none : Nothing h []
  none = record { is = refl }

  both : {ss ts : List Site} → Nothing h ss → Nothing h ts → Nothing h (ss ++ ts)
  both {ss} {ts} e f = record { is = filter_map-append h ss ts ∙ ap (λ z. z ++ filter_map h ts) e.is ∙ f.is }

  either : {ss ts : List Site} (b : Bool) → Nothing h ss → Nothing h ts → Nothing h (if b then ss else ts)
  either true e f = e
  either false e f = f

  module _ (passed : Passes h) where
    mutual
      pub expr_none : (e : Expr) (p : Place) → Nothing h (expr_uses e p)
      expr_none (constant l) p = none
      expr_none (name x) p = none_at p (reads x) (passed.name p x)
      expr_none (group a) p = expr_none a p
      expr_none (list_of ts) p = row_none ts p
      expr_none (map_of ps) p = pairs_none ps p
      expr_none (attribute a k) p =
          either (is_loop a) (none_at p (reads_loop_field k) (passed.field p k)) (expr_none a p)
      expr_none (item a b) p = both (expr_none a p) (expr_none b p)
      expr_none (call f ts ps) p =
          both (either (is_called_by_name f) none (expr_none f (place_at p.line (inside_callee p.around))))
          (both (none_at p (calls f ts ps) (passed.call p f ts ps)) (both (row_none ts p) (pairs_none ps p)))
      expr_none (filter a x ts ps) p =
          both (none_at p (filters x ts ps) (passed.filter p x ts ps))
          (both (expr_none a p) (both (row_none ts p) (pairs_none ps p)))
      expr_none (test a n x ts ps) p =
          both (none_at p (tests x ts ps) (passed.test p x ts ps))
          (both (expr_none a p) (both (row_none ts p) (pairs_none ps p)))
      expr_none (unary o a) p = expr_none a p
      expr_none (binary o a b) p = both (expr_none a p) (expr_none b p)
      expr_none (when c a) p = both (expr_none c p) (expr_none a p)
      expr_none (choice c a b) p = both (expr_none c p) (both (expr_none a p) (expr_none b p))

      row_none : (ts : Exprs) (p : Place) → Nothing h (row_uses ts p)
      row_none no_exprs p = none
      row_none (expr a ts) p = both (expr_none a p) (row_none ts p)

      pub pairs_none : (ps : Pairs) (p : Place) → Nothing h (pair_uses ps p)
      pairs_none no_pairs p = none
      pairs_none (pair k a ps) p = both (expr_none a p) (pairs_none ps p)

    pub condition_none : (c : Option Expr) (p : Place) → Nothing h (condition_uses c p)
    condition_none None p = none
    condition_none (Some c) p = expr_none c (before_loop p)

    pub filter_calls_none : (fs : List FilterCall) (p : Place) → Nothing h (filter_call_uses fs p)
    filter_calls_none [] p = none
    filter_calls_none (f ∷ fs) p =
        both
        (both (none_at p (filters f.name f.arguments f.keywords) (passed.filter p f.name f.arguments f.keywords))
        (both (row_none f.arguments p) (pairs_none f.keywords p)))
        (filter_calls_none fs p)
