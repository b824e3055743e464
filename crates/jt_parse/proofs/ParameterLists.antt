-- The parameters of a macro and the closing parenthesis, from the contract of their list.
use Rattle.std.proofs.Common.{◌≡◌, true, false, List, [], ◌∷◌, ◌++◌, refl, sym, ap, subst, ◌∙◌, append_assoc, arith}
use Rattle.std.proofs.Common.{Result, Ok, Err, Global, Vec}
use Rattle.jt_scan.specs.declared.segment.Sign.TheVariants as s
use Rattle.jt_scan.specs.Cut as cut
use Rattle.jt_scan.specs.Cut.{Token}
use Rattle.jt_expr.specs.declared.error.ExprError.{ExprError}
use Rattle.jt_expr.specs.declared.error.ExprError.TheVariants as e
use Rattle.jt_expr.specs.Grammar.{Tokens}
use Rattle.jt_expr.specs.Promises.{Leads}
use Rattle.jt_expr.specs.Cursor.{TakesSign}
use Rattle.jt_ast.specs.Statements.{Parameter}
use Rattle.jt_parse.specs.Tags.{Separated, only, also, IsParameter, plain, with_default, defaults_last, Parameters}
use Rattle.jt_parse.specs.Tags.{no_parameters, some_parameters}
use Rattle.jt_parse.specs.internal.Readers.{Anything, NoSign, NoParameter, ReadsFlat}
use Rattle.jt_ast.specs.StatementView.{parameters_view}
use Rattle.jt_ast.specs.declared.statement.Parameter.{Parameter as Declared}
use Rattle.jt_parse.proofs.TokenPrefixes.{true_is_false, behind, part_refused, sign_refused}

abbrev pub ParametersRead : Tokens → Result (Vec Declared Global) ExprError → Tokens → Type 0
ParametersRead = ReadsFlat (λ (v : Vec Declared Global). parameters_view v.items) Parameters Anything

abbrev pub RowRead : Tokens → Result (Vec Declared Global) ExprError → Tokens → Type 0
RowRead = ReadsFlat (λ (v : Vec Declared Global). parameters_view v.items) (Separated IsParameter s.Comma) NoParameter

-- The tokens begin with the closing parenthesis, or with a list of parameters before it.
data Opens (ps : List Parameter) (ts v : Tokens) : Type 0 where
  at_once : ts ≡ cut.sign s.RightParen ∷ v → ps ≡ [] → Opens ps ts v
  with_row : Leads (Separated IsParameter s.Comma) ps ts (cut.sign s.RightParen ∷ v) → defaults_last ps ≡ true
      → Opens ps ts v

opens : (ps : List Parameter) (ts v : Tokens) → Leads Parameters ps ts v → Opens ps ts v
opens ps ts v (x, is, no_parameters) = at_once is refl
opens ps ts v (x, is, some_parameters {x = y} d h) =
    with_row (y, is ∙ append_assoc y (cut.sign s.RightParen ∷ []) v, d) h

not_parameter : (v : Tokens) → NoParameter (cut.sign s.RightParen ∷ v)
not_parameter v = (λ w e. cc, λ w e. cc)

row_opens : (ps : List Parameter) (x u v : Tokens) → Separated IsParameter s.Comma ps x
    → ◌≡◌ {A = Tokens} (x ++ u) (cut.sign s.RightParen ∷ v) → ⊥
row_opens ps x u v (only (plain h)) e = cc
row_opens ps x u v (only (with_default h l)) e = cc
row_opens ps x u v (also (plain h) g) e = cc
row_opens ps x u v (also (with_default h l) g) e = cc

module _ (ts : Tokens) where
  pub closed_at_once : (u : Tokens) (r : Vec Declared Global) → ts ≡ cut.sign s.RightParen ∷ u
      → parameters_view r.items ≡ [] → ParametersRead ts (Ok r) u
  closed_at_once u r is none = (
    subst (λ z. Leads Parameters z ts u) (sym none) (cut.sign s.RightParen ∷ [], is, no_parameters),
    omega arith,
    λ b v l any. by b v (opens b ts v l),
  )
    where
      by : (b : List Parameter) (v : Tokens) → Opens b ts v → (b ≡ parameters_view r.items) × (v ≡ u)
      by b v (at_once e f) = (f ∙ sym none, behind (cut.sign s.RightParen) ts v u e is)
      by b v (with_row l h) = absurd (row_opens b l.0 (cut.sign s.RightParen ∷ v) u l.2 (sym l.1 ∙ is))

  module _ (none : NoSign s.RightParen ts) where
    rows : (ps : List Parameter) (v : Tokens) → Leads Parameters ps ts v
        → Leads (Separated IsParameter s.Comma) ps ts (cut.sign s.RightParen ∷ v) × (defaults_last ps ≡ true)
    rows ps v l = by (opens ps ts v l)
      where
        by : Opens ps ts v
            → Leads (Separated IsParameter s.Comma) ps ts (cut.sign s.RightParen ∷ v) × (defaults_last ps ≡ true)
        by (at_once e f) = absurd (none v e)
        by (with_row g h) = (g, h)

    pub row_refused : (x : ExprError) (r w : Tokens) → RowRead ts (Err x) r → ParametersRead ts (Err x) w
    row_refused =
        part_refused (λ (v : Vec Declared Global). parameters_view v.items)
        (λ (v : Vec Declared Global). parameters_view v.items) (Separated IsParameter s.Comma) Parameters NoParameter
        Anything (λ a. 0) (λ a. 0) 0 0 ts ts
        (λ ps v l end. (ps, cut.sign s.RightParen ∷ v, (rows ps v l).0, not_parameter v, λ less. less))

    module _ (found : Vec Declared Global) (u : Tokens) (row : RowRead ts (Ok found) u) where
      same_row : (ps : List Parameter) (v : Tokens) → Leads Parameters ps ts v
          → (ps ≡ parameters_view found.items) × (cut.sign s.RightParen ∷ v ≡ u)
      same_row ps v l = row.2 ps (cut.sign s.RightParen ∷ v) (rows ps v l).0 (not_parameter v)

      pub not_closed : (x : ExprError) (r w : Tokens) → TakesSign s.RightParen u (Err x) r → ParametersRead ts (Err x) w
      not_closed =
          sign_refused (λ (v : Vec Declared Global). parameters_view v.items) Parameters Anything (λ a. 0) 0 ts u
          s.RightParen (λ ps v l end. (v, sym (same_row ps v l).1))

      pub defaults_first : (w : Tokens) → defaults_last (parameters_view found.items) ≡ false
          → ParametersRead ts (Err e.Syntax) w
      defaults_first w h = λ ps v l end. true_is_false (sym (rows ps v l).1 ∙ ap defaults_last (same_row ps v l).0 ∙ h)

      pub parameters_read : (q : Tokens) → u ≡ cut.sign s.RightParen ∷ q
          → defaults_last (parameters_view found.items) ≡ true → ParametersRead ts (Ok found) q
      parameters_read q is h = (
        (
          row.0.0 ++ (cut.sign s.RightParen ∷ []),
          row.0.1 ∙ ap (λ z. row.0.0 ++ z) is ∙ sym (append_assoc row.0.0 (cut.sign s.RightParen ∷ []) q),
          some_parameters row.0.2 h,
        ),
        omega arith,
        λ b v l any. let same = same_row b v l in (same.0, behind (cut.sign s.RightParen) u v q (sym same.1) is),
      )
