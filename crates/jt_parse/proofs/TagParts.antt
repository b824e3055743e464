-- The contract of each part of a tag, from the contracts of its own parts.
use Rattle.std.proofs.Common.{◌≡◌, ℕ, Bool, true, false, [], ◌∷◌, ◌++◌, codes, encode_utf8_all, refl, sym, ap, subst}
use Rattle.std.proofs.Common.{◌∙◌, arith, Option, Some, None, option_map, Result, Ok, Err, String, Global, string_bytes}
use Rattle.std.specs.Prelude.{unwrap_or}
use Rattle.jt_scan.specs.declared.segment.Sign.TheVariants as s
use Rattle.jt_scan.specs.Cut as cut
use Rattle.jt_scan.specs.Cut.{Token}
use Rattle.jt_expr.specs.declared.error.ExprError.{ExprError}
use Rattle.jt_expr.specs.declared.error.ExprError.TheVariants as e
use Rattle.jt_ast.specs.declared.expression.Expr.{Expr as Tree}
use Rattle.jt_ast.specs.declared.expression.Literal.{Literal as Constant}
use Rattle.jt_expr.specs.declared.part.LeveledList.{LeveledList as Row}
use Rattle.jt_ast.specs.Expressions.{Literal, Expr, Exprs, Pairs, levels, Text}
use Rattle.jt_expr.specs.Grammar.{Tokens, word, is_reserved, whole, Spells, Arguments}
use Rattle.jt_expr.specs.Promises.{Leads, Reads, EndsAt, the_end, OpensNone, parts_levels, parts_view}
use Rattle.jt_ast.specs.ExpressionView.{expr_view, literal_view}
use Rattle.jt_expr.specs.Cursor.{TakesSign}
use Rattle.jt_ast.specs.Statements.{Parameter, FilterCall, condition_levels}
use Rattle.jt_parse.specs.Tags.{IsName, IsValue, a_value, IsFilterCall, a_filter, literal_token, IsParameter, plain}
use Rattle.jt_parse.specs.Tags.{with_default, Condition, no_condition, a_condition, Context, unsaid, with_context}
use Rattle.jt_parse.specs.Tags.{without_context, missing_words, IsImported, itself, renamed}
use Rattle.jt_parse.specs.internal.Readers.{Anything, NoToken, NoSign, NoWord, IsText, IsLiteral, IsDefault}
use Rattle.jt_parse.specs.internal.Readers.{IsGiven, GivesPair, value_levels, one_filter_call_levels}
use Rattle.jt_parse.specs.internal.Readers.{ReadsFlat}
use Rattle.jt_parse.specs.internal.HeadView.{value_view, imported_view}
use Rattle.jt_ast.specs.StatementView.{filter_call_view, parameter_view}
use Rattle.jt_ast.specs.declared.statement.FilterCall.{FilterCall as Filter}
use Rattle.jt_ast.specs.declared.statement.Parameter.{Parameter as Declared}
use Rattle.jt_parse.proofs.TokenPrefixes.{tokens_tail, behind, same_text, no_tokens, Whole, last_part, part_refused}
use Rattle.jt_parse.proofs.TokenPrefixes.{sign_refused, NameRead, leads_name, name_leads, behind_name}

-- ---- a = e

leads_value : (a : Text × Expr) (ts v : Tokens) → Leads IsValue a ts v
    → (x : Text) × (t : Expr) × (y : Tokens) × (ts ≡ cut.name x ∷ cut.sign s.Assign ∷ (y ++ v))
    × (is_reserved x ≡ false) × Spells whole t y × (a ≡ (encode_utf8_all x, t))
leads_value a ts v (z, is, a_value {x} {e = t} {y} h d) = (x, t, y, is, h, d, refl)

module _ (m : ℕ) (ts : Tokens) where
  abbrev ReadsValue : Result (String Global × Tree) ExprError → Tokens → Type 0
  ReadsValue = Reads value_view IsValue (EndsAt whole) value_levels m ts

  pub value_unnamed : (x : ExprError) (r w : Tokens) → NameRead ts (Err x) r → ReadsValue (Err x) w
  value_unnamed =
      part_refused (λ (n : String Global). string_bytes n) value_view IsName IsValue Anything (EndsAt whole) (λ a. 0)
      value_levels 0 m ts ts
      (λ c v l end. let p = leads_value c ts v l in (
        encode_utf8_all p.0,
        cut.sign s.Assign ∷ (p.2 ++ v),
        name_leads p.0 ts _ p.3 p.4,
        tt,
        λ less. absurd (omega (arith, less)),
      ))

  module _ (n : String Global) (u : Tokens) (named : NameRead ts (Ok n) u) where
    assigned : (a : Text × Expr) (v : Tokens) → Leads IsValue a ts v
        → (t : Expr) × (y : Tokens) × (u ≡ cut.sign s.Assign ∷ (y ++ v)) × Spells whole t y × (a ≡ (string_bytes n, t))
    assigned a v l =
        let p = leads_value a ts v l in
        let b = behind_name n ts u named p.0 (cut.sign s.Assign ∷ (p.2 ++ v)) p.3 p.4 in
        (p.1, p.2, sym b.1, p.5, p.6 ∙ ap (λ z. (z, p.1)) b.0)

    pub value_unassigned : (x : ExprError) (r w : Tokens) → TakesSign s.Assign u (Err x) r → ReadsValue (Err x) w
    value_unassigned =
        sign_refused value_view IsValue (EndsAt whole) value_levels m ts u s.Assign
        (λ c v l end. let p = assigned c v l in (p.1 ++ v, p.2))

    module _ (q : Tokens) (sign : u ≡ cut.sign s.Assign ∷ q) where
      given : (a : Text × Expr) (v : Tokens) → Leads IsValue a ts v
          → (t : Expr) × Leads (Spells whole) t q v × (a ≡ (string_bytes n, t))
      given a v l = let p = assigned a v l in (p.0, (p.1, behind (cut.sign s.Assign) u q (p.1 ++ v) sign p.2, p.3), p.4)

      given_out : (t : Expr) (v : Tokens) → Leads (Spells whole) t q v → Leads IsValue (string_bytes n, t) ts v
      given_out t v l =
          let x = leads_name (string_bytes n) ts u named.0 in
          subst (λ z. Leads IsValue (z, t) ts v) (sym x.3) (
            cut.name x.0 ∷ cut.sign s.Assign ∷ l.0,
            x.1 ∙ ap (λ z. cut.name x.0 ∷ z) (sign ∙ ap (λ z. cut.sign s.Assign ∷ z) l.1),
            a_value x.2 l.2,
          )

      pub value_last : (a : Result Tree ExprError) (w : Tokens)
          → Reads expr_view (Spells whole) (EndsAt whole) levels m q a w
          → Whole expr_view value_view (λ t. (string_bytes n, t)) IsValue (EndsAt whole) value_levels m ts a w
      value_last =
          last_part expr_view value_view (Spells whole) IsValue (EndsAt whole) (EndsAt whole) levels value_levels m m ts
          q (λ t. (string_bytes n, t)) (λ a v l end. given a v l) given_out (λ v end. end)
          (λ t le. le) (λ t less. less)

-- ---- f(a)

leads_filter_call : (a : FilterCall) (ts v : Tokens) → Leads IsFilterCall a ts v
    → (x : Text) × (es : Exprs) × (ps : Pairs) × (y : Tokens) × (ts ≡ cut.name x ∷ (y ++ v)) × (is_reserved x ≡ false)
    × Arguments (es, ps) y × (a ≡ record { name = encode_utf8_all x; arguments = es; keywords = ps })
leads_filter_call a ts v (z, is, a_filter {x} {ts = es} {ps} {y} h d) = (x, es, ps, y, is, h, d, refl)

abbrev filter_call_of : Text → Exprs × Pairs → FilterCall
filter_call_of x p = record { name = x; arguments = p.0; keywords = p.1 }

module _ (m : ℕ) (ts : Tokens) where
  abbrev ReadsFilterCall : Result Filter ExprError → Tokens → Type 0
  ReadsFilterCall = Reads filter_call_view IsFilterCall OpensNone one_filter_call_levels m ts

  pub filter_call_unnamed : (x : ExprError) (r w : Tokens) → NameRead ts (Err x) r → ReadsFilterCall (Err x) w
  filter_call_unnamed =
      part_refused (λ (n : String Global). string_bytes n) filter_call_view IsName IsFilterCall Anything OpensNone
      (λ a. 0) one_filter_call_levels 0 m ts ts
      (λ c v l end. let p = leads_filter_call c ts v l in
      (encode_utf8_all p.0, p.3 ++ v, name_leads p.0 ts _ p.4 p.5, tt, λ less. absurd (omega (arith, less))))

  module _ (n : String Global) (u : Tokens) (named : NameRead ts (Ok n) u) where
    called : (a : FilterCall) (v : Tokens) → Leads IsFilterCall a ts v
        → (p : Exprs × Pairs) × Leads Arguments p u v × (a ≡ filter_call_of (string_bytes n) p)
    called a v l =
        let p = leads_filter_call a ts v l in
        let b = behind_name n ts u named p.0 (p.3 ++ v) p.4 p.5 in
        ((p.1, p.2), (p.3, sym b.1, p.6), p.7 ∙ ap (λ z. filter_call_of z (p.1, p.2)) b.0)

    called_out : (p : Exprs × Pairs) (v : Tokens) → Leads Arguments p u v
        → Leads IsFilterCall (filter_call_of (string_bytes n) p) ts v
    called_out p v l =
        let x = leads_name (string_bytes n) ts u named.0 in
        subst (λ z. Leads IsFilterCall (filter_call_of z p) ts v) (sym x.3)
        (cut.name x.0 ∷ l.0, x.1 ∙ ap (λ z. cut.name x.0 ∷ z) l.1, a_filter x.2 l.2)

    pub filter_call_last : (a : Result Row ExprError) (w : Tokens)
        → Reads parts_view Arguments OpensNone parts_levels m u a w
        → Whole parts_view filter_call_view (filter_call_of (string_bytes n)) IsFilterCall OpensNone
        one_filter_call_levels m ts a w
    filter_call_last =
        last_part parts_view filter_call_view Arguments IsFilterCall OpensNone OpensNone parts_levels
        one_filter_call_levels m m ts u (filter_call_of (string_bytes n)) (λ a v l end. called a v l) called_out
        (λ v end. end)
        (λ p le. le) (λ p less. less)

-- ---- literals and defaults

some_same : {A : Type 0} (a b : A) → ◌≡◌ {A = Option A} (Some a) (Some b) → a ≡ b
some_same a b e = cc

none_some : {A G : Type 0} (a : A) → ◌≡◌ {A = Option A} None (Some a) → G
none_some a e = absurd (cc)

leads_literal : (l : Literal) (ts v : Tokens) → Leads IsLiteral l ts v
    → (t : Token) × (ts ≡ t ∷ v) × (literal_token t ≡ Some l)
leads_literal l ts v (x, is, d) = (d.0, is ∙ ap (λ z. z ++ v) d.1, d.2)

pub literal_read : (t : Token) (l : Constant) (ts u : Tokens) → ts ≡ t ∷ u → literal_token t ≡ Some (literal_view l)
    → ReadsFlat literal_view IsLiteral Anything ts (Ok l) u
literal_read t l ts u is h = (
  (t ∷ [], is, (t, refl, h)),
  omega arith,
  λ b v d any.
      let p = leads_literal b ts v d in
      let same = tokens_tail t p.0 u v (sym is ∙ p.1) in
      (some_same b (literal_view l) (sym p.2 ∙ ap literal_token (sym same.0) ∙ h), sym same.1),
)

pub no_literal : (t : Token) (ts u w : Tokens) → ts ≡ t ∷ u → literal_token t ≡ None
    → ReadsFlat literal_view IsLiteral Anything ts (Err e.Syntax) w
no_literal t ts u w is h = λ b v d any.
    let p = leads_literal b ts v d in
    let same = tokens_tail t p.0 u v (sym is ∙ p.1) in
    none_some b (sym h ∙ ap literal_token same.0 ∙ p.2)

pub no_token : (ts w : Tokens) → ts ≡ [] → ReadsFlat literal_view IsLiteral Anything ts (Err e.Syntax) w
no_token ts w is = λ b v d any. let p = leads_literal b ts v d in no_tokens p.0 v (sym is ∙ p.1)

module _ (ts : Tokens) where
  module _ (q : Tokens) (sign : ts ≡ cut.sign s.Assign ∷ q) where
    behind_sign : (b : Option Literal) (v : Tokens) → Leads IsDefault b ts v → NoSign s.Assign v
        → (l : Literal) × Leads IsLiteral l q v × (b ≡ Some l)
    behind_sign None v (x, is, d) end = absurd (end q (sym (is ∙ ap (λ z. z ++ v) d) ∙ sign))
    behind_sign (Some l) v (x, is, d) end = (
      l,
      (d.0 ∷ [], behind (cut.sign s.Assign) ts q (d.0 ∷ v) sign (is ∙ ap (λ z. z ++ v) d.1), (d.0, refl, d.2)),
      refl,
    )

    sign_out : (l : Literal) (v : Tokens) → Leads IsLiteral l q v → Leads IsDefault (Some l) ts v
    sign_out l v d =
        let p = leads_literal l q v d in
        (cut.sign s.Assign ∷ p.0 ∷ [], sign ∙ ap (λ z. cut.sign s.Assign ∷ z) p.1, (p.0, refl, p.2))

    pub default_last : (a : Result Constant ExprError) (w : Tokens) → ReadsFlat literal_view IsLiteral Anything q a w
        → Whole literal_view (option_map literal_view) (λ l. Some l) IsDefault (NoSign s.Assign) (λ a. 0) 0 ts a w
    default_last =
        last_part literal_view (option_map literal_view) IsLiteral IsDefault Anything (NoSign s.Assign) (λ a. 0)
        (λ a. 0) 0 0 ts q (λ l. Some l) behind_sign sign_out (λ v end. tt)
        (λ l le. le) (λ l less. less)

-- ---- a = 1

abbrev parameter_of : Text → Option Literal → Parameter
parameter_of x d = record { name = x; default = d }

leads_parameter : (a : Parameter) (ts v : Tokens) → Leads IsParameter a ts v
    → (x : Text) × (d : Option Literal) × (y : Tokens) × (ts ≡ cut.name x ∷ (y ++ v)) × (is_reserved x ≡ false)
    × IsDefault d y × (a ≡ parameter_of (encode_utf8_all x) d)
leads_parameter a ts v (z, is, plain {x} h) = (x, None, [], is, h, refl, refl)
leads_parameter a ts v (z, is, with_default {x} {l} {t} h j) =
    (x, Some l, cut.sign s.Assign ∷ t ∷ [], is, h, (t, refl, j), refl)

parameter_form : (x : Text) (d : Option Literal) (y : Tokens) → is_reserved x ≡ false → IsDefault d y
    → IsParameter (parameter_of (encode_utf8_all x) d) (cut.name x ∷ y)
parameter_form x None y h d =
    subst (λ z. IsParameter (parameter_of (encode_utf8_all x) None) (cut.name x ∷ z)) (sym d) (plain h)
parameter_form x (Some l) y h d =
    subst (λ z. IsParameter (parameter_of (encode_utf8_all x) (Some l)) (cut.name x ∷ z)) (sym d.1) (with_default h d.2)

module _ (ts : Tokens) where
  abbrev ReadsParameter : Result Declared ExprError → Tokens → Type 0
  ReadsParameter = ReadsFlat parameter_view IsParameter (NoSign s.Assign) ts

  pub parameter_unnamed : (x : ExprError) (r w : Tokens) → NameRead ts (Err x) r → ReadsParameter (Err x) w
  parameter_unnamed =
      part_refused (λ (n : String Global). string_bytes n) parameter_view IsName IsParameter Anything (NoSign s.Assign)
      (λ a. 0) (λ a. 0) 0 0 ts ts
      (λ c v l end. let p = leads_parameter c ts v l in
      (encode_utf8_all p.0, p.2 ++ v, name_leads p.0 ts _ p.3 p.4, tt, λ less. less))

  module _ (n : String Global) (u : Tokens) (named : NameRead ts (Ok n) u) where
    declared : (a : Parameter) (v : Tokens) → Leads IsParameter a ts v
        → (d : Option Literal) × Leads IsDefault d u v × (a ≡ parameter_of (string_bytes n) d)
    declared a v l =
        let p = leads_parameter a ts v l in
        let b = behind_name n ts u named p.0 (p.2 ++ v) p.3 p.4 in
        (p.1, (p.2, sym b.1, p.5), p.6 ∙ ap (λ z. parameter_of z p.1) b.0)

    declared_out : (d : Option Literal) (v : Tokens) → Leads IsDefault d u v
        → Leads IsParameter (parameter_of (string_bytes n) d) ts v
    declared_out d v l =
        let x = leads_name (string_bytes n) ts u named.0 in
        subst (λ z. Leads IsParameter (parameter_of z d) ts v) (sym x.3)
        (cut.name x.0 ∷ l.0, x.1 ∙ ap (λ z. cut.name x.0 ∷ z) l.1, parameter_form x.0 d l.0 x.2 l.2)

    pub parameter_last : (a : Result (Option Constant) ExprError) (w : Tokens)
        → ReadsFlat (option_map literal_view) IsDefault (NoSign s.Assign) u a w
        → Whole (option_map literal_view) parameter_view (parameter_of (string_bytes n)) IsParameter (NoSign s.Assign)
        (λ a. 0) 0 ts a w
    parameter_last =
        last_part (option_map literal_view) parameter_view IsDefault IsParameter (NoSign s.Assign) (NoSign s.Assign)
        (λ a. 0) (λ a. 0) 0 0 ts u (parameter_of (string_bytes n)) (λ a v l end. declared a v l) declared_out
        (λ v end. end)
        (λ d le. le) (λ d less. less)

-- ---- if c

module _ (m : ℕ) (ts : Tokens) where
  abbrev ReadsCondition : Result (Option Tree) ExprError → Tokens → Type 0
  ReadsCondition = Reads (option_map expr_view) Condition NoToken condition_levels m ts

  pub no_condition_read : NoWord (codes "if") ts → ReadsCondition (Ok None) ts
  no_condition_read none = (([], refl, no_condition), omega arith, λ b v l end. by b v l)
    where
      by : (b : Option Expr) (v : Tokens) → Leads Condition b ts v → (b ≡ None) × (v ≡ ts)
      by b v (x, is, no_condition) = (refl, sym is)
      by b v (x, is, a_condition {x = y} d) = absurd (none (y ++ v) is)

  module _ (q : Tokens) (said : ts ≡ word (codes "if") ∷ q) where
    conditioned : (b : Option Expr) (v : Tokens) → Leads Condition b ts v → v ≡ []
        → (c : Expr) × Leads (Spells whole) c q v × (b ≡ Some c)
    conditioned b v (x, is, no_condition) end = no_tokens (word (codes "if")) q (sym (is ∙ end) ∙ said)
    conditioned b v (x, is, a_condition {c} {x = y} d) end =
        (c, (y, behind (word (codes "if")) ts q (y ++ v) said is, d), refl)

    conditioned_out : (c : Expr) (v : Tokens) → Leads (Spells whole) c q v → Leads Condition (Some c) ts v
    conditioned_out c v l = (word (codes "if") ∷ l.0, said ∙ ap (λ z. word (codes "if") ∷ z) l.1, a_condition l.2)

    pub condition_last : (a : Result Tree ExprError) (w : Tokens)
        → Reads expr_view (Spells whole) (EndsAt whole) levels m q a w
        → Whole expr_view (option_map expr_view) (λ c. Some c) Condition NoToken condition_levels m ts a w
    condition_last =
        last_part expr_view (option_map expr_view) (Spells whole) Condition (EndsAt whole) NoToken levels
        condition_levels m m ts q (λ c. Some c) conditioned conditioned_out
        (λ v end. subst (EndsAt whole) (sym end) the_end)
        (λ c le. le) (λ c less. less)

-- ---- a text literal

abbrev pub TextRead : Tokens → Result (String Global) ExprError → Tokens → Type 0
TextRead = ReadsFlat string_bytes IsText Anything

pub leads_text : (a : Text) (ts v : Tokens) → Leads IsText a ts v
    → (x : Text) × (ts ≡ cut.text x ∷ v) × (a ≡ encode_utf8_all x)
leads_text a ts v (y, is, d) = (d.0, is ∙ ap (λ z. z ++ v) d.1, d.2)

pub text_read : (n : String Global) (x : Text) (ts u : Tokens) → ts ≡ cut.text x ∷ u
    → string_bytes n ≡ encode_utf8_all x → TextRead ts (Ok n) u
text_read n x ts u e is = (
  (cut.text x ∷ [], e, (x, refl, is)),
  omega arith,
  λ b v l any.
      let p = leads_text b ts v l in
      let same = tokens_tail (cut.text p.0) (cut.text x) v u (sym p.1 ∙ e) in
      (p.2 ∙ ap encode_utf8_all (same_text p.0 x same.0) ∙ sym is, same.1),
)

pub no_text : (ts w : Tokens) → ((x : Text) (u : Tokens) → ts ≡ cut.text x ∷ u → ⊥) → TextRead ts (Err e.Syntax) w
no_text ts w none = λ b v l any. let p = leads_text b ts v l in none p.0 v p.1

-- ---- ignore missing

abbrev pub IsMissing : Bool → Tokens → Type 0
IsMissing b x = x ≡ missing_words b

-- ---- with context

words_differ : {G : Type 0} (q v : Tokens) → ◌≡◌ {A = Tokens} (word (codes "with") ∷ q) (word (codes "without") ∷ v) → G
words_differ q v e = absurd (cc)

module _ (ts : Tokens) where
  abbrev ReadsContext : Result Bool ExprError → Tokens → Type 0
  ReadsContext = ReadsFlat (λ (b : Bool). b) Context NoToken ts

  pub context_unsaid : NoWord (codes "with") ts → NoWord (codes "without") ts → ReadsContext (Ok true) ts
  context_unsaid none other = (([], refl, unsaid), omega arith, λ b v l end. by b v l)
    where
      by : (b : Bool) (v : Tokens) → Leads Context b ts v → (b ≡ true) × (v ≡ ts)
      by b v (x, is, unsaid) = (refl, sym is)
      by b v (x, is, with_context) = absurd (none (word (codes "context") ∷ v) is)
      by b v (x, is, without_context) = absurd (other (word (codes "context") ∷ v) is)

  module _ (q : Tokens) (said : ts ≡ word (codes "with") ∷ q) where
    behind_with : (b : Bool) (v : Tokens) → Leads Context b ts v → v ≡ []
        → (b ≡ true) × (q ≡ word (codes "context") ∷ v)
    behind_with b v (x, is, unsaid) end = no_tokens (word (codes "with")) q (sym (is ∙ end) ∙ said)
    behind_with b v (x, is, with_context) end =
        (refl, behind (word (codes "with")) ts q (word (codes "context") ∷ v) said is)
    behind_with b v (x, is, without_context) end = words_differ q (word (codes "context") ∷ v) (sym said ∙ is)

    pub with_read : (u : Tokens) → q ≡ word (codes "context") ∷ u → ReadsContext (Ok true) u
    with_read u is = (
      (word (codes "with") ∷ word (codes "context") ∷ [], said ∙ ap (λ z. word (codes "with") ∷ z) is, with_context),
      omega arith,
      λ b v l end. let p = behind_with b v l end in (p.0, behind (word (codes "context")) q v u p.1 is),
    )

  module _ (q : Tokens) (said : ts ≡ word (codes "without") ∷ q) where
    behind_without : (b : Bool) (v : Tokens) → Leads Context b ts v → v ≡ []
        → (b ≡ false) × (q ≡ word (codes "context") ∷ v)
    behind_without b v (x, is, unsaid) end = no_tokens (word (codes "without")) q (sym (is ∙ end) ∙ said)
    behind_without b v (x, is, with_context) end = words_differ (word (codes "context") ∷ v) q (sym is ∙ said)
    behind_without b v (x, is, without_context) end =
        (refl, behind (word (codes "without")) ts q (word (codes "context") ∷ v) said is)

    pub without_read : (u : Tokens) → q ≡ word (codes "context") ∷ u → ReadsContext (Ok false) u
    without_read u is = (
      (
        word (codes "without") ∷ word (codes "context") ∷ [],
        said ∙ ap (λ z. word (codes "without") ∷ z) is,
        without_context,
      ),
      omega arith,
      λ b v l end. let p = behind_without b v l end in (p.0, behind (word (codes "context")) q v u p.1 is),
    )

-- ---- as b

leads_given : (a : Option Text) (ts v : Tokens) → Leads IsGiven a ts v → NoWord (codes "as") v → (q : Tokens)
    → ts ≡ word (codes "as") ∷ q → (n : Text) × Leads IsName n q v × (a ≡ Some n)
leads_given None ts v (x, is, d) end q said = absurd (end q (sym (is ∙ ap (λ z. z ++ v) d) ∙ said))
leads_given (Some n) ts v (x, is, d) end q said = (
  n,
  subst (λ z. Leads IsName z q v) (sym d.3) (name_leads d.0 q v
      (behind (word (codes "as")) ts q (cut.name d.0 ∷ v) said (is ∙ ap (λ z. z ++ v) d.1)) d.2),
  refl,
)

module _ (ts : Tokens) where
  abbrev ReadsGiven : Result (Option (String Global)) ExprError → Tokens → Type 0
  ReadsGiven = ReadsFlat (option_map string_bytes) IsGiven (NoWord (codes "as")) ts

  pub not_given : NoWord (codes "as") ts → ReadsGiven (Ok None) ts
  not_given none = (([], refl, refl), omega arith, λ b v l end. by b v l)
    where
      by : (b : Option Text) (v : Tokens) → Leads IsGiven b ts v → (b ≡ None) × (v ≡ ts)
      by None v (x, is, d) = (refl, sym (is ∙ ap (λ z. z ++ v) d))
      by (Some n) v (x, is, d) = absurd (none (cut.name d.0 ∷ v) (is ∙ ap (λ z. z ++ v) d.1))

  module _ (q : Tokens) (said : ts ≡ word (codes "as") ∷ q) where
    given_out_of : (n : Text) (v : Tokens) → Leads IsName n q v → Leads IsGiven (Some n) ts v
    given_out_of n v l =
        let p = leads_name n q v l in
        (word (codes "as") ∷ cut.name p.0 ∷ [], said ∙ ap (λ z. word (codes "as") ∷ z) p.1, (p.0, refl, p.2, p.3))

    pub given_last : (a : Result (String Global) ExprError) (w : Tokens) → NameRead q a w
        → Whole (string_bytes {Z = Global}) (option_map (string_bytes {Z = Global})) (λ n. Some n) IsGiven
        (NoWord (codes "as")) (λ a. 0) 0 ts a w
    given_last =
        last_part (string_bytes {Z = Global}) (option_map (string_bytes {Z = Global})) IsName IsGiven Anything
        (NoWord (codes "as")) (λ a. 0) (λ a. 0) 0 0 ts q (λ n. Some n) (λ c v l end. leads_given c ts v l end q said)
        given_out_of (λ v end. tt)
        (λ n le. le) (λ n less. less)

-- ---- a as b

abbrev imported_of : Text → Option Text → Text × Text
imported_of x d = (x, unwrap_or d x)

leads_imported : (a : Text × Text) (ts v : Tokens) → Leads IsImported a ts v
    → (x : Text) × (d : Option Text) × (y : Tokens) × (ts ≡ cut.name x ∷ (y ++ v)) × (is_reserved x ≡ false)
    × IsGiven d y × (a ≡ imported_of (encode_utf8_all x) d)
leads_imported a ts v (z, is, itself {x} h) = (x, None, [], is, h, refl, refl)
leads_imported a ts v (z, is, renamed {x} {y} h i) =
    (x, Some (encode_utf8_all y), word (codes "as") ∷ cut.name y ∷ [], is, h, (y, refl, i, refl), refl)

imported_form : (x : Text) (d : Option Text) (y : Tokens) → is_reserved x ≡ false → IsGiven d y
    → IsImported (imported_of (encode_utf8_all x) d) (cut.name x ∷ y)
imported_form x None y h d =
    subst (λ z. IsImported (encode_utf8_all x, encode_utf8_all x) (cut.name x ∷ z)) (sym d) (itself h)
imported_form x (Some n) y h d =
    subst (λ z. IsImported (encode_utf8_all x, z) (cut.name x ∷ y)) (sym d.3)
    (subst (λ z. IsImported (encode_utf8_all x, encode_utf8_all d.0) (cut.name x ∷ z)) (sym d.1) (renamed h d.2))

module _ (ts : Tokens) where
  abbrev ReadsImported : Result (String Global × String Global) ExprError → Tokens → Type 0
  ReadsImported = ReadsFlat imported_view IsImported (NoWord (codes "as")) ts

  pub imported_unnamed : (x : ExprError) (r w : Tokens) → NameRead ts (Err x) r → ReadsImported (Err x) w
  imported_unnamed =
      part_refused (λ (n : String Global). string_bytes n) imported_view IsName IsImported Anything
      (NoWord (codes "as")) (λ a. 0) (λ a. 0) 0 0 ts ts
      (λ c v l end.
      let p = leads_imported c ts v l in (encode_utf8_all p.0, p.2 ++ v, name_leads p.0 ts _ p.3 p.4, tt, λ less. less))

  module _ (n : String Global) (u : Tokens) (named : NameRead ts (Ok n) u) where
    renaming : (a : Text × Text) (v : Tokens) → Leads IsImported a ts v
        → (d : Option Text) × Leads IsGiven d u v × (a ≡ imported_of (string_bytes n) d)
    renaming a v l =
        let p = leads_imported a ts v l in
        let b = behind_name n ts u named p.0 (p.2 ++ v) p.3 p.4 in
        (p.1, (p.2, sym b.1, p.5), p.6 ∙ ap (λ z. imported_of z p.1) b.0)

    renaming_out : (d : Option Text) (v : Tokens) → Leads IsGiven d u v
        → Leads IsImported (imported_of (string_bytes n) d) ts v
    renaming_out d v l =
        let x = leads_name (string_bytes n) ts u named.0 in
        subst (λ z. Leads IsImported (imported_of z d) ts v) (sym x.3)
        (cut.name x.0 ∷ l.0, x.1 ∙ ap (λ z. cut.name x.0 ∷ z) l.1, imported_form x.0 d l.0 x.2 l.2)

    pub imported_last : (a : Result (Option (String Global)) ExprError) (w : Tokens)
        → ReadsFlat (option_map string_bytes) IsGiven (NoWord (codes "as")) u a w
        → Whole (option_map string_bytes) imported_view (imported_of (string_bytes n)) IsImported (NoWord (codes "as"))
        (λ a. 0) 0 ts a w
    imported_last =
        last_part (option_map string_bytes) imported_view IsGiven IsImported (NoWord (codes "as")) (NoWord (codes "as"))
        (λ a. 0) (λ a. 0) 0 0 ts u (imported_of (string_bytes n)) (λ a v l end. renaming a v l) renaming_out
        (λ v end. end)
        (λ d le. le) (λ d less. less)

    pub imported_done : (d : Option (String Global)) (w : Tokens)
        → ReadsFlat (option_map string_bytes) IsGiven (NoWord (codes "as")) u (Ok d) w
        → (r : Result (String Global × String Global) ExprError)
        → GivesPair (string_bytes n) (option_map string_bytes d) r → ReadsImported r w
    imported_done d w g (Ok p) is = imported_last (Ok d) w g p is
    imported_done d w g (Err e.Syntax) is = absurd is
    imported_done d w g (Err e.TooDeep) is = absurd is
    imported_done d w g (Err e.NoMemory) is = tt
