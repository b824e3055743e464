-- The contract of each kind of first tag, from the contracts of its parts.
use Rattle.std.proofs.Common.{◌≡◌, ℕ, suc, ◌<◌, ◌≤◌, Bool, true, false, List, [], ◌∷◌, ◌++◌, length, codes, bytes_eq}
use Rattle.std.proofs.Common.{encode_utf8_all, refl, sym, ap, subst, ◌∙◌, append_assoc, append-nil, arith, Option}
use Rattle.std.proofs.Common.{option_map, Result, Ok, Err, String, Global, Vec, string_bytes}
use Rattle.jt_scan.specs.declared.segment.Sign.TheVariants as s
use Rattle.jt_scan.specs.Cut as cut
use Rattle.jt_expr.specs.declared.error.ExprError.{ExprError}
use Rattle.jt_expr.specs.declared.error.ExprError.TheVariants as e
use Rattle.jt_ast.specs.declared.expression.Expr.{Expr as Tree}
use Rattle.jt_ast.specs.Expressions.{Expr, Pairs, pair, levels, pairs_levels, Text}
use Rattle.jt_expr.specs.Grammar.{Tokens, word, is_reserved, whole, disjunction, Spells}
use Rattle.jt_expr.specs.Front.{says, past}
use Rattle.jt_expr.specs.Promises.{Leads, Reads, EndsAt, the_end, an_if}
use Rattle.jt_ast.specs.ExpressionView.{expr_view, pairs_view}
use Rattle.jt_expr.specs.Cursor.{TakesSign}
use Rattle.jt_ast.specs.Statements as trees
use Rattle.jt_ast.specs.Statements.{FilterCall, Parameter, condition_levels, filter_call_levels}
use Rattle.jt_parse.specs.Tags as tags
use Rattle.jt_parse.specs.Tags.{Separated, only, also, IsName, a_name, IsValue, pairs_of, Values, no_values}
use Rattle.jt_parse.specs.Tags.{some_values, IsFilterCall, Parameters, Condition, no_condition, a_condition, flag}
use Rattle.jt_parse.specs.Tags.{Context, missing_words, IsImported, without_words, truth_word, Head, a_loop}
use Rattle.jt_parse.specs.Tags.{a_statement, an_opening, a_text, values, filters, escaping, a_macro, a_block, Says}
use Rattle.jt_parse.specs.Tags.{says_if, says_for, says_set, says_text, says_with, says_filter, says_autoescape}
use Rattle.jt_parse.specs.Tags.{says_macro, says_include, says_import, says_from, says_extends, says_block, head_levels}
use Rattle.jt_parse.specs.internal.Readers.{TakesWord, Anything, NoToken, NoSign, NoWord, NoImported, IsText, IsWithout}
use Rattle.jt_parse.specs.internal.Readers.{value_levels, one_filter_call_levels, most, ReadsFlat, ReadsHead, GivesText}
use Rattle.jt_ast.specs.StatementView.{names_view, given_view, filter_calls_view, parameters_view}
use Rattle.jt_parse.specs.internal.HeadView.{values_view, head_view}
use Rattle.jt_parse.specs.declared.opening_tags.Head.{Head as Read}
use Rattle.jt_ast.specs.declared.statement.FilterCall.{FilterCall as Filter}
use Rattle.jt_ast.specs.declared.statement.Parameter.{Parameter as Declared}
use Rattle.jt_parse.proofs.TokenPrefixes.{tokens_tail, behind, same_name, no_length, no_tokens, part_refused}
use Rattle.jt_parse.proofs.TokenPrefixes.{sign_refused, word_refused, Whole, last_part, NameRead, leads_name}
use Rattle.jt_parse.proofs.TokenPrefixes.{name_leads, behind_name}
use Rattle.jt_parse.proofs.ParameterLists.{ParametersRead}
use Rattle.jt_parse.proofs.TagParts.{TextRead, leads_text, IsMissing}

-- ---- the tokens after the first word

abbrev IfHead : Head → Tokens → Type 0
IfHead h x = (c : Expr) × Spells whole c x × (h ≡ tags.an_if c)

abbrev loop_of : List Text → Expr → Option Expr → Head
loop_of ts c d = a_loop (record { targets = ts; over = c; condition = d })

abbrev ForHead : Head → Tokens → Type 0
ForHead h x =
    (ts : List Text) × (c : Expr) × (d : Option Expr) × (p : Tokens) × (q : Tokens) × (r : Tokens)
    × (x ≡ p ++ (word (codes "in") ∷ (q ++ r))) × Separated IsName s.Comma ts p × Spells disjunction c q × Condition d r
    × (h ≡ loop_of ts c d)

data SetHead (line : ℕ) (h : Head) (x : Tokens) : Type 0 where
  to_value : (ts : List Text) (c : Expr) (p q : Tokens) → x ≡ p ++ (cut.sign s.Assign ∷ q)
      → Separated IsName s.Comma ts p → Spells whole c q → h ≡ a_statement (trees.set line ts c) → SetHead line h x
  to_text : (n : Text) → x ≡ cut.name n ∷ [] → is_reserved n ≡ false → h ≡ an_opening (a_text (encode_utf8_all n))
      → SetHead line h x

abbrev WithHead : Head → Tokens → Type 0
WithHead h x = (ps : Pairs) × Values ps x × (h ≡ an_opening (values ps))

abbrev FilterHead : Head → Tokens → Type 0
FilterHead h x = (fs : List FilterCall) × Separated IsFilterCall s.Pipe fs x × (h ≡ an_opening (filters fs))

abbrev AutoescapeHead : Head → Tokens → Type 0
AutoescapeHead h x = (on : Bool) × (x ≡ word (truth_word on) ∷ []) × (h ≡ an_opening (escaping on))

abbrev MacroHead : Head → Tokens → Type 0
MacroHead h x =
    (n : Text) × (ps : List Parameter) × (y : Tokens) × (x ≡ cut.name n ∷ cut.sign s.LeftParen ∷ y)
    × (is_reserved n ≡ false) × Parameters ps y × (h ≡ an_opening (a_macro (encode_utf8_all n) ps))

abbrev IncludeHead : ℕ → Head → Tokens → Type 0
IncludeHead line h x =
    (n : Text) × (missing : Bool) × (context : Bool) × (y : Tokens) × (x ≡ cut.text n ∷ (missing_words missing ++ y))
    × Context context y × (h ≡ a_statement (trees.include line (encode_utf8_all n) missing context))

abbrev ImportHead : ℕ → Head → Tokens → Type 0
ImportHead line h x =
    (n : Text) × (a : Text) × (said : Bool) × (x ≡ cut.text n ∷ word (codes "as") ∷ cut.name a ∷ without_words said)
    × (is_reserved a ≡ false) × (h ≡ a_statement (trees.import_as line (encode_utf8_all n) (encode_utf8_all a)))

abbrev FromHead : ℕ → Head → Tokens → Type 0
FromHead line h x =
    (n : Text) × (xs : List (Text × Text)) × (y : Tokens) × (said : Bool)
    × (x ≡ cut.text n ∷ word (codes "import") ∷ (y ++ without_words said)) × Separated IsImported s.Comma xs y
    × (h ≡ a_statement (trees.import_from line (encode_utf8_all n) xs))

abbrev ExtendsHead : ℕ → Head → Tokens → Type 0
ExtendsHead line h x = (n : Text) × (x ≡ cut.text n ∷ []) × (h ≡ a_statement (trees.extends line (encode_utf8_all n)))

abbrev flags : Bool → Bool → Tokens
flags scoped required = flag scoped (codes "scoped") ++ flag required (codes "required")

abbrev BlockHead : Head → Tokens → Type 0
BlockHead h x =
    (n : Text) × (scoped : Bool) × (required : Bool) × (x ≡ cut.name n ∷ flags scoped required)
    × (is_reserved n ≡ false) × (h ≡ an_opening (a_block (encode_utf8_all n) scoped required))

abbrev Where : Bool → Type 0 → Type 0 → Type 0
Where true A B = A
Where false A B = B

-- The first tag that a word begins.
abbrev HeadOf : ℕ → List ℕ → Head → Tokens → Type 0
HeadOf line w h x =
    Where (bytes_eq w (codes "if")) (IfHead h x)
    (Where (bytes_eq w (codes "for")) (ForHead h x)
    (Where (bytes_eq w (codes "set")) (SetHead line h x)
    (Where (bytes_eq w (codes "with")) (WithHead h x)
    (Where (bytes_eq w (codes "filter")) (FilterHead h x)
    (Where (bytes_eq w (codes "autoescape")) (AutoescapeHead h x)
    (Where (bytes_eq w (codes "macro")) (MacroHead h x)
    (Where (bytes_eq w (codes "include")) (IncludeHead line h x)
    (Where (bytes_eq w (codes "extends")) (ExtendsHead line h x)
    (Where (bytes_eq w (codes "block")) (BlockHead h x)
    (Where (bytes_eq w (codes "import")) (ImportHead line h x)
    (Where (bytes_eq w (codes "from")) (FromHead line h x) ⊥)))))))))))

moved : (P : List ℕ → Tokens → Type 0) (v w : List ℕ) (y x : Tokens) → ◌≡◌ {A = Tokens} (word v ∷ y) (word w ∷ x)
    → P v y → P w x
moved P v w y x e p =
    let q = tokens_tail (word v) (word w) y x e in subst (λ a. P a x) (same_name v w q.0) (subst (P v) q.1 p)

opened : (line : ℕ) (w : List ℕ) (h : Head) (x z : Tokens) → z ≡ word w ∷ x → Says line h z → HeadOf line w h x
opened line w h x z e (says_if {c} {x = y} d) = moved (λ a b. HeadOf line a h b) (codes "if") w y x e (c, d, refl)
opened line w h x z e (says_for {ts} {e = c} {c = f} {x = p} {y = q} {z = r} a b d) =
    moved (λ a b. HeadOf line a h b) (codes "for") w (p ++ (word (codes "in") ∷ (q ++ r))) x e
    (ts, c, f, p, q, r, refl, a, b, d, refl)
opened line w h x z e (says_set {ts} {e = c} {x = p} {y = q} a d) =
    moved (λ a b. HeadOf line a h b) (codes "set") w (p ++ (cut.sign s.Assign ∷ q)) x e
    (to_value ts c p q refl a d refl)
opened line w h x z e (says_text {x = n} r) =
    moved (λ a b. HeadOf line a h b) (codes "set") w (cut.name n ∷ []) x e (to_text n refl r refl)
opened line w h x z e (says_with {ps} {x = y} d) = moved (λ a b. HeadOf line a h b) (codes "with") w y x e (ps, d, refl)
opened line w h x z e (says_filter {fs} {x = y} d) =
    moved (λ a b. HeadOf line a h b) (codes "filter") w y x e (fs, d, refl)
opened line w h x z e (says_autoescape on) =
    moved (λ a b. HeadOf line a h b) (codes "autoescape") w (word (truth_word on) ∷ []) x e (on, refl, refl)
opened line w h x z e (says_macro {x = n} {ps} {y} r d) =
    moved (λ a b. HeadOf line a h b) (codes "macro") w (cut.name n ∷ cut.sign s.LeftParen ∷ y) x e
    (n, ps, y, refl, r, d, refl)
opened line w h x z e (says_include {v = n} {context} {y} missing d) =
    moved (λ a b. HeadOf line a h b) (codes "include") w (cut.text n ∷ (missing_words missing ++ y)) x e
    (n, missing, context, y, refl, d, refl)
opened line w h x z e (says_import {v = n} {x = a} said r) =
    moved (λ a b. HeadOf line a h b) (codes "import") w
    (cut.text n ∷ word (codes "as") ∷ cut.name a ∷ without_words said) x e (n, a, said, refl, r, refl)
opened line w h x z e (says_from {v = n} {xs} {x = y} said d) =
    moved (λ a b. HeadOf line a h b) (codes "from") w (cut.text n ∷ word (codes "import") ∷ (y ++ without_words said)) x
    e (n, xs, y, said, refl, d, refl)
opened line w h x z e (says_extends {v = n}) =
    moved (λ a b. HeadOf line a h b) (codes "extends") w (cut.text n ∷ []) x e (n, refl, refl)
opened line w h x z e (says_block {x = n} scoped required r) =
    moved (λ a b. HeadOf line a h b) (codes "block") w (cut.name n ∷ flags scoped required) x e
    (n, scoped, required, refl, r, refl)

abbrev Behind : ℕ → List ℕ → Head → Tokens → Type 0
Behind line w h x = Says line h (word w ∷ x)

inside : (line : ℕ) (w : List ℕ) (h : Head) (ts v : Tokens) → Leads (Behind line w) h ts v
    → Leads (HeadOf line w) h ts v
inside line w h ts v l = (l.0, l.1, opened line w h l.0 (word w ∷ l.0) refl l.2)

-- The contract of a tag, given the result of its last part.
abbrev pub HeadBy : {Q B : Type 0} → (Q → B) → (B → Head) → ℕ → ℕ → List ℕ → Tokens → Result Q ExprError → Tokens
    → Type 0
HeadBy show made line m w ts q rest = Whole show head_view made (Behind line w) NoToken head_levels (suc m) ts q rest

at_end : (v : Tokens) → v ≡ [] → EndsAt whole v
at_end v e = subst (EndsAt whole) (sym e) the_end

-- ---- if c

module _ (line m : ℕ) (ts : Tokens) where
  if_in : (h : Head) (v : Tokens) → Leads (Behind line (codes "if")) h ts v → v ≡ []
      → (c : Expr) × Leads (Spells whole) c ts v × (h ≡ tags.an_if c)
  if_in h v l end = let p = inside line (codes "if") h ts v l in (p.2.0, (p.0, p.1, p.2.1), p.2.2)

  if_out : (c : Expr) (v : Tokens) → Leads (Spells whole) c ts v → Leads (Behind line (codes "if")) (tags.an_if c) ts v
  if_out c v l = (l.0, l.1, says_if l.2)

  pub if_last : (a : Result Tree ExprError) (w : Tokens) → Reads expr_view (Spells whole) (EndsAt whole) levels m ts a w
      → HeadBy expr_view tags.an_if line m (codes "if") ts a w
  if_last =
      last_part expr_view head_view (Spells whole) (Behind line (codes "if")) (EndsAt whole) NoToken levels head_levels
      m (suc m) ts ts tags.an_if if_in if_out at_end
      (λ c le. omega (arith, le)) (λ c less. omega (arith, less))

-- ---- for a, b in e if c

not_comma : (w : List ℕ) (v : Tokens) → NoSign s.Comma (word w ∷ v)
not_comma w v u e = cc

sign_not_comma : (v : Tokens) → NoSign s.Comma (cut.sign s.Assign ∷ v)
sign_not_comma v u e = cc

condition_ends : (d : Option Expr) (r v : Tokens) → Condition d r → v ≡ [] → EndsAt disjunction (r ++ v)
condition_ends d r v no_condition e = subst (EndsAt disjunction) (sym e) the_end
condition_ends d r v (a_condition {x = y} c) e = an_if

abbrev NamesRead : Tokens → Result (Vec (String Global) Global) ExprError → Tokens → Type 0
NamesRead =
    ReadsFlat (λ (v : Vec (String Global) Global). names_view v.items) (Separated IsName s.Comma) (NoSign s.Comma)

module _ (line m : ℕ) (ts : Tokens) where
  for_in : (h : Head) (v : Tokens) → Leads (Behind line (codes "for")) h ts v
      → (ns : List Text) × (c : Expr) × (d : Option Expr) × (q : Tokens) × (r : Tokens)
      × Leads (Separated IsName s.Comma) ns ts (word (codes "in") ∷ (q ++ (r ++ v))) × Spells disjunction c q
      × Condition d r × (h ≡ loop_of ns c d)
  for_in h v l =
      let p = inside line (codes "for") h ts v l in
      let f = p.2 in (
        f.0,
        f.1,
        f.2,
        f.4,
        f.5,
        (
          f.3,
          p.1 ∙ ap (λ z. z ++ v) f.6 ∙ append_assoc f.3 (word (codes "in") ∷ (f.4 ++ f.5)) v
              ∙ ap (λ z. f.3 ++ (word (codes "in") ∷ z)) (append_assoc f.4 f.5 v),
          f.7,
        ),
        f.8,
        f.9,
        f.10,
      )

  pub for_unnamed : (x : ExprError) (r w : Tokens) → NamesRead ts (Err x) r
      → ReadsHead line m (codes "for") ts (Err x) w
  for_unnamed =
      part_refused (λ (v : Vec (String Global) Global). names_view v.items) head_view (Separated IsName s.Comma)
      (Behind line (codes "for")) (NoSign s.Comma) NoToken (λ a. 0) head_levels 0 (suc m) ts ts
      (λ h v l end. let f = for_in h v l in (
        f.0,
        word (codes "in") ∷ (f.3 ++ (f.4 ++ v)),
        f.5,
        not_comma (codes "in") (f.3 ++ (f.4 ++ v)),
        λ less. absurd (omega (arith, less)),
      ))

  module _ (ns : Vec (String Global) Global) (u : Tokens) (named : NamesRead ts (Ok ns) u) where
    over_in : (h : Head) (v : Tokens) → Leads (Behind line (codes "for")) h ts v
        → (c : Expr) × (d : Option Expr) × (q : Tokens) × (r : Tokens) × (u ≡ word (codes "in") ∷ (q ++ (r ++ v)))
        × Spells disjunction c q × Condition d r × (h ≡ loop_of (names_view ns.items) c d)
    over_in h v l =
        let f = for_in h v l in
        let same =
        named.2 f.0 (word (codes "in") ∷ (f.3 ++ (f.4 ++ v))) f.5 (not_comma (codes "in") (f.3 ++ (f.4 ++ v))) in
        (f.1, f.2, f.3, f.4, sym same.1, f.6, f.7, f.8 ∙ ap (λ z. loop_of z f.1 f.2) same.0)

    pub for_without_in : (x : ExprError) (r w : Tokens) → TakesWord (codes "in") u (Err x) r
        → ReadsHead line m (codes "for") ts (Err x) w
    for_without_in =
        word_refused head_view (Behind line (codes "for")) NoToken head_levels (suc m) ts u (codes "in")
        (λ h v l end. let f = over_in h v l in (f.2 ++ (f.3 ++ v), f.4))

    module _ (q : Tokens) (said : u ≡ word (codes "in") ∷ q) where
      pub for_over_none : (x : ExprError) (r w : Tokens)
          → Reads expr_view (Spells disjunction) (EndsAt disjunction) levels m q (Err x) r
          → ReadsHead line m (codes "for") ts (Err x) w
      for_over_none =
          part_refused expr_view head_view (Spells disjunction) (Behind line (codes "for")) (EndsAt disjunction) NoToken
          levels head_levels m (suc m) ts q
          (λ h v l end.
          let f = over_in h v l in (
            f.0,
            f.3 ++ v,
            (f.2, behind (word (codes "in")) u q (f.2 ++ (f.3 ++ v)) said f.4, f.5),
            condition_ends f.1 f.3 v f.6 end,
            λ less. subst (λ z. suc m < head_levels z) (sym f.7) (omega (arith, less)),
          ))

      module _ (t : Tree) (b : Tokens)
          (over : Reads expr_view (Spells disjunction) (EndsAt disjunction) levels m q (Ok t) b) where
        rest_in : (h : Head) (v : Tokens) → Leads (Behind line (codes "for")) h ts v → v ≡ []
            → (d : Option Expr) × Leads Condition d b v × (h ≡ loop_of (names_view ns.items) (expr_view t) d)
        rest_in h v l end =
            let f = over_in h v l in
            let same = over.2 f.0 (f.3 ++ v) (f.2, behind (word (codes "in")) u q (f.2 ++ (f.3 ++ v)) said f.4, f.5)
            (condition_ends f.1 f.3 v f.6 end) in
            (f.1, (f.3, sym same.1, f.6), f.7 ∙ ap (λ z. loop_of (names_view ns.items) z f.1) same.0)

        rest_out : (d : Option Expr) (v : Tokens) → Leads Condition d b v
            → Leads (Behind line (codes "for")) (loop_of (names_view ns.items) (expr_view t) d) ts v
        rest_out d v l =
            let x = named.0.0 in
            let y = over.0.0 in (
              x ++ (word (codes "in") ∷ (y ++ l.0)),
              named.0.1 ∙ ap (λ z. x ++ z) (said
                  ∙ ap (λ z. word (codes "in") ∷ z) (over.0.1 ∙ ap (λ z. y ++ z) l.1 ∙ sym (append_assoc y l.0 v)))
                  ∙ sym (append_assoc x (word (codes "in") ∷ (y ++ l.0)) v),
              says_for named.0.2 over.0.2 l.2,
            )

        pub for_last : (a : Result (Option Tree) ExprError) (w : Tokens)
            → Reads (option_map expr_view) Condition NoToken condition_levels m b a w
            → HeadBy (option_map expr_view) (loop_of (names_view ns.items) (expr_view t)) line m (codes "for") ts a w
        for_last =
            last_part (option_map expr_view) head_view Condition (Behind line (codes "for")) NoToken NoToken
            condition_levels head_levels m (suc m) ts b (loop_of (names_view ns.items) (expr_view t)) rest_in rest_out
            (λ v end. end)
            (λ d le. omega (arith, le, over.1)) (λ d less. omega (arith, less))

-- ---- set a, b = e, and set a

some_parts : {A : Type 0} (One : A → Tokens → Type 0) (bs : List A) (y : Tokens) → Separated One s.Comma bs y → bs ≡ []
    → ⊥
some_parts One bs y (only d) e = cc
some_parts One bs y (also d g) e = cc

one_name : (a : Text) (ns : List Text) (z : Tokens) → ns ≡ a ∷ [] → Separated IsName s.Comma ns z
    → (n : Text) × (z ≡ cut.name n ∷ []) × (is_reserved n ≡ false) × (a ≡ encode_utf8_all n)
one_name a ns z e (only {a = b} {x} d) = by b x (cc) d
  where
    by : (b : Text) (x : Tokens) → b ≡ a → IsName b x
        → (n : Text) × (x ≡ cut.name n ∷ []) × (is_reserved n ≡ false) × (a ≡ encode_utf8_all n)
    by b x is (a_name {x = n} h) = (n, refl, h, sym is)
one_name a ns z e (also {bs} {y} d g) = absurd (some_parts IsName bs y g (cc))

module _ (line m : ℕ) (ts : Tokens) where
  -- The tag sets names to a value, or captures its body in a single name.
  data Sets (h : Head) (v : Tokens) : Type 0 where
    a_value : (ns : List Text) (c : Expr) (q : Tokens)
        → Leads (Separated IsName s.Comma) ns ts (cut.sign s.Assign ∷ (q ++ v)) → Spells whole c q
        → h ≡ a_statement (trees.set line ns c) → Sets h v
    a_capture : (a : Text) → Leads (Separated IsName s.Comma) (a ∷ []) ts v → h ≡ an_opening (a_text a) → Sets h v

  sets : (h : Head) (v : Tokens) → Leads (Behind line (codes "set")) h ts v → Sets h v
  sets h v l = let p = inside line (codes "set") h ts v l in by p.0 p.1 p.2
    where
      by : (x : Tokens) → ts ≡ x ++ v → SetHead line h x → Sets h v
      by x is (to_value ns c p q e d f j) =
          a_value ns c q (p, is ∙ ap (λ z. z ++ v) e ∙ append_assoc p (cut.sign s.Assign ∷ q) v, d) f j
      by x is (to_text n e d j) =
          a_capture (encode_utf8_all n)
          (x, is, subst (Separated IsName s.Comma (encode_utf8_all n ∷ [])) (sym e) (only (a_name d))) j

  no_comma : (v : Tokens) → v ≡ [] → NoSign s.Comma v
  no_comma v end w e = no_tokens (cut.sign s.Comma) w (sym end ∙ e)

  pub set_unnamed : (x : ExprError) (r w : Tokens) → NamesRead ts (Err x) r
      → ReadsHead line m (codes "set") ts (Err x) w
  set_unnamed =
      part_refused (λ (v : Vec (String Global) Global). names_view v.items) head_view (Separated IsName s.Comma)
      (Behind line (codes "set")) (NoSign s.Comma) NoToken (λ a. 0) head_levels 0 (suc m) ts ts
      (λ h v l end. by h v end (sets h v l))
    where
      by : (h : Head) (v : Tokens) → v ≡ [] → Sets h v
          → (a : List Text) × (w : Tokens) × Leads (Separated IsName s.Comma) a ts w × NoSign s.Comma w
          × (0 < 0 → suc m < head_levels h)
      by h v end (a_value ns c q l d j) =
          (ns, cut.sign s.Assign ∷ (q ++ v), l, sign_not_comma (q ++ v), λ less. absurd (omega (arith, less)))
      by h v end (a_capture a l j) = (a ∷ [], v, l, no_comma v end, λ less. absurd (omega (arith, less)))

  module _ (ns : Vec (String Global) Global) (u : Tokens) (named : NamesRead ts (Ok ns) u) where
    module _ (q : Tokens) (sign : u ≡ cut.sign s.Assign ∷ q) where
      set_in : (h : Head) (v : Tokens) → Leads (Behind line (codes "set")) h ts v → v ≡ []
          → (c : Expr) × Leads (Spells whole) c q v × (h ≡ a_statement (trees.set line (names_view ns.items) c))
      set_in h v l end = by (sets h v l)
        where
          by : Sets h v
              → (c : Expr) × Leads (Spells whole) c q v × (h ≡ a_statement (trees.set line (names_view ns.items) c))
          by (a_value xs c p l d j) =
              let same = named.2 xs (cut.sign s.Assign ∷ (p ++ v)) l (sign_not_comma (p ++ v)) in (
                c,
                (p, behind (cut.sign s.Assign) u q (p ++ v) sign (sym same.1), d),
                j ∙ ap (λ z. a_statement (trees.set line z c)) same.0,
              )
          by (a_capture a l j) =
              let same = named.2 (a ∷ []) v l (no_comma v end) in
              no_tokens (cut.sign s.Assign) q (sym end ∙ same.1 ∙ sign)

      set_out : (c : Expr) (v : Tokens) → Leads (Spells whole) c q v
          → Leads (Behind line (codes "set")) (a_statement (trees.set line (names_view ns.items) c)) ts v
      set_out c v l = (
        named.0.0 ++ (cut.sign s.Assign ∷ l.0),
        named.0.1 ∙ ap (λ z. named.0.0 ++ z) (sign ∙ ap (λ z. cut.sign s.Assign ∷ z) l.1)
            ∙ sym (append_assoc named.0.0 (cut.sign s.Assign ∷ l.0) v),
        says_set named.0.2 l.2,
      )

      pub set_last : (a : Result Tree ExprError) (w : Tokens)
          → Reads expr_view (Spells whole) (EndsAt whole) levels m q a w
          → HeadBy expr_view (λ c. a_statement (trees.set line (names_view ns.items) c)) line m (codes "set") ts a w
      set_last =
          last_part expr_view head_view (Spells whole) (Behind line (codes "set")) (EndsAt whole) NoToken levels
          head_levels m (suc m) ts q (λ c. a_statement (trees.set line (names_view ns.items) c)) set_in set_out at_end
          (λ c le. omega (arith, le)) (λ c less. omega (arith, less))

    module _ (none : (w : Tokens) → u ≡ cut.sign s.Assign ∷ w → ⊥) where
      captured : (h : Head) (v : Tokens) → Leads (Behind line (codes "set")) h ts v → v ≡ []
          → (a : Text) × (names_view ns.items ≡ a ∷ []) × (v ≡ u) × (h ≡ an_opening (a_text a))
      captured h v l end = by (sets h v l)
        where
          by : Sets h v → (a : Text) × (names_view ns.items ≡ a ∷ []) × (v ≡ u) × (h ≡ an_opening (a_text a))
          by (a_value xs c p l d j) =
              absurd (none (p ++ v) (sym (named.2 xs (cut.sign s.Assign ∷ (p ++ v)) l (sign_not_comma (p ++ v))).1))
          by (a_capture a l j) = let same = named.2 (a ∷ []) v l (no_comma v end) in (a, sym same.0, same.1, j)

      first_name : (a b : Text) → ◌≡◌ {A = List Text} (a ∷ []) (b ∷ []) → a ≡ b
      first_name a b e = cc

      pub captures : (r : Result Read ExprError) → GivesText (names_view ns.items) r
          → ReadsHead line m (codes "set") ts r u
      captures (Ok r) g =
          let n = one_name g.0 (names_view ns.items) named.0.0 g.1 named.0.2 in (
            subst (λ z. Leads (Behind line (codes "set")) z ts u) (sym (g.2 ∙ ap (λ z. an_opening (a_text z)) n.3))
                (cut.name n.0 ∷ [], named.0.1 ∙ ap (λ z. z ++ u) n.1, says_text n.2),
            subst (λ z. head_levels z ≤ suc m) (sym g.2) (omega arith),
            λ h v l end.
                let p = captured h v l end in
                (p.3 ∙ ap (λ z. an_opening (a_text z)) (first_name p.0 g.0 (sym p.1 ∙ g.1)) ∙ sym g.2, p.2),
          )
      captures (Err e.Syntax) g = λ h v l end. let p = captured h v l end in g p.0 p.1
      captures (Err e.TooDeep) g = absurd g
      captures (Err e.NoMemory) g = tt

-- ---- with a = e, b = f

pub values_pairs : (ps : List (String Global × Tree)) → pairs_of (values_view ps) ≡ pairs_view ps
values_pairs [] = refl
values_pairs (p ∷ ps) = ap (pair (string_bytes p.0) (expr_view p.1)) (values_pairs ps)

pairs_most : (vs : List (Text × Expr)) → pairs_levels (pairs_of vs) ≡ most value_levels vs
pairs_most [] = refl
pairs_most (v ∷ vs) = omega (arith, pairs_most vs)

abbrev with_of : List (Text × Expr) → Head
with_of vs = an_opening (values (pairs_of vs))

abbrev ValuesRead : ℕ → Tokens → Result (Vec (String Global × Tree) Global) ExprError → Tokens → Type 0
ValuesRead m =
    Reads (λ (v : Vec (String Global × Tree) Global). values_view v.items) (Separated IsValue s.Comma) NoToken
    (most value_levels) m

module _ (line m : ℕ) (ts : Tokens) where
  pub with_none : (r : Read) → head_view r ≡ with_of [] → length ts ≡ 0 → ReadsHead line m (codes "with") ts (Ok r) ts
  with_none r is short = let none : ts ≡ [] = no_length ts short in (
    subst (λ z. Leads (Behind line (codes "with")) z ts ts) (sym is) ([], refl, says_with no_values),
    subst (λ z. head_levels z ≤ suc m) (sym is) (omega arith),
    λ h v l end. let p = inside line (codes "with") h ts v l in (
      p.2.2 ∙ ap (λ ps. an_opening (values ps)) (by p.2.0 p.0 (front_empty p.0 v (sym none ∙ p.1)) p.2.1) ∙ sym is,
      end ∙ sym none,
    ),
  )
    where
      front_empty : (x v : Tokens) → ◌≡◌ {A = Tokens} [] (x ++ v) → x ≡ []
      front_empty [] v e = refl
      front_empty (t ∷ x) v e = no_tokens t (x ++ v) e

      no_row : {A : Type 0} (One : A → Tokens → Type 0) (some : (a : A) (y : Tokens) → One a y → y ≡ [] → ⊥)
          (vs : List A) (x : Tokens)
          → Separated One s.Comma vs x → x ≡ [] → ⊥
      no_row One some vs x (only {a} {x = y} d) e = some a y d e
      no_row One some vs x (also {a} {x = y} {y = z} d g) e = by y e
        where
          by : (y : Tokens) → y ++ (cut.sign s.Comma ∷ z) ≡ [] → ⊥
          by [] e = no_tokens (cut.sign s.Comma) z (sym e)
          by (t ∷ y) e = no_tokens t (y ++ (cut.sign s.Comma ∷ z)) (sym e)

      some_value : (a : Text × Expr) (y : Tokens) → IsValue a y → y ≡ [] → ⊥
      some_value a y (tags.a_value {x = n} {y = z} r d) e = no_tokens (cut.name n) (cut.sign s.Assign ∷ z) (sym e)

      by : (ps : Pairs) (x : Tokens) → x ≡ [] → Values ps x → ps ≡ pairs_of []
      by ps x e no_values = refl
      by ps x e (some_values {vs} d) = absurd (no_row IsValue some_value vs x d e)

  module _ (some : 0 < length ts) where
    with_in : (h : Head) (v : Tokens) → Leads (Behind line (codes "with")) h ts v → v ≡ []
        → (vs : List (Text × Expr)) × Leads (Separated IsValue s.Comma) vs ts v × (h ≡ with_of vs)
    with_in h v l end = let p = inside line (codes "with") h ts v l in by p.2.0 p.0 p.1 p.2.1 p.2.2
      where
        by : (ps : Pairs) (x : Tokens) → ts ≡ x ++ v → Values ps x → h ≡ an_opening (values ps)
            → (vs : List (Text × Expr)) × Leads (Separated IsValue s.Comma) vs ts v × (h ≡ with_of vs)
        by ps x is no_values e = let none : length ts ≡ 0 = ap length (is ∙ end) in absurd (omega (arith, none, some))
        by ps x is (some_values {vs} d) e = (vs, (x, is, d), e)

    with_out : (vs : List (Text × Expr)) (v : Tokens) → Leads (Separated IsValue s.Comma) vs ts v
        → Leads (Behind line (codes "with")) (with_of vs) ts v
    with_out vs v l = (l.0, l.1, says_with (some_values l.2))

    pub with_last : (a : Result (Vec (String Global × Tree) Global) ExprError) (w : Tokens) → ValuesRead m ts a w
        → HeadBy (λ (v : Vec (String Global × Tree) Global). values_view v.items) with_of line m (codes "with") ts a w
    with_last =
        last_part (λ (v : Vec (String Global × Tree) Global). values_view v.items) head_view (Separated IsValue s.Comma)
        (Behind line (codes "with")) NoToken NoToken (most value_levels) head_levels m (suc m) ts ts with_of with_in
        with_out (λ v end. end)
        (λ vs le. omega (arith, le, pairs_most vs)) (λ vs less. omega (arith, less, pairs_most vs))

-- ---- filter f(a)|g

filter_call_most : (fs : List FilterCall) → filter_call_levels fs ≡ most one_filter_call_levels fs
filter_call_most [] = refl
filter_call_most (f ∷ fs) = omega (arith, filter_call_most fs)

abbrev filter_of : List FilterCall → Head
filter_of fs = an_opening (filters fs)

abbrev FiltersRead : ℕ → Tokens → Result (Vec Filter Global) ExprError → Tokens → Type 0
FiltersRead m =
    Reads (λ (v : Vec Filter Global). filter_calls_view v.items) (Separated IsFilterCall s.Pipe) NoToken
    (most one_filter_call_levels) m

module _ (line m : ℕ) (ts : Tokens) where
  filter_in : (h : Head) (v : Tokens) → Leads (Behind line (codes "filter")) h ts v → v ≡ []
      → (fs : List FilterCall) × Leads (Separated IsFilterCall s.Pipe) fs ts v × (h ≡ filter_of fs)
  filter_in h v l end = let p = inside line (codes "filter") h ts v l in (p.2.0, (p.0, p.1, p.2.1), p.2.2)

  filter_out : (fs : List FilterCall) (v : Tokens) → Leads (Separated IsFilterCall s.Pipe) fs ts v
      → Leads (Behind line (codes "filter")) (filter_of fs) ts v
  filter_out fs v l = (l.0, l.1, says_filter l.2)

  pub filter_last : (a : Result (Vec Filter Global) ExprError) (w : Tokens) → FiltersRead m ts a w
      → HeadBy (λ (v : Vec Filter Global). filter_calls_view v.items) filter_of line m (codes "filter") ts a w
  filter_last =
      last_part (λ (v : Vec Filter Global). filter_calls_view v.items) head_view (Separated IsFilterCall s.Pipe)
      (Behind line (codes "filter")) NoToken NoToken (most one_filter_call_levels) head_levels m (suc m) ts ts filter_of
      filter_in filter_out (λ v end. end)
      (λ fs le. omega (arith, le, filter_call_most fs)) (λ fs less. omega (arith, less, filter_call_most fs))

-- ---- autoescape true

module _ (line m : ℕ) (ts : Tokens) where
  escaped : (h : Head) (v : Tokens) → Leads (Behind line (codes "autoescape")) h ts v
      → (on : Bool) × (ts ≡ word (truth_word on) ∷ v) × (h ≡ an_opening (escaping on))
  escaped h v l = let p = inside line (codes "autoescape") h ts v l in (p.2.0, p.1 ∙ ap (λ z. z ++ v) p.2.1, p.2.2)

  same_truth : (on off : Bool) (v u : Tokens) → ◌≡◌ {A = Tokens} (word (truth_word on) ∷ v) (word (truth_word off) ∷ u)
      → (on ≡ off) × (v ≡ u)
  same_truth true true v u e = (refl, (tokens_tail _ _ v u e).1)
  same_truth true false v u e = absurd (cc)
  same_truth false true v u e = absurd (cc)
  same_truth false false v u e = (refl, (tokens_tail _ _ v u e).1)

  pub escaping_read : (on : Bool) (r : Read) (u : Tokens) → head_view r ≡ an_opening (escaping on)
      → ts ≡ word (truth_word on) ∷ u → ReadsHead line m (codes "autoescape") ts (Ok r) u
  escaping_read on r u is said = (
    subst (λ z. Leads (Behind line (codes "autoescape")) z ts u) (sym is)
        (word (truth_word on) ∷ [], said, says_autoescape on),
    subst (λ z. head_levels z ≤ suc m) (sym is) (omega arith),
    λ h v l end.
        let p = escaped h v l in
        let same = same_truth p.0 on v u (sym p.1 ∙ said) in
        (p.2 ∙ ap (λ z. an_opening (escaping z)) same.0 ∙ sym is, same.1),
  )

  pub no_escaping : NoWord (codes "true") ts → NoWord (codes "false") ts → (w : Tokens)
      → ReadsHead line m (codes "autoescape") ts (Err e.Syntax) w
  no_escaping on_none off_none w = λ h v l end. let p = escaped h v l in by p.0 v p.1
    where
      by : (on : Bool) (v : Tokens) → ts ≡ word (truth_word on) ∷ v → ⊥
      by true v is = on_none v is
      by false v is = off_none v is

-- ---- macro f(a, b=1)

abbrev macro_of : Text → List Parameter → Head
macro_of n ps = an_opening (a_macro n ps)

module _ (line m : ℕ) (ts : Tokens) where
  macro_front : (h : Head) (v : Tokens) → Leads (Behind line (codes "macro")) h ts v
      → (n : Text) × (ps : List Parameter) × (y : Tokens) × (ts ≡ cut.name n ∷ cut.sign s.LeftParen ∷ (y ++ v))
      × (is_reserved n ≡ false) × Parameters ps y × (h ≡ macro_of (encode_utf8_all n) ps)
  macro_front h v l =
      let p = inside line (codes "macro") h ts v l in
      let f = p.2 in (f.0, f.1, f.2, p.1 ∙ ap (λ z. z ++ v) f.3, f.4, f.5, f.6)

  pub macro_unnamed : (x : ExprError) (r w : Tokens) → NameRead ts (Err x) r
      → ReadsHead line m (codes "macro") ts (Err x) w
  macro_unnamed =
      part_refused (λ (n : String Global). string_bytes n) head_view IsName (Behind line (codes "macro")) Anything
      NoToken (λ a. 0) head_levels 0 (suc m) ts ts
      (λ h v l end. let f = macro_front h v l in (
        encode_utf8_all f.0,
        cut.sign s.LeftParen ∷ (f.2 ++ v),
        name_leads f.0 ts _ f.3 f.4,
        tt,
        λ less. absurd (omega (arith, less)),
      ))

  module _ (n : String Global) (u : Tokens) (named : NameRead ts (Ok n) u) where
    parenthesis : (h : Head) (v : Tokens) → Leads (Behind line (codes "macro")) h ts v
        → (ps : List Parameter) × (y : Tokens) × (u ≡ cut.sign s.LeftParen ∷ (y ++ v)) × Parameters ps y
        × (h ≡ macro_of (string_bytes n) ps)
    parenthesis h v l =
        let f = macro_front h v l in
        let b = behind_name n ts u named f.0 (cut.sign s.LeftParen ∷ (f.2 ++ v)) f.3 f.4 in
        (f.1, f.2, sym b.1, f.5, f.6 ∙ ap (λ z. macro_of z f.1) b.0)

    pub macro_unopened : (x : ExprError) (r w : Tokens) → TakesSign s.LeftParen u (Err x) r
        → ReadsHead line m (codes "macro") ts (Err x) w
    macro_unopened =
        sign_refused head_view (Behind line (codes "macro")) NoToken head_levels (suc m) ts u s.LeftParen
        (λ h v l end. let f = parenthesis h v l in (f.1 ++ v, f.2))

    module _ (q : Tokens) (sign : u ≡ cut.sign s.LeftParen ∷ q) where
      macro_in : (h : Head) (v : Tokens) → Leads (Behind line (codes "macro")) h ts v → v ≡ []
          → (ps : List Parameter) × Leads Parameters ps q v × (h ≡ macro_of (string_bytes n) ps)
      macro_in h v l end =
          let f = parenthesis h v l in (f.0, (f.1, behind (cut.sign s.LeftParen) u q (f.1 ++ v) sign f.2, f.3), f.4)

      macro_out : (ps : List Parameter) (v : Tokens) → Leads Parameters ps q v
          → Leads (Behind line (codes "macro")) (macro_of (string_bytes n) ps) ts v
      macro_out ps v l =
          let x = leads_name (string_bytes n) ts u named.0 in
          subst (λ z. Leads (Behind line (codes "macro")) (macro_of z ps) ts v) (sym x.3) (
            cut.name x.0 ∷ cut.sign s.LeftParen ∷ l.0,
            x.1 ∙ ap (λ z. cut.name x.0 ∷ z) (sign ∙ ap (λ z. cut.sign s.LeftParen ∷ z) l.1),
            says_macro x.2 l.2,
          )

      pub macro_last : (a : Result (Vec Declared Global) ExprError) (w : Tokens) → ParametersRead q a w
          → HeadBy (λ (v : Vec Declared Global). parameters_view v.items) (macro_of (string_bytes n)) line m
          (codes "macro") ts a w
      macro_last =
          last_part (λ (v : Vec Declared Global). parameters_view v.items) head_view Parameters
          (Behind line (codes "macro")) Anything NoToken (λ a. 0) head_levels 0 (suc m) ts q (macro_of (string_bytes n))
          macro_in macro_out (λ v end. tt)
          (λ ps le. omega arith) (λ ps less. absurd (omega (arith, less)))

-- ---- include "x" ignore missing without context

abbrev include_of : ℕ → Text → Bool → Bool → Head
include_of line n missing context = a_statement (trees.include line n missing context)

abbrev MissingRead : Tokens → Result Bool ExprError → Tokens → Type 0
MissingRead = ReadsFlat (λ (b : Bool). b) IsMissing (NoWord (codes "ignore"))

abbrev ContextRead : Tokens → Result Bool ExprError → Tokens → Type 0
ContextRead = ReadsFlat (λ (b : Bool). b) Context NoToken

context_ignores : (c : Bool) (y v : Tokens) → Context c y → v ≡ [] → NoWord (codes "ignore") (y ++ v)
context_ignores c y v tags.unsaid end w e = no_tokens (word (codes "ignore")) w (sym end ∙ e)
context_ignores c y v tags.with_context end w e = cc
context_ignores c y v tags.without_context end w e = cc

module _ (line m : ℕ) (ts : Tokens) where
  include_front : (h : Head) (v : Tokens) → Leads (Behind line (codes "include")) h ts v
      → (n : Text) × (i : Bool) × (c : Bool) × (y : Tokens) × (ts ≡ cut.text n ∷ (missing_words i ++ (y ++ v)))
      × Context c y × (h ≡ include_of line (encode_utf8_all n) i c)
  include_front h v l =
      let p = inside line (codes "include") h ts v l in
      let f = p.2 in (
        f.0,
        f.1,
        f.2,
        f.3,
        p.1 ∙ ap (λ z. z ++ v) f.4 ∙ ap (λ z. cut.text f.0 ∷ z) (append_assoc (missing_words f.1) f.3 v),
        f.5,
        f.6,
      )

  text_leads : (n : Text) (v : Tokens) → ts ≡ cut.text n ∷ v → Leads IsText (encode_utf8_all n) ts v
  text_leads n v e = (cut.text n ∷ [], e, (n, refl, refl))

  pub include_unnamed : (x : ExprError) (r w : Tokens) → TextRead ts (Err x) r
      → ReadsHead line m (codes "include") ts (Err x) w
  include_unnamed =
      part_refused (λ (n : String Global). string_bytes n) head_view IsText (Behind line (codes "include")) Anything
      NoToken (λ a. 0) head_levels 0 (suc m) ts ts
      (λ h v l end. let f = include_front h v l in (
        encode_utf8_all f.0,
        missing_words f.1 ++ (f.3 ++ v),
        text_leads f.0 _ f.4,
        tt,
        λ less. absurd (omega (arith, less)),
      ))

  module _ (n : String Global) (u : Tokens) (named : TextRead ts (Ok n) u) where
    ignored : (h : Head) (v : Tokens) → Leads (Behind line (codes "include")) h ts v
        → (i : Bool) × (c : Bool) × (y : Tokens) × Leads IsMissing i u (y ++ v) × Context c y
        × (h ≡ include_of line (string_bytes n) i c)
    ignored h v l =
        let f = include_front h v l in
        let same = named.2 (encode_utf8_all f.0) (missing_words f.1 ++ (f.3 ++ v)) (text_leads f.0 _ f.4) tt in
        (f.1, f.2, f.3, (missing_words f.1, sym same.1, refl), f.5, f.6 ∙ ap (λ z. include_of line z f.1 f.2) same.0)

    pub include_ignoring : (x : ExprError) (r w : Tokens) → MissingRead u (Err x) r
        → ReadsHead line m (codes "include") ts (Err x) w
    include_ignoring =
        part_refused (λ (b : Bool). b) head_view IsMissing (Behind line (codes "include")) (NoWord (codes "ignore"))
        NoToken (λ a. 0) head_levels 0 (suc m) ts u
        (λ h v l end. let f = ignored h v l in
        (f.0, f.2 ++ v, f.3, context_ignores f.1 f.2 v f.4 end, λ less. absurd (omega (arith, less))))

    module _ (i : Bool) (q : Tokens) (missing : MissingRead u (Ok i) q) where
      include_in : (h : Head) (v : Tokens) → Leads (Behind line (codes "include")) h ts v → v ≡ []
          → (c : Bool) × Leads Context c q v × (h ≡ include_of line (string_bytes n) i c)
      include_in h v l end =
          let f = ignored h v l in
          let same = missing.2 f.0 (f.2 ++ v) f.3 (context_ignores f.1 f.2 v f.4 end) in
          (f.1, (f.2, sym same.1, f.4), f.5 ∙ ap (λ z. include_of line (string_bytes n) z f.1) same.0)

      include_out : (c : Bool) (v : Tokens) → Leads Context c q v
          → Leads (Behind line (codes "include")) (include_of line (string_bytes n) i c) ts v
      include_out c v l =
          let x = leads_text (string_bytes n) ts u named.0 in
          subst (λ z. Leads (Behind line (codes "include")) (include_of line z i c) ts v) (sym x.2) (
            cut.text x.0 ∷ (missing_words i ++ l.0),
            x.1 ∙ ap (λ z. cut.text x.0 ∷ z) (missing.0.1 ∙ ap (λ z. z ++ q) missing.0.2
                ∙ ap (λ z. missing_words i ++ z) l.1 ∙ sym (append_assoc (missing_words i) l.0 v)),
            says_include i l.2,
          )

      pub include_last : (a : Result Bool ExprError) (w : Tokens) → ContextRead q a w
          → HeadBy (λ (b : Bool). b) (include_of line (string_bytes n) i) line m (codes "include") ts a w
      include_last =
          last_part (λ (b : Bool). b) head_view Context (Behind line (codes "include")) NoToken NoToken (λ a. 0)
          head_levels 0 (suc m) ts q (include_of line (string_bytes n) i) include_in include_out (λ v end. end)
          (λ c le. omega arith) (λ c less. absurd (omega (arith, less)))

-- ---- import "x" as f without context

abbrev import_of : ℕ → Text → Text → Head
import_of line n a = a_statement (trees.import_as line n a)

abbrev WithoutRead : Tokens → Result Bool ExprError → Tokens → Type 0
WithoutRead = ReadsFlat (λ (b : Bool). b) IsWithout (NoWord (codes "without"))

nothing_without : (v : Tokens) → v ≡ [] → NoWord (codes "without") v
nothing_without v end w e = no_tokens (word (codes "without")) w (sym end ∙ e)

module _ (line m : ℕ) (ts : Tokens) where
  import_front : (h : Head) (v : Tokens) → Leads (Behind line (codes "import")) h ts v
      → (n : Text) × (a : Text) × (b : Bool)
      × (ts ≡ cut.text n ∷ word (codes "as") ∷ cut.name a ∷ (without_words b ++ v)) × (is_reserved a ≡ false)
      × (h ≡ import_of line (encode_utf8_all n) (encode_utf8_all a))
  import_front h v l =
      let p = inside line (codes "import") h ts v l in
      let f = p.2 in
      (f.0, f.1, f.2, p.1 ∙ ap (λ z. z ++ v) f.3, f.4, f.5)

  import_text : (n : Text) (v : Tokens) → ts ≡ cut.text n ∷ v → Leads IsText (encode_utf8_all n) ts v
  import_text n v e = (cut.text n ∷ [], e, (n, refl, refl))

  pub import_unnamed : (x : ExprError) (r w : Tokens) → TextRead ts (Err x) r
      → ReadsHead line m (codes "import") ts (Err x) w
  import_unnamed =
      part_refused (λ (n : String Global). string_bytes n) head_view IsText (Behind line (codes "import")) Anything
      NoToken (λ a. 0) head_levels 0 (suc m) ts ts
      (λ h v l end. let f = import_front h v l in (
        encode_utf8_all f.0,
        word (codes "as") ∷ cut.name f.1 ∷ (without_words f.2 ++ v),
        import_text f.0 _ f.3,
        tt,
        λ less. absurd (omega (arith, less)),
      ))

  module _ (n : String Global) (u : Tokens) (named : TextRead ts (Ok n) u) where
    import_behind : (h : Head) (v : Tokens) → Leads (Behind line (codes "import")) h ts v
        → (a : Text) × (b : Bool) × (u ≡ word (codes "as") ∷ cut.name a ∷ (without_words b ++ v))
        × (is_reserved a ≡ false) × (h ≡ import_of line (string_bytes n) (encode_utf8_all a))
    import_behind h v l =
        let f = import_front h v l in
        let same = named.2 (encode_utf8_all f.0) (word (codes "as") ∷ cut.name f.1 ∷ (without_words f.2 ++ v))
        (import_text f.0 _ f.3) tt in
        (f.1, f.2, sym same.1, f.4, f.5 ∙ ap (λ z. import_of line z (encode_utf8_all f.1)) same.0)

    pub import_no_as : (x : ExprError) (r w : Tokens) → TakesWord (codes "as") u (Err x) r
        → ReadsHead line m (codes "import") ts (Err x) w
    import_no_as =
        word_refused head_view (Behind line (codes "import")) NoToken head_levels (suc m) ts u (codes "as")
        (λ h v l end. let f = import_behind h v l in (cut.name f.0 ∷ (without_words f.1 ++ v), f.2))

    module _ (q : Tokens) (said : u ≡ word (codes "as") ∷ q) where
      import_named : (h : Head) (v : Tokens) → Leads (Behind line (codes "import")) h ts v
          → (a : Text) × (b : Bool) × Leads IsName a q (without_words b ++ v) × (h ≡ import_of line (string_bytes n) a)
      import_named h v l =
          let f = import_behind h v l in (
            encode_utf8_all f.0,
            f.1,
            name_leads f.0 q (without_words f.1 ++ v)
                (behind (word (codes "as")) u q (cut.name f.0 ∷ (without_words f.1 ++ v)) said f.2) f.3,
            f.4,
          )

      pub import_not_given : (x : ExprError) (r w : Tokens) → NameRead q (Err x) r
          → ReadsHead line m (codes "import") ts (Err x) w
      import_not_given =
          part_refused (λ (n : String Global). string_bytes n) head_view IsName (Behind line (codes "import")) Anything
          NoToken (λ a. 0) head_levels 0 (suc m) ts q
          (λ h v l end.
          let f = import_named h v l in (f.0, without_words f.1 ++ v, f.2, tt, λ less. absurd (omega (arith, less))))

      module _ (a : String Global) (r : Tokens) (given : NameRead q (Ok a) r) where
        import_in : (h : Head) (v : Tokens) → Leads (Behind line (codes "import")) h ts v → v ≡ []
            → (b : Bool) × Leads IsWithout b r v × (h ≡ import_of line (string_bytes n) (string_bytes a))
        import_in h v l end =
            let f = import_named h v l in
            let same = given.2 f.0 (without_words f.1 ++ v) f.2 tt in
            (f.1, (without_words f.1, sym same.1, refl), f.3 ∙ ap (import_of line (string_bytes n)) same.0)

        import_out : (b : Bool) (v : Tokens) → Leads IsWithout b r v
            → Leads (Behind line (codes "import")) (import_of line (string_bytes n) (string_bytes a)) ts v
        import_out b v l =
            let x = leads_text (string_bytes n) ts u named.0 in
            let y = leads_name (string_bytes a) q r given.0 in
            subst (λ z. Leads (Behind line (codes "import")) (import_of line z (string_bytes a)) ts v) (sym x.2)
            (subst (λ z. Leads (Behind line (codes "import")) (import_of line (encode_utf8_all x.0) z) ts v) (sym y.3) (
              cut.text x.0 ∷ word (codes "as") ∷ cut.name y.0 ∷ without_words b,
              x.1 ∙ ap (λ z. cut.text x.0 ∷ z) (said
                  ∙ ap (λ z. word (codes "as") ∷ z) (y.1 ∙ ap (λ z. cut.name y.0 ∷ z) (l.1 ∙ ap (λ z. z ++ v) l.2))),
              says_import b y.2,
            ))

        pub import_last : (b : Result Bool ExprError) (w : Tokens) → WithoutRead r b w
            → HeadBy (λ (b : Bool). b) (λ b. import_of line (string_bytes n) (string_bytes a)) line m (codes "import")
            ts b w
        import_last =
            last_part (λ (b : Bool). b) head_view IsWithout (Behind line (codes "import")) (NoWord (codes "without"))
            NoToken (λ a. 0) head_levels 0 (suc m) ts r (λ b. import_of line (string_bytes n) (string_bytes a))
            import_in import_out nothing_without
            (λ b le. omega arith) (λ b less. absurd (omega (arith, less)))

-- ---- from "x" import a, b as c without context

abbrev from_of : ℕ → Text → List (Text × Text) → Head
from_of line n xs = a_statement (trees.import_from line n xs)

abbrev RowRead : Tokens → Result (Vec (String Global × String Global) Global) ExprError → Tokens → Type 0
RowRead =
    ReadsFlat (λ (v : Vec (String Global × String Global) Global). given_view v.items) (Separated IsImported s.Comma)
    NoImported

without_ends : (b : Bool) (v : Tokens) → v ≡ [] → NoImported (without_words b ++ v)
without_ends true v end = (λ w e. cc, λ w e. cc)
without_ends false v end =
    (λ w e. no_tokens (word (codes "as")) w (sym end ∙ e), λ w e. no_tokens (cut.sign s.Comma) w (sym end ∙ e))

module _ (line m : ℕ) (ts : Tokens) where
  from_front : (h : Head) (v : Tokens) → Leads (Behind line (codes "from")) h ts v
      → (n : Text) × (xs : List (Text × Text)) × (y : Tokens) × (b : Bool)
      × (ts ≡ cut.text n ∷ word (codes "import") ∷ (y ++ (without_words b ++ v))) × Separated IsImported s.Comma xs y
      × (h ≡ from_of line (encode_utf8_all n) xs)
  from_front h v l =
      let p = inside line (codes "from") h ts v l in
      let f = p.2 in (
        f.0,
        f.1,
        f.2,
        f.3,
        p.1 ∙ ap (λ z. z ++ v) f.4
            ∙ ap (λ z. cut.text f.0 ∷ word (codes "import") ∷ z) (append_assoc f.2 (without_words f.3) v),
        f.5,
        f.6,
      )

  from_text : (n : Text) (v : Tokens) → ts ≡ cut.text n ∷ v → Leads IsText (encode_utf8_all n) ts v
  from_text n v e = (cut.text n ∷ [], e, (n, refl, refl))

  pub from_unnamed : (x : ExprError) (r w : Tokens) → TextRead ts (Err x) r
      → ReadsHead line m (codes "from") ts (Err x) w
  from_unnamed =
      part_refused (λ (n : String Global). string_bytes n) head_view IsText (Behind line (codes "from")) Anything
      NoToken (λ a. 0) head_levels 0 (suc m) ts ts
      (λ h v l end. let f = from_front h v l in (
        encode_utf8_all f.0,
        word (codes "import") ∷ (f.2 ++ (without_words f.3 ++ v)),
        from_text f.0 _ f.4,
        tt,
        λ less. absurd (omega (arith, less)),
      ))

  module _ (n : String Global) (u : Tokens) (named : TextRead ts (Ok n) u) where
    from_behind : (h : Head) (v : Tokens) → Leads (Behind line (codes "from")) h ts v
        → (xs : List (Text × Text)) × (y : Tokens) × (b : Bool)
        × (u ≡ word (codes "import") ∷ (y ++ (without_words b ++ v))) × Separated IsImported s.Comma xs y
        × (h ≡ from_of line (string_bytes n) xs)
    from_behind h v l =
        let f = from_front h v l in
        let same = named.2 (encode_utf8_all f.0) (word (codes "import") ∷ (f.2 ++ (without_words f.3 ++ v)))
        (from_text f.0 _ f.4) tt in
        (f.1, f.2, f.3, sym same.1, f.5, f.6 ∙ ap (λ z. from_of line z f.1) same.0)

    pub from_no_import : (x : ExprError) (r w : Tokens) → TakesWord (codes "import") u (Err x) r
        → ReadsHead line m (codes "from") ts (Err x) w
    from_no_import =
        word_refused head_view (Behind line (codes "from")) NoToken head_levels (suc m) ts u (codes "import")
        (λ h v l end. let f = from_behind h v l in (f.1 ++ (without_words f.2 ++ v), f.3))

    module _ (q : Tokens) (said : u ≡ word (codes "import") ∷ q) where
      from_row : (h : Head) (v : Tokens) → Leads (Behind line (codes "from")) h ts v
          → (xs : List (Text × Text)) × (b : Bool) × Leads (Separated IsImported s.Comma) xs q (without_words b ++ v)
          × (h ≡ from_of line (string_bytes n) xs)
      from_row h v l =
          let f = from_behind h v l in
          (f.0, f.2, (f.1, behind (word (codes "import")) u q (f.1 ++ (without_words f.2 ++ v)) said f.3, f.4), f.5)

      pub from_nothing : (x : ExprError) (r w : Tokens) → RowRead q (Err x) r
          → ReadsHead line m (codes "from") ts (Err x) w
      from_nothing =
          part_refused (λ (v : Vec (String Global × String Global) Global). given_view v.items) head_view
          (Separated IsImported s.Comma) (Behind line (codes "from")) NoImported NoToken (λ a. 0) head_levels 0 (suc m)
          ts q
          (λ h v l end. let f = from_row h v l in
          (f.0, without_words f.1 ++ v, f.2, without_ends f.1 v end, λ less. absurd (omega (arith, less))))

      module _ (xs : Vec (String Global × String Global) Global) (r : Tokens) (row : RowRead q (Ok xs) r) where
        from_in : (h : Head) (v : Tokens) → Leads (Behind line (codes "from")) h ts v → v ≡ []
            → (b : Bool) × Leads IsWithout b r v × (h ≡ from_of line (string_bytes n) (given_view xs.items))
        from_in h v l end =
            let f = from_row h v l in
            let same = row.2 f.0 (without_words f.1 ++ v) f.2 (without_ends f.1 v end) in
            (f.1, (without_words f.1, sym same.1, refl), f.3 ∙ ap (from_of line (string_bytes n)) same.0)

        from_out : (b : Bool) (v : Tokens) → Leads IsWithout b r v
            → Leads (Behind line (codes "from")) (from_of line (string_bytes n) (given_view xs.items)) ts v
        from_out b v l =
            let x = leads_text (string_bytes n) ts u named.0 in
            subst (λ z. Leads (Behind line (codes "from")) (from_of line z (given_view xs.items)) ts v) (sym x.2) (
              cut.text x.0 ∷ word (codes "import") ∷ (row.0.0 ++ without_words b),
              x.1 ∙ ap (λ z. cut.text x.0 ∷ z) (said ∙ ap (λ z. word (codes "import") ∷ z)
                  (row.0.1 ∙ ap (λ z. row.0.0 ++ z) (l.1 ∙ ap (λ z. z ++ v) l.2)
                  ∙ sym (append_assoc row.0.0 (without_words b) v))),
              says_from b row.0.2,
            )

        pub from_last : (b : Result Bool ExprError) (w : Tokens) → WithoutRead r b w
            → HeadBy (λ (b : Bool). b) (λ b. from_of line (string_bytes n) (given_view xs.items)) line m (codes "from")
            ts b w
        from_last =
            last_part (λ (b : Bool). b) head_view IsWithout (Behind line (codes "from")) (NoWord (codes "without"))
            NoToken (λ a. 0) head_levels 0 (suc m) ts r (λ b. from_of line (string_bytes n) (given_view xs.items))
            from_in from_out nothing_without
            (λ b le. omega arith) (λ b less. absurd (omega (arith, less)))

-- ---- extends "x"

abbrev extends_of : ℕ → Text → Head
extends_of line n = a_statement (trees.extends line n)

module _ (line m : ℕ) (ts : Tokens) where
  extends_in : (h : Head) (v : Tokens) → Leads (Behind line (codes "extends")) h ts v → v ≡ []
      → (n : Text) × Leads IsText n ts v × (h ≡ extends_of line n)
  extends_in h v l end =
      let p = inside line (codes "extends") h ts v l in (encode_utf8_all p.2.0, (p.0, p.1, (p.2.0, p.2.1, refl)), p.2.2)

  extends_out : (n : Text) (v : Tokens) → Leads IsText n ts v
      → Leads (Behind line (codes "extends")) (extends_of line n) ts v
  extends_out n v l =
      let x = leads_text n ts v l in
      subst (λ z. Leads (Behind line (codes "extends")) (extends_of line z) ts v) (sym x.2)
      (cut.text x.0 ∷ [], x.1, says_extends)

  pub extends_last : (a : Result (String Global) ExprError) (w : Tokens) → TextRead ts a w
      → HeadBy (λ (n : String Global). string_bytes n) (extends_of line) line m (codes "extends") ts a w
  extends_last =
      last_part (λ (n : String Global). string_bytes n) head_view IsText (Behind line (codes "extends")) Anything
      NoToken (λ a. 0) head_levels 0 (suc m) ts ts (extends_of line) extends_in extends_out (λ v end. tt)
      (λ n le. omega arith) (λ n less. absurd (omega (arith, less)))

-- ---- block b scoped required

abbrev block_of : Text → Bool → Bool → Head
block_of n scoped required = an_opening (a_block n scoped required)

flag_front : (b : Bool) (w : List ℕ) (u new : Tokens) → new ≡ past b u → (b ≡ true → u ≡ word w ∷ new)
    → u ≡ flag b w ++ new
flag_front true w u new e f = f refl
flag_front false w u new e f = sym e

-- The tokens after an optional `scoped`; `behind_required` has those after an optional `required`.
abbrev behind_scoped : Tokens → Tokens
behind_scoped u = past (says (codes "scoped") u) u

abbrev behind_required : Tokens → Tokens
behind_required w = past (says (codes "required") w) w

at_flags : (a b : Bool) → (says (codes "scoped") (flags a b) ≡ a)
    × (says (codes "required") (behind_scoped (flags a b)) ≡ b) × (behind_required (behind_scoped (flags a b)) ≡ [])
at_flags true true = (refl, refl, refl)
at_flags true false = (refl, refl, refl)
at_flags false true = (refl, refl, refl)
at_flags false false = (refl, refl, refl)

flags_found : (a b : Bool) (u w : Tokens) → u ≡ flags a b → w ≡ behind_scoped u
    → (says (codes "scoped") u ≡ a) × (says (codes "required") w ≡ b) × (behind_required w ≡ [])
flags_found a b u w is at =
    let there : w ≡ behind_scoped (flags a b) = at ∙ ap behind_scoped is in
    let p = at_flags a b in
    (ap (says (codes "scoped")) is ∙ p.0, ap (says (codes "required")) there ∙ p.1, ap behind_required there ∙ p.2)

module _ (line m : ℕ) (ts : Tokens) where
  block_front : (h : Head) (v : Tokens) → Leads (Behind line (codes "block")) h ts v
      → (n : Text) × (a : Bool) × (b : Bool) × (ts ≡ cut.name n ∷ (flags a b ++ v)) × (is_reserved n ≡ false)
      × (h ≡ block_of (encode_utf8_all n) a b)
  block_front h v l =
      let p = inside line (codes "block") h ts v l in
      let f = p.2 in (f.0, f.1, f.2, p.1 ∙ ap (λ z. z ++ v) f.3, f.4, f.5)

  pub block_unnamed : (x : ExprError) (r w : Tokens) → NameRead ts (Err x) r
      → ReadsHead line m (codes "block") ts (Err x) w
  block_unnamed =
      part_refused (λ (n : String Global). string_bytes n) head_view IsName (Behind line (codes "block")) Anything
      NoToken (λ a. 0) head_levels 0 (suc m) ts ts
      (λ h v l end. let f = block_front h v l in
      (encode_utf8_all f.0, flags f.1 f.2 ++ v, name_leads f.0 ts _ f.3 f.4, tt, λ less. absurd (omega (arith, less))))

  pub block_read : (n : String Global) (u w z : Tokens) (a b : Bool) (r : Read) → NameRead ts (Ok n) u
      → a ≡ says (codes "scoped") u → w ≡ past (says (codes "scoped") u) u → (a ≡ true → u ≡ word (codes "scoped") ∷ w)
      → b ≡ says (codes "required") w → z ≡ past (says (codes "required") w) w
      → (b ≡ true → w ≡ word (codes "required") ∷ z) → head_view r ≡ block_of (string_bytes n) a b
      → ReadsHead line m (codes "block") ts (Ok r) z
  block_read n u w z a b r named fa pa ta fb pb tb is =
      let x = leads_name (string_bytes n) ts u named.0 in
      let front : u ≡ flags a b ++ z = flag_front a (codes "scoped") u w (pa ∙ ap (λ c. past c u) (sym fa)) ta
      ∙ ap (λ y. flag a (codes "scoped") ++ y)
      (flag_front b (codes "required") w z (pb ∙ ap (λ c. past c w) (sym fb)) tb)
      ∙ sym (append_assoc (flag a (codes "scoped")) (flag b (codes "required")) z) in (
        subst (λ y. Leads (Behind line (codes "block")) y ts z) (sym (is ∙ ap (λ y. block_of y a b) x.3))
            (cut.name x.0 ∷ flags a b, x.1 ∙ ap (λ y. cut.name x.0 ∷ y) front, says_block a b x.2),
        subst (λ y. head_levels y ≤ suc m) (sym is) (omega arith),
        λ h v l end.
            let f = block_front h v l in
            let same = behind_name n ts u named f.0 (flags f.1 f.2 ++ v) f.3 f.4 in
            let found =
            flags_found f.1 f.2 u w (sym same.1 ∙ ap (λ y. flags f.1 f.2 ++ y) end ∙ append-nil (flags f.1 f.2)) pa in (
              f.5 ∙ ap (λ y. block_of y f.1 f.2) same.0 ∙ ap (λ y. block_of (string_bytes n) y f.2) (sym (fa ∙ found.0))
                  ∙ ap (λ y. block_of (string_bytes n) a y) (sym (fb ∙ found.1)) ∙ sym is,
              end ∙ sym (pb ∙ found.2),
            ),
      )

-- ---- the whole tag

module _ (line m : ℕ) (w : List ℕ) (ts : Tokens) where
  pub tokens_left : (h : Read) (u z : Tokens) → ReadsHead line m w ts (Ok h) u → 0 < length u
      → ReadsHead line m w ts (Err e.Syntax) z
  tokens_left h u z g some =
      λ b v l end.
      let none : length u ≡ 0 = ap length (sym (g.2 b v l end).1 ∙ end) in absurd (omega (arith, none, some))

  pub none_left : (h : Read) (u : Tokens) → ReadsHead line m w ts (Ok h) u → length u ≡ 0
      → ReadsHead line m w ts (Ok h) []
  none_left h u g none = subst (λ z. ReadsHead line m w ts (Ok h) z) (no_length u none) g
