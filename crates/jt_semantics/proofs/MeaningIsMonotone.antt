-- A text or a fault at depth n stays a result at greater depths. `Approximates g h` states that h
-- equals g, or that g is too deep.
use Rattle.std.proofs.Common.{◌≡◌, ◌≤◌, ◌+◌, ◌-◌, ℕ, zero, suc, refl, subst, arith, rules}
use Rattle.std.specs.Prelude.{Bool, List, [], ◌∷◌, Option, Some, None, if◌then◌else◌}
use Rattle.jt_value.specs.Tree as tree
use Rattle.jt_value.specs.Tree.{Tree}
use Rattle.jt_value.specs.Pairs.{Pairs}
use Rattle.jt_ids.specs.declared.test_id.TestId.{TestId}
use Rattle.jt_ast.specs.Expressions as written
use Rattle.jt_ast.specs.Expressions.{Expr, constant, name, group, list_of, map_of, attribute, item, unary, binary, when}
use Rattle.jt_ast.specs.Expressions.{choice, Exprs, no_exprs, expr, no_pairs, pair, Text}
use Rattle.jt_value.specs.Place.{Place}
use Rattle.jt_eval.specs.Values.{required_if}
use Rattle.jt_eval.specs.Eval.{Eval, gives, fails, deeper, bind, at}
use Rattle.jt_semantics.specs.Operators.{OperatorForm, form}
use Rattle.jt_semantics.specs.Expressions.{asked, turned, either, combined, filtered, block_text, super_text, called}
use Rattle.jt_semantics.specs.Expressions.{value, values, named_values}
use Rattle.jt_ast.specs.Statements.{FilterCall, Stmt, data_of, print, choose, for_each, set, set_block, with_values}
use Rattle.jt_ast.specs.Statements.{filter_block, autoescape, macro, include, import_as, import_from, extends, block}
use Rattle.jt_ast.specs.Statements.{Body, end, stmt, Branches, no_branches, branch}
use Rattle.jt_semantics.specs.Env.{Env, inside, top}
use Rattle.jt_chains.specs.Chain.{Namespace, Template, BlockBody, bodies, Callee, a_macro, a_range}
use Rattle.jt_chains.specs.Chain.{a_super, a_block, a_cycle, no_callee, is_loop}
use Rattle.jt_eval.specs.Loops.{Loop}
use Rattle.jt_eval.specs.Filters.{Filters}
use Rattle.jt_rules.specs.CompileEnv.{CompileEnv}
use Rattle.jt_semantics.specs.EvalContext.{Placement, EvalContext, State, Invocation, Calls, tag}
use Rattle.jt_semantics.specs.Laws.{Stays}
use Rattle.jt_semantics.specs.Meaning.{turns, eval_loop, outside, is_set, kept, through, meaning, meanings, chosen}
use Rattle.jt_semantics.specs.Meaning.{sets, rendered, eval_invocation, calls_below, mean}

pub data Approximates {A : Type 0} : Eval A → Eval A → Type 0 where
  less : {g : Eval A} → Approximates deeper g
  same : {g : Eval A} → Approximates g g

pub bound : {A B : Type 0} {g h : Eval A} {f k : A → Eval B} → Approximates g h → ((x : A) → Approximates (f x) (k x))
    → Approximates (bind g f) (bind h k)
bound less fs = less
bound {g = gives x} same fs = fs x
bound {g = fails e p} same fs = same
bound {g = deeper} same fs = less

if_under : {A : Type 0} (b : Bool) {g h f k : Eval A} → Approximates g h → Approximates f k
    → Approximates (if b then g else f) (if b then h else k)
if_under b u v = search (arith, rules)

at_under : {A : Type 0} {g h : Eval A} (p : Place) → Approximates g h → Approximates (at p g) (at p h)
at_under p a1 = search (arith, rules, less, same)

turned_under : (n : Bool) {g h : Eval Tree} → Approximates g h → Approximates (turned n g) (turned n h)
turned_under n u = search (arith, rules, bound, same)

asked_under : (t : Option TestId) {g h : Eval (List Tree)} → Approximates g h → Approximates (asked t g) (asked t h)
asked_under t u = search (arith, rules, same, bound)

filtered_under : (fs : Filters) (f : Option ℕ) (on : Bool) {g h : Eval (List Tree)} → Approximates g h
    → Approximates (filtered fs f on g) (filtered fs f on h)
filtered_under fs f on u = search (arith, rules, same, bound)

required_under : (b : Bool) {g h : Eval Tree} → Approximates g h → Approximates (required_if b g) (required_if b h)
required_under b u = search (arith, rules, bound, same)

combined_under : (f : OperatorForm) {g h g' h' : Eval Tree} → Approximates g g' → Approximates h h'
    → Approximates (combined f g h) (combined f g' h')
combined_under f u w = search (arith, rules, bound, same, turned_under, if_under)

either_under : {c g h c' g' h' : Eval Tree} → Approximates c c' → Approximates g g' → Approximates h h'
    → Approximates (either c g h) (either c' g' h')
either_under u v w = bound u (λ x. if_under (tree.truth x) v w)

turns_under : (f g : Option Loop → State → Eval State)
    → ((l : Option Loop) (st : State) → Approximates (f l st) (g l st))
    → (xs : List Text) (p : Place) (all : List Tree) (i : ℕ) (vs : List Tree) (st : State)
    → Approximates (turns f xs p all i vs st) (turns g xs p all i vs st)
turns_under f g us xs p all i [] st = same
turns_under f g us xs p all i (v ∷ vs) st =
    bound same (λ s. bound (bound (us _ _) (λ r. same)) (λ r. turns_under f g us xs p all (suc i) vs r))

gone_under : (f g : Option Loop → State → Eval State)
    → ((l : Option Loop) (st : State) → Approximates (f l st) (g l st)) → (j k : State → Eval State)
    → ((st : State) → Approximates (j st) (k st)) → (xs : List Text) (p : Place) (vs : List Tree) (st : State)
    → Approximates (eval_loop f j xs p vs st) (eval_loop g k xs p vs st)
gone_under f g us j k os xs p [] st = os st
gone_under f g us j k os xs p (v ∷ vs) st = turns_under f g us xs p (v ∷ vs) 0 (v ∷ vs) st

module _ (cenv : CompileEnv) (c d : Calls) (under : (x : Invocation) → Approximates (c x) (d x)) where
  block_under : (h : Namespace) (bs : List BlockBody) (env : Env)
      → Approximates (block_text c h bs env) (block_text d h bs env)
  block_under h bs env = search (arith, rules, same)

  super_under : (h : Namespace) (q : Option Placement) → Approximates (super_text c h q) (super_text d h q)
  super_under h q = search (arith, rules, same, block_under)

  called_under : (f : Callee) (a : EvalContext) (env : Env) {g g' : Eval (List Tree)} {k k' : Eval Pairs}
      → Approximates g g' → Approximates k k' → Approximates (called cenv c f a env g k) (called cenv d f a env g' k')
  called_under (a_macro h m) a env u w = bound u (λ vs. bound w (λ ks. bound (under _) (λ s. same)))
  called_under a_range a env u w = bound u (λ vs. same)
  called_under a_super a env u w = bound (super_under a.namespace a.block) (λ s. same)
  called_under (a_block x) a env u w =
      bound (block_under a.namespace (bodies cenv.sources cenv.escaping a.namespace x) (top env.globals)) (λ s. same)
  called_under a_cycle a env u w = bound u (λ vs. same)
  called_under no_callee a env u w = same

  mutual
    pub value_under : (e : Expr) (a : EvalContext) (env : Env)
        → Approximates (value cenv c e a env) (value cenv d e a env)
    value_under (constant l) a env = same
    value_under (name x) a env = same
    value_under (group e) a env = value_under e a env
    value_under (list_of ts) a env = bound (values_under ts a env) (λ vs. same)
    value_under (map_of ps) a env = bound (named_under ps a env) (λ vs. same)
    value_under (attribute e k) a env = if_under (is_loop e) same (bound (value_under e a env) (λ v. same))
    value_under (item e k) a env = bound (value_under e a env) (λ v. bound (value_under k a env) (λ w. same))
    value_under (written.call f ts ps) a env =
        search (arith, rules, called_under, values_under ts a env, named_under ps a env)
    value_under (written.filter e x ts ps) a env =
        filtered_under cenv.filters (cenv.filters.named x ts ps) a.escaping
        (bound (required_under _ (value_under e a env))
        (λ v. bound (values_under ts a env) (λ vs. bound (named_under ps a env) (λ ks. same))))
    value_under (written.test e n x ts ps) a env =
        search (arith, rules, turned_under, asked_under, bound, same, value_under e a env, values_under ts a env)
    value_under (unary o e) a env = bound (value_under e a env) (λ v. same)
    value_under (binary o e f) a env =
        combined_under (form a.escaping o) (required_under _ (value_under e a env))
        (required_under _ (value_under f a env))
    value_under (when e f) a env = either_under (value_under e a env) (value_under f a env) same
    value_under (choice e f g) a env = either_under (value_under e a env) (value_under f a env) (value_under g a env)

    pub values_under : (ts : Exprs) (a : EvalContext) (env : Env)
        → Approximates (values cenv c ts a env) (values cenv d ts a env)
    values_under no_exprs a env = same
    values_under (expr e ts) a env = bound (value_under e a env) (λ v. bound (values_under ts a env) (λ vs. same))

    pub named_under : (ps : written.Pairs) (a : EvalContext) (env : Env)
        → Approximates (named_values cenv c ps a env) (named_values cenv d ps a env)
    named_under no_pairs a env = same
    named_under (pair x e ps) a env = bound (value_under e a env) (λ v. bound (named_under ps a env) (λ bs. same))

  kept_under : (o : Option Expr) (xs : List Text) (a : EvalContext) (env : Env) (vs : List Tree)
      → Approximates (kept cenv c o xs a env vs) (kept cenv d o xs a env vs)
  kept_under None xs a env vs = same
  kept_under (Some e) xs a env [] = same
  kept_under (Some e) xs a env (v ∷ vs) =
      bound same (λ s.
      bound (value_under e (outside a) (inside s env)) (λ b. bound (kept_under (Some e) xs a env vs) (λ rest. same)))

  through_under : (fs : List FilterCall) (a : EvalContext) (env : Env) {g h : Eval Tree} → Approximates g h
      → Approximates (through cenv c fs a env g) (through cenv d fs a env h)
  through_under [] a env u = u
  through_under (f ∷ fs) a env u =
      through_under fs a env (filtered_under cenv.filters (cenv.filters.named f.name f.arguments f.keywords) a.escaping
      (bound (required_under _ u)
      (λ v. bound (values_under f.arguments a env) (λ vs. bound (named_under f.keywords a env) (λ ks. same)))))

  mutual
    pub meaning_under : (s : Stmt) (a : EvalContext) (st : State)
        → Approximates (meaning cenv c s a st) (meaning cenv d s a st)
    meaning_under (data_of t) a st = same
    meaning_under (print line e) a st =
        at_under (tag a line) (bound (required_under _ (value_under e a st.env)) (λ v. same))
    meaning_under (choose bs other) a st =
        chosen_under bs a st (meanings cenv c other a) (meanings cenv d other a) (λ st. meanings_under other a st)
    meaning_under (for_each line xs e o body other) a st =
        bound
        (at_under (tag a line) (bound (required_under _ (value_under e a st.env))
        (λ v. bound same (λ vs. kept_under o xs a st.env vs))))
        (λ vs.
        gone_under (λ l. meanings cenv c body (record a { loop = l }))
        (λ l. meanings cenv d body (record a { loop = l })) (λ l st. meanings_under body (record a { loop = l }) st)
        (meanings cenv c other a) (meanings cenv d other a) (λ st. meanings_under other a st) xs (tag a line) vs st)
    meaning_under (set line xs e) a st = search (arith, rules, bound, at_under, value_under, same)
    meaning_under (set_block line x body) a st = bound (bound (meanings_under body a _) (λ r. same)) (λ v. same)
    meaning_under (with_values line ps body) a st =
        bound (at_under (tag a line) (named_under ps a st.env)) (λ bs. bound (meanings_under body a _) (λ r. same))
    meaning_under (filter_block line fs body) a st =
        search (arith, rules, bound, same, at_under, required_under, through_under, meanings_under body a)
    meaning_under (autoescape line on body) a st = bound (meanings_under body _ _) (λ r. same)
    meaning_under (macro line x ps body) a st = same
    meaning_under (include line n ignore_missing with_context) a st = search (arith, rules, if_under, same, bound)
    meaning_under (import_as line n new) a st = same
    meaning_under (import_from line n news) a st = same
    meaning_under (extends line n) a st = same
    meaning_under (block line x scoped required body) a st = search (arith, rules, bound, block_under, same)

    pub meanings_under : (b : Body) (a : EvalContext) (st : State)
        → Approximates (meanings cenv c b a st) (meanings cenv d b a st)
    meanings_under end a st = same
    meanings_under (stmt s rest) a st = bound (meaning_under s a st) (λ r. meanings_under rest a r)

    pub chosen_under : (bs : Branches) (a : EvalContext) (st : State) (j k : State → Eval State)
        → ((st : State) → Approximates (j st) (k st)) → Approximates (chosen cenv c bs a st j) (chosen cenv d bs a st k)
    chosen_under no_branches a st j k os = os st
    chosen_under (branch line e body rest) a st j k os =
        grind (arith, bound, at_under, value_under, if_under, meanings_under body a st, chosen_under rest a st j k os)

  sets_under : (b : Body) (a : EvalContext) (st : State) → Approximates (sets cenv c b a st) (sets cenv d b a st)
  sets_under end a st = same
  sets_under (stmt s rest) a st =
      if_under (is_set s) (bound (meaning_under s a st) (λ r. sets_under rest a r)) (sets_under rest a st)

  rendered_under : (h : Namespace) (ts : List Template) (st : State)
      → Approximates (rendered cenv c h ts st) (rendered cenv d h ts st)
  rendered_under h [] st = same
  rendered_under h (t ∷ []) st = meanings_under t.body _ st
  rendered_under h (t ∷ u ∷ us) st = bound (sets_under t.body _ st) (λ r. rendered_under h (u ∷ us) r)

  performed_under : (x : Invocation) → Approximates (eval_invocation cenv c x) (eval_invocation cenv d x)
  performed_under x = search (arith, rules, bound, meanings_under, same, rendered_under)

-- Calls at most n deep approximate calls at most n + 1 deep.
pub calls_under : (cenv : CompileEnv) (n : ℕ) (x : Invocation)
    → Approximates (calls_below cenv n x) (calls_below cenv (suc n) x)
calls_under cenv zero x = less
calls_under cenv (suc n) x = performed_under cenv (calls_below cenv n) (calls_below cenv (suc n)) (calls_under cenv n) x

-- The meaning of a chain at depth n approximates the meaning at depth n + 1.
pub mean_under : (cenv : CompileEnv) (entry : Text) (context : Pairs) (n : ℕ)
    → Approximates (mean cenv entry context n) (mean cenv entry context (suc n))
mean_under cenv entry context n = search (arith, rules, performed_under, calls_under)

-- The meaning of a chain approximates the meaning at every greater depth.
more_under : {g h k : Eval Text} → Approximates g h → Approximates h k → Approximates g k
more_under a0 v = search (arith, rules, less)

later_under : (cenv : CompileEnv) (entry : Text) (context : Pairs) (n k m : ℕ) → m ≡ k + n
    → Approximates (mean cenv entry context n) (mean cenv entry context m)
later_under cenv entry context n zero m e = search (arith, rules, same)
later_under cenv entry context n (suc k) m e =
    let q : suc (k + n) ≡ m = omega arith in
    subst (λ z. Approximates (mean cenv entry context n) (mean cenv entry context z)) q
    (more_under (later_under cenv entry context n k (k + n) refl) (mean_under cenv entry context (k + n)))

-- A text or a fault is also the outcome at every greater depth.
pub mean_stays : (cenv : CompileEnv) (entry : Text) (context : Pairs) (n m : ℕ) → n ≤ m
    → Stays (mean cenv entry context n) (mean cenv entry context m)
mean_stays cenv entry context n m le = through (later_under cenv entry context n (m - n) m (omega arith))
  where
    itself : (g : Eval Text) → Stays g g
    itself (gives x) = refl
    itself (fails e p) = refl
    itself deeper = tt

    through : {g h : Eval Text} → Approximates g h → Stays g h
    through less = tt
    through {g = g} same = itself g
