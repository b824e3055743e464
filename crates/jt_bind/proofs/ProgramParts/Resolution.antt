-- The resolution of calls, filters and statements, part by part.
pub mod Concatenation
pub use Concatenation.*
use Rattle.jt_ids.specs.declared.filter_id.FilterId.TheVariants as filters
use Rattle.jt_semantics.specs.Expressions as meant
use Rattle.jt_ast.proofs.ExpressionViews as expr
use Rattle.jt_ast.proofs.StatementViews as stmt
use Rattle.jt_ast.specs.declared.expression.Expr.TheVariants as e
use Rattle.jt_bind.specs.declared.senv.StaticEnv as code_senv
use Rattle.jt_chains.specs.Chain.{Sources, in_library, is_private, no_callee}
use Rattle.std.proofs.lemmas.Bool.{or_right}
use Rattle.jt_chains.specs.Includes.{InOrder}
use Rattle.jt_semantics.proofs.RoutineLookup.{macro_named}
use Rattle.jt_semantics.proofs.DefinedNames.{LeadsTo, called_macro}
use Rattle.jt_semantics.proofs.ChainOrder.{libraries_stand}
use Rattle.jt_semantics.proofs.EnvLookup.{namespace_is}
use Rattle.jt_ast.specs.declared.statement.Parameter.{Parameter}
use Rattle.jt_filter_semantics.specs.FilterIds.{filter_of}
use Rattle.jt_ids.specs.declared.filter_id.FilterId.{FilterId}
use Rattle.jt_ast.specs.declared.statement.FilterCall.{FilterCall}
use Rattle.jt_eval.specs.TheFilters.{the_filters, filter_parameters, filter_written, parameters_of}
use Rattle.jt_ast.specs.declared.expression.Polarity.{Polarity}
use Rattle.jt_ast.specs.declared.expression.Expr.TheViews.{the_lemmas}
use Rattle.jt_semantics.specs.Layout.{chain_keys, index_of, names_in, of_chain}
use Rattle.jt_semantics.specs.Resolve as resolve
use resolve.{resolved_body, handed_on, in_form, left_out, operation_of, place, resolved_values, copied}
use Rattle.jt_semantics.specs.Operators as operators
use Rattle.jt_ast.specs.declared.expression.BinaryOperator.{BinaryOperator}
use Rattle.std.specs.Prelude.{◌&&◌}
use Rattle.jt_layout.proofs.LayoutCorrect.{others}
use Rattle.std.proofs.lemmas.Bool.Decides.{nat_tests}

-- ---- the views of expressions and statements

pub ruleset expression_views = (
  expr.view_List,
  expr.view_Map,
  expr.view_Attribute,
  expr.view_Item,
  expr.view_Call,
  expr.view_Filter,
  expr.view_Test,
  expr.view_Unary,
  expr.view_Binary,
  expr.view_When,
  expr.view_Choice,
)

pub ruleset statement_views = (
  stmt.view_Data,
  stmt.view_Print,
  stmt.view_If,
  stmt.view_For,
  stmt.view_Set,
  stmt.view_SetBlock,
  stmt.view_With,
  stmt.view_FilterBlock,
  stmt.view_Autoescape,
  stmt.view_Macro,
  stmt.view_Include,
  stmt.view_Import,
  stmt.view_From,
  stmt.view_Extends,
  stmt.view_Block,
)

-- ---- the namespace of a called macro

namespace_listed : (hs : List Namespace) (i : ℕ) → i < length hs → listed (namespace_at hs i) hs ≡ true
namespace_listed [] i lt = absurd (omega arith)
namespace_listed (h ∷ hs) zero lt = rw namespace_is
namespace_listed (h ∷ hs) (suc i) lt = search (arith, rules, or_right, namespace_listed hs i)

leads_there : (cenv : CompileEnv) (order : List Namespace) → InOrder cenv.sources order → (h : Namespace)
    → listed h order ≡ true → (k : Namespace) → LeadsTo cenv.sources h k → listed k order ≡ true
leads_there cenv order ordered h there k (inl e) = rw e there
leads_there cenv order ordered h there k (inr r) =
    rw r.1 (libraries_stand cenv order ordered h there r.0 r.2).known

-- A called macro is the first of its name in its namespace, and the namespace is laid out.
pub called_there : (s : Chains) → s.namespace < length (order_in s)
    → (f : expressions.Expr) (k : Namespace) (b : MacroBody)
    → callee_in s f ≡ a_macro k b
    → (macro_of b.name (macros (cenv_in s).sources k) ≡ Some b) × (listed k (order_in s) ≡ true)
called_there s inside f k b e =
    let ms = macros (cenv_in s).sources k in
    let found = called_macro (cenv_in s).sources (namespace_in s) f k b e in (
      ap (λ x. macro_of x ms) (macro_named (cenv_in s) (order_in s) found.0 b ms found.1) ∙ found.1,
      leads_there (cenv_in s) (order_in s) s.chain.now.order (namespace_in s)
          (namespace_listed (order_in s) s.namespace inside) k found.2,
    )

-- A library that is not laid out has no such macro.
pub nowhere : (cenv : CompileEnv) (order : List Namespace) (h : Namespace) (x : Text) → listed h order ≡ false
    → IsLaidThere cenv order h x → of_namespace h (macro_of x (macros cenv.sources h)) ≡ no_callee
nowhere cenv order h x e there = search (arith, rules, no_both)

-- ---- calls by the name of a library

pub member_is : (sources : Sources) (gs : List (Text × Definition)) (of x : Text) → bytes_eq of (codes "self") ≡ false
    → bytes_eq of (codes "loop") ≡ false
    → callee sources gs (attribute (name of) x) ≡ in_library sources (given_to of gs) x
member_is sources gs of x e f = search (arith, rules)

pub no_library : (sources : Sources) (o : Option Definition) (x : Text) → library_of o ≡ None
    → in_library sources o x ≡ no_callee
no_library sources a1 x e = search (arith, rules)

pub private_is : (sources : Sources) (o : Option Definition) (x n : Text) → library_of o ≡ Some n → is_private x ≡ true
    → in_library sources o x ≡ no_callee
private_is sources o x n e f = search (arith, rules)

pub public_is : (sources : Sources) (o : Option Definition) (x n : Text) → library_of o ≡ Some n → is_private x ≡ false
    → in_library sources o x ≡ of_namespace (a_library n) (macro_of x (macros sources (a_library n)))
public_is sources o x n e f = search (arith, rules)

-- ---- the resolution of callees

pub count_length : (ts : List Expr) → count (exprs_view ts) ≡ length ts
count_length [] = refl
count_length (t ∷ ts) = ap suc (count_length ts)

-- The call of a block, by the unit of its first body.
pub body_called : (cenv : CompileEnv) (order : List Namespace) (h : Namespace) (escaping : Bool) (i : Option ℕ) (u : ℕ)
    (es : Row)
    → Some u ≡ unit_of cenv order h i → invoke u escaping es ≡ invoked_body cenv order h escaping i es
body_called cenv order h escaping i u es e = search (arith, rules)

pub none_called : (cenv : CompileEnv) (order : List Namespace) (h : Namespace) (escaping : Bool) (i : Option ℕ)
    (es : Row)
    → None ≡ unit_of cenv order h i → absent ≡ invoked_body cenv order h escaping i es
none_called cenv order h escaping i es e = search (arith, rules)

-- One more name is read.
pub reads_next : (table : Table) (ks : List (Bor Text)) (i : ℕ) (d : Bor Text) (s : Option code_slot.Slot)
    → i < length ks → option_map slot_view s ≡ slot_in (get_or ks i d).now table
    → item (read_from (option_map slot_view s)) (reads table (texts (drop (i + 1) ks)))
    ≡ reads table (texts (drop i ks))
reads_next table ks i d s lt e = search (arith, rules, drop_more)

-- One more local is read.
pub locals_next : (xs : List Text) (i : ℕ) → i < length xs
    → item (variable (local i)) (first_locals (i + 1) (drop (i + 1) xs)) ≡ first_locals i (drop i xs)
locals_next xs i lt = rw (drop_more xs i [] lt, add-one) refl

-- ---- parameters that no positional argument fills

-- The parameters after those that positional arguments fill.
pub filled_behind : (ps : List trees.Parameter) (g d : ℕ) (ks : Table)
    → filled ps g d ks ≡ filled (drop g ps) 0 (d + g) ks
filled_behind ps zero d ks = ap (λ n. filled ps 0 n ks) (omega arith)
filled_behind [] (suc g) d ks = refl
filled_behind (p ∷ ps) (suc g) d ks = filled_behind ps g (suc d) ks ∙ ap (λ n. filled (drop g ps) 0 n ks) (omega arith)

pub filled_some_behind : (ps : List trees.Parameter) (g : ℕ) (xs : List Text) (ks : Table)
    → filled_some ps g xs ks ≡ filled_some (drop g ps) 0 xs ks
filled_some_behind ps zero xs ks = refl
filled_some_behind [] (suc g) xs ks = refl
filled_some_behind (p ∷ ps) (suc g) xs ks = filled_some_behind ps g xs ks

-- If no parameter is given by keyword, no more is filled.
pub none_filled : (ps : List trees.Parameter) (xs : List Text) (ks : Table) → some_given ps xs ≡ false
    → filled_some ps 0 xs ks ≡ slots.none
none_filled [] xs ks e = refl
none_filled (p ∷ ps) xs ks e = cc

-- A parameter is filled if it, or one after it, is given by keyword.
pub one_filled : (p : trees.Parameter) (ps : List trees.Parameter) (xs : List Text) (ks : Table)
    → some_given (p ∷ ps) xs ≡ true
    → filled_some (p ∷ ps) 0 xs ks
    ≡ slots.item (value_or (slot_in p.name ks) (own (default_value p.default))) (filled_some ps 0 xs ks)
one_filled p ps xs ks e = cc

-- The remaining parameters.
pub parameters_left : (ps : List Parameter) (i : ℕ) (p : Parameter) → i < length ps → p ≡ get_or ps i p
    → parameters_view (drop i ps) ≡ parameter_view p ∷ parameters_view (drop (i + 1) ps)
parameters_left ps i p lt is = rw (drop_more ps i p lt, ← is) refl

-- The parameters after the first g ones.
pub parameters_behind : (ps qs : List Parameter) (g : ℕ) → qs ≡ drop g ps
    → drop g (parameters_view ps) ≡ parameters_view qs
parameters_behind ps qs g e = drop-map parameter_view g ps ∙ ap parameters_view (sym e)

-- ---- the filters by their ids

has_filter : (x : FilterId) → filter_of (filter_id x) ≡ Some x
unfolding filter_of
has_filter filters.Abs = refl
has_filter x = refl

pub named_is : (x : Text) (ts : Exprs) (ps : Pairs)
    → the_filters.named x ts ps ≡ option_map filter_id (filter_written x ts ps)
unfolding the_filters
named_is x ts ps = refl

pub parameters_are : (f : FilterId) → meant.filter_parameters the_filters (Some (filter_id f)) ≡ filter_parameters f
unfolding the_filters
parameters_are f = ap parameters_of (has_filter f)

-- ---- the filters of a filter tag, in order

filter_push : (r : Resolver) (fs : List trees.FilterCall) (f : trees.FilterCall) (e : Term)
    → filters_of r (fs ++ f ∷ []) e ≡ filters_of r (f ∷ []) (filters_of r fs e)
filter_push r [] f e = refl
filter_push r (g ∷ gs) f e = filter_push r gs f (filters_of r (g ∷ []) e)

-- One more filter.
pub filters_next : (r : Resolver) (fs : List FilterCall) (i : ℕ) (f : FilterCall) (e : Term)
    → i < length fs → f ≡ get_or fs i f
    → filters_of r (filter_call_view f ∷ []) (filters_of r (filter_calls_view (take i fs)) e)
    ≡ filters_of r (filter_calls_view (take (i + 1) fs)) e
filters_next r fs i f e lt is =
    rw (take_more fs i f lt, ← is, map-append)
    (sym (filter_push r (filter_calls_view (take i fs)) (filter_call_view f) e))

-- An operator that requires its operands joins their texts.
pub joined_form : (strict escaping : Bool) (o : BinaryOperator) (a b : Term) → strict && operators.joins o ≡ true
    → operation_of (operators.join escaping) (slots.required_if true a) (slots.required_if true b)
    ≡ in_form (operators.form escaping o) (slots.required_if (strict && operators.joins o) a)
    (slots.required_if (strict && operators.joins o) b)
joined_form strict escaping o a b e = search (arith, rules)

-- A value that may be required.
pub required_placed : (b : Bool) (c : Term) (x : slots.SlotExpr ℕ) (p q : List Tree) → IsPlaced c x p q
    → IsPlaced (slots.required_if b c) (slots.required_if b x) p q
required_placed false c x p q h = h
required_placed true c x p q h = record {
  shown = ap (λ y. slots.made slots.required (slots.item y slots.none)) h.shown;
  pooled = rw append-nil h.pooled;
}

-- One more filter of a resolved value.
pub filter_placed : (k : NaryOp) (c : Term) (es : Row) (x : slots.SlotExpr ℕ) (row : List Entry)
    (p q r : List Tree)
    → IsPlaced c x p q → RowLeads es slots.none [] row q r
    → IsPlaced (slots.made k (slots.item c es)) (slots.made k (slots.item x (row_view row slots.none))) p r
filter_placed k c es x row p q r h g = record {
  shown = rw (h.shown, g.shown, grown_by p (expr_values c) q h.pooled);
  pooled = let added = rw append-nil at g.pooled in rw (added, h.pooled, append_assoc);
}

pub call_depth : (x : Expr) (us : List Expr) (qs : List (String Global × Expr)) (p : Box Expr Global)
    (ts : Vec Expr Global) (ps : Vec (String Global × Expr) Global)
    → x ≡ e.Call p ts ps → us ≡ ts.items → qs ≡ ps.items
    → max (most (λ y. size-Expr y) us) (most (λ y. size-Expr y.1) qs) < size-Expr x
call_depth x us qs p ts ps is f g = rw (is, f, g) (search (rules, the_lemmas))

pub filter_depth : (x a : Expr) (us : List Expr) (qs : List (String Global × Expr)) (p : Box Expr Global)
    (k : String Global) (ts : Vec Expr Global) (ps : Vec (String Global × Expr) Global)
    → x ≡ e.Filter p k ts ps
    → a ≡ p.value → us ≡ ts.items → qs ≡ ps.items
    → max (size-Expr a) (max (most (λ y. size-Expr y) us) (most (λ y. size-Expr y.1) qs)) < size-Expr x
filter_depth x a us qs p k ts ps is f g h = rw (is, f, g, h) (search (rules, the_lemmas))

pub test_depth : (x a : Expr) (us : List Expr) (p : Box Expr Global) (n : Polarity) (k : String Global)
    (ts : Vec Expr Global) (ps : Vec (String Global × Expr) Global)
    → x ≡ e.Test p n k ts ps
    → a ≡ p.value → us ≡ ts.items → max (size-Expr a) (most (λ y. size-Expr y) us) < size-Expr x
test_depth x a us p n k ts ps is f g = rw (is, f, g) (search (rules, the_lemmas))

pub ruleset expression_depths = (call_depth, filter_depth, test_depth)

-- ---- values of names in slots

pub texts_next : (ks : List (Bor Text)) (i : ℕ) (d : Bor Text) → i < length ks
    → texts (drop i ks) ≡ (get_or ks i d).now ∷ texts (drop (i + 1) ks)
texts_next ks i d lt = ap texts (drop_more ks i d lt)

pub copied_assigned : (pl : Place) (t : Table) (n : ℕ) (xs : List Text) (b : Stmts)
    → followed (assigned pl t (local n) xs) b ≡ copied pl t n xs b
copied_assigned pl t n [] b = refl
copied_assigned pl t n (x ∷ xs) b =
    ap (slots.stmt (slots.assign pl (one (local n)) (read_from (slot_in x t)))) (copied_assigned pl t (suc n) xs b)

pub handed_assigned : (pl : Place) (t : Table) (n : ℕ) (xs : List Text)
    → handed_on pl t n xs ≡ assigned pl t (global n) xs
handed_assigned pl t n [] = refl
handed_assigned pl t n (x ∷ xs) =
    ap (slots.stmt (slots.assign pl (one (global n)) (read_from (slot_in x t)))) (handed_assigned pl t (suc n) xs)

-- One more name is assigned.
pub assign_step : (templates : List Text) (pl : Place) (t : Table) (ks : List (Bor Text)) (i : ℕ) (s s' : Slot)
    (d : Bor Text) (e : slots.SlotExpr ℕ) (ss ts : List SlotStmt)
    → i < length ks → s' ≡ slot_after s
    → ((c : Term) (p q : List Tree) → IsPlaced c e p q
    → Emits templates (alone (slots.assign pl (one s) c)) ss ts p q)
    → ((p : List Tree) → IsPlaced (read_from (slot_in (get_or ks i d).now t)) e p p)
    → (left : Stmts) (p : List Tree)
    → BodyLeads templates (followed (assigned pl t s (texts (drop i ks))) left)
    (followed (assigned pl t s' (texts (drop (i + 1) ks))) left) ss ts p p
assign_step templates pl t ks i s s' d e ss ts lt next put reads left p =
    search (arith, rules, get_or, lead_of, texts_next)

-- ---- values of a `with` tag

pub values_followed : (cenv : CompileEnv) (order : List Namespace) (ps : Pairs) (sp : StaticEnv) (line : ℕ)
    (b left : Stmts)
    → followed (resolved_values cenv order ps sp line b) left ≡ resolved_values cenv order ps sp line (followed b left)
values_followed cenv order no_pairs sp line b left = refl
values_followed cenv order (pair x e ps) sp line b left = search (arith, rules, values_followed cenv order ps)

-- The resolver whose first free local is n.
abbrev pub freed : Resolver → ℕ → Resolver
freed r n = record r { senv = record r.senv { free = n } }

-- A filter tag: its text, and the result of its filters.
pub filter_shown : (r : Resolver) (line : ℕ) (fs : List trees.FilterCall) (b : trees.Body) (n : ℕ)
    → n ≡ r.senv.free + 1
    → followed (alone (slots.capture r.senv.escaping (local r.senv.free) (scoped_of r b (senv_of (freed r n)))))
    (alone (slots.print (line_of r line) r.senv.escaping
    (slots.required_if (cenv_in r.tables.now).strict
    (filters_of (freed r n) fs (slots.variable (local r.senv.free))))))
    ≡ stmt_of r (trees.filter_block line fs b)
filter_shown r line fs b n e = search (arith, rules, add-one)

-- The values of a `with` tag, followed by its body.
pub values_emitted : (r : Resolver) (ps : Pairs) (line : ℕ) (w : Stmts) (es fs gs : List SlotStmt)
    (p q u : List Tree)
    → Emits (templates_of r) (values_of r ps line slots.end) es fs p q
    → Emits (templates_of r) w fs gs q u → Emits (templates_of r) (values_of r ps line w) es gs p u
values_emitted r ps line w es fs gs p q u h g = search (arith, rules, emits_of, values_followed, emits_both)

-- Copies of the names that a scope sets, followed by its body.
pub scope_emitted : (r : Resolver) (b : trees.Body) (n : code_senv.StaticEnv) (es fs gs : List SlotStmt)
    (p u : List Tree)
    → senv_of (record r { senv = n }) ≡ inside_of r (set_in b)
    → Emits (templates_of r) (assigned (line_of r 1) (table_of r) (local r.senv.free) (set_in b)) es fs p p
    → Emits (templates_of r) (body_of (record r { senv = n }) b) fs gs p u
    → Emits (templates_of r) (scoped_of r b (senv_of r)) es gs p u
scope_emitted r b n es fs gs p u e h g =
    let first = assigned (line_of r 1) (table_of r) (local r.senv.free) (set_in b) in
    let body = body_of (record r { senv = n }) b in
    emits_of (templates_of r) (followed first body) (scoped_of r b (senv_of r)) es gs p u
    (ap (λ sp. followed first (resolved_body (cenv_in r.tables.now) (order_in r.tables.now) b sp)) e
    ∙ copied_assigned (line_of r 1) (table_of r) r.senv.free (set_in b) _)
    (emits_both (templates_of r) first body es fs gs p p u h g)

-- The environment of a loop's body may be replaced by an equal one.
pub turns_as : (r : Resolver) (b : trees.Body) (k : Option expressions.Expr) (sp sq : StaticEnv) (xs : Targets)
    (c : Term) (t : Turns) (p u v : List Tree)
    → sp ≡ sq → IsHead xs c (condition_in r.tables.now k sp) t.head.value p u
    → Emits (templates_of r) (scoped_of r b sp) [] t.body.items u v
    → AreTurns r.tables.now xs c (condition_in r.tables.now k sq) (scoped_of r b sq) t p v
turns_as r b k sp sq xs c t p u v e h w = search (arith, rules, emits_of)

-- ---- blocks at their tags, and includes

pub no_row : (es : List Entry) → es ≡ [] → (p : List Tree) → RowLeads slots.none slots.none [] es p p
no_row es e p = rw e lead_none

-- ---- chains that are not in the order

pub absent_names : (cenv : CompileEnv) (ks : List Namespace) (h : Namespace) → listed h ks ≡ false
    → names_in cenv ks h ≡ []
absent_names cenv [] h e = refl
absent_names cenv (k ∷ ks) h e = search (arith, rules, no_both, flat_map, absent_names cenv ks h)

pub absent_unit : (cenv : CompileEnv) (ks : List Namespace) (x : Text) → listed (a_chain x) ks ≡ false
    → index_of (of_chain x) (flat_map (chain_keys cenv) ks) ≡ length (flat_map (chain_keys cenv) ks)
absent_unit cenv [] x e = refl
absent_unit cenv (k ∷ ks) x e =
    search (arith, rules, no_both, flat_map, absent_unit cenv ks x, others, length-append)

-- ---- statements

pub include_shown : (r : Resolver) (line : ℕ) (x : Text) (missing context : Bool) (n : ℕ) (xs : List Text) (u : ℕ)
    → is_none ((cenv_in r.tables.now).sources x) ≡ false
    → n ≡ first_slot (cenv_in r.tables.now) (order_in r.tables.now) (a_chain x)
    → xs ≡ names (cenv_in r.tables.now) (order_in r.tables.now) (a_chain x)
    → u ≡ unit (cenv_in r.tables.now) (order_in r.tables.now) (of_chain x)
    → followed (assigned (line_of r line) (if context then table_of r else []) (global n) xs)
    (alone (slots.run u slots.none))
    ≡ stmt_of r (trees.include line x missing context)
include_shown r line x missing context n xs u there e f g = search (arith, rules, handed_assigned)

-- An include of a name without a source.
pub include_missing : (r : Resolver) (line : ℕ) (x : Text) (missing context : Bool)
    → is_none ((cenv_in r.tables.now).sources x) ≡ true
    → left_out (senv_of r) line missing ≡ stmt_of r (trees.include line x missing context)
include_missing r line x missing context gone = search (arith, rules)

pub block_run : (cenv : CompileEnv) (order : List Namespace) (sp : StaticEnv) (found : Option ℕ) (x : Text)
    (table : Table) (u : ℕ)
    → Some u ≡ option_map (λ j. unit cenv order (of_body sp.namespace j)) found
    → alone (slots.run u (reads table (block_parameters cenv order sp.namespace x)))
    ≡ resolve.placed_body cenv order sp found x table
block_run cenv order sp found x table u e = search (arith, rules)

-- A block without a body.
pub block_absent : (cenv : CompileEnv) (order : List Namespace) (sp : StaticEnv) (found : Option ℕ) (x : Text)
    (table : Table)
    → None ≡ option_map (λ j. unit cenv order (of_body sp.namespace j)) found
    → alone (slots.print (place sp 1) sp.escaping slots.absent) ≡ resolve.placed_body cenv order sp found x table
block_absent cenv order sp found x table e = search (arith, rules)

-- ---- the templates of a chain, in order

-- A statement that is kept if it sets names.
pub sets_next : (b : Bool) (a rest left : Stmts)
    → followed (if b then a else slots.end) (followed rest left) ≡ followed (if b then followed a rest else rest) left
sets_next b a rest left = search (arith, rules, followed_again)

abbrev pub is_nil : {A : Type 0} → List A → Bool
is_nil [] = true
is_nil (x ∷ xs) = false

-- A template before the remaining ones of its chain.
chain_next : (s : Chains) (t : Template) (ts : List Template) (root : Bool) → root ≡ is_nil ts
    → followed (layer_in s t root) (chained_in s ts)
    ≡ chained_in s (t ∷ ts)
chain_next s t [] root e = ap (λ b. followed (layer_in s t b) slots.end) e ∙ followed_end (layer_in s t true)
chain_next s t (u ∷ us) root e =
    ap (λ b. followed (layer_in s t b) (chained_in s (u ∷ us))) e

nil_same : {A B : Type 0} (f : A → B) (xs : List A) → is_nil (map f xs) ≡ is_nil xs
nil_same f [] = refl
nil_same f (x ∷ xs) = refl

nil_long : {A : Type 0} (xs : List A) (n m : ℕ) → n + length xs ≡ m → (n == m) ≡ is_nil xs
nil_long [] n m e = grind (arith, nat_tests)
nil_long (x ∷ xs) n m e = let longer : n + suc (length xs) ≡ m = e in grind (arith, nat_tests)

-- The index of a template is the last one if and only if no template remains after it.
pub root_here : (ts : List Template) (ls : List Layer) (i : ℕ) (root : Bool) → i < length ls
    → root ≡ (i + 1 == length ls) → root ≡ is_nil (map (layer_view ts) (drop (i + 1) ls))
root_here ts ls i root lt e = search (arith, rules, length-drop, nil_long, nil_same)

-- The remaining templates are this one and those after it.
pub layers_turn : (s : Chains) (ts : List Template) (ls : List Layer) (i : ℕ) (x : Layer) (root : Bool)
    (left : Stmts)
    → i < length ls → x ≡ get_or ls i x → root ≡ is_nil (map (layer_view ts) (drop (i + 1) ls))
    → followed (layer_in s (layer_view ts x) root)
    (followed (chained_in s (map (layer_view ts) (drop (i + 1) ls))) left)
    ≡ followed (chained_in s (map (layer_view ts) (drop i ls))) left
layers_turn s ts ls i x root left lt is e =
    rw (drop_more ls i x lt, ← is) (search (arith, rules, followed_again, chain_next))
