-- The meaning of expressions, by names.
use Rattle.std.specs.Prelude.{ℕ, pos, ◌==◌, List, [], ◌∷◌, length, Bool, true, false, not, ◌&&◌, Option, Some, None}
use Rattle.std.specs.Prelude.{if◌then◌else◌}
use Rattle.jt_value.specs.Tree as tree
use Rattle.jt_value.specs.Tree.{Tree}
use Rattle.jt_value.specs.Pairs.{Pairs}
use Rattle.jt_value.specs.View.{items_of}
use Rattle.jt_ids.specs.declared.op_id.OpId.TheVariants as op
use Rattle.jt_op_semantics.specs.Ranges.{ranged}
use Rattle.jt_op_semantics.specs.Making.{listed, mapped}
use Rattle.jt_ast.specs.Expressions as trees
use Rattle.jt_ast.specs.Expressions.{Expr, constant, name, group, list_of, map_of, attribute, item, call, filter, test}
use Rattle.jt_ast.specs.Expressions.{unary, binary, when, choice, Exprs, no_exprs, expr, no_pairs, pair, Text}
use Rattle.jt_semantics.specs.Operators.{unary_operation, OperatorForm, operation, negation, conjunction, disjunction}
use Rattle.jt_semantics.specs.Operators.{form, joins}
use Rattle.jt_eval.specs.Tests.{test_named}
use Rattle.jt_eval.specs.Values.{literal, as_value, required_if}
use Rattle.jt_eval.specs.Eval.{Eval, gives, deeper, bind, checked}
use Rattle.jt_ast.specs.Statements.{Parameter}
use Rattle.jt_semantics.specs.Env.{Env, read, top}
use Rattle.jt_chains.specs.Chain.{Namespace, a_chain, a_library, BlockBody, bodies, from_given, given, Callee, a_macro}
use Rattle.jt_chains.specs.Chain.{a_range, a_super, a_block, a_cycle, no_callee, callee, is_loop}
use Rattle.jt_ids.specs.declared.loop_field.LoopField.{LoopField}
use Rattle.jt_ids.specs.declared.loop_field.LoopField.TheVariants.{Index0}
use Rattle.jt_ids.specs.LoopTable.{field_named}
use Rattle.jt_eval.specs.Loops.{Loop, loop_field}
use Rattle.jt_eval.specs.Filters.{Filters, parameters, arguments}
use Rattle.jt_rules.specs.CompileEnv.{CompileEnv}
use Rattle.jt_semantics.specs.EvalContext.{Placement, EvalContext, the_macro, the_block, Calls}
use Rattle.jt_ids.specs.declared.op_id.OpId.{OpId}
use Rattle.jt_ids.specs.declared.test_id.TestId.{TestId}
use Rattle.jt_ids.specs.declared.filter_id.FilterId.TheVariants.{Default}
use Rattle.jt_ids.specs.FilterTable.{filter_id}
use Rattle.jt_op_semantics.specs.Operation as operators
use Rattle.jt_op_semantics.specs.Operation.{as_truth}
use Rattle.jt_op_semantics.specs.Testing.{tested}
use Rattle.jt_chains.specs.Uses.{keywords}

-- The result of an operator on values, as an outcome.
abbrev pub operated : OpId → List Tree → Eval Tree
operated o vs = checked (operators.operation o vs)

-- The outcome of a test on values, as a truth value. An unknown test has neither text nor fault at
-- any depth: the parser refuses it.
abbrev pub asked : Option TestId → Eval (List Tree) → Eval Tree
asked None g = deeper
asked (Some t) g = bind g (λ vs. checked (as_truth (tested t vs)))

-- The value, with its truth negated if the flag is true.
abbrev pub turned : Bool → Eval Tree → Eval Tree
turned false g = g
turned true g = bind g (λ v. operated op.Not (v ∷ []))

-- The second or the third value, by the truth of the first one.
abbrev pub either : Eval Tree → Eval Tree → Eval Tree → Eval Tree
either c g h = bind c (λ v. if tree.truth v then g else h)

-- The value of an operator between two operands.
abbrev pub combined : OperatorForm → Eval Tree → Eval Tree → Eval Tree
combined (operation o) g h = bind g (λ v. bind h (λ w. operated o (v ∷ w ∷ [])))
combined (negation o) g h = turned true (bind g (λ v. bind h (λ w. operated o (v ∷ w ∷ []))))
combined conjunction g h = bind g (λ v. if tree.truth v then h else gives v)
combined disjunction g h = bind g (λ v. if tree.truth v then gives v else h)

-- The result of a filter on values. An unknown filter has neither text nor fault at any depth: the
-- parser refuses it.
abbrev pub filtered : Filters → Option ℕ → Bool → Eval (List Tree) → Eval Tree
filtered fs None escaping g = deeper
filtered fs (Some f) escaping g = bind g (λ vs. checked (fs.operation f escaping vs))

-- The list that alternates the keys and the values.
abbrev pub entries_of : Pairs → List Tree
entries_of [] = []
entries_of (b ∷ bs) = tree.text b.0 ∷ b.1 ∷ entries_of bs

-- A field of the innermost loop. An unknown field, and each field outside a loop, has neither text
-- nor fault at any depth: the rules refuse both.
abbrev pub field_of : Option LoopField → Option Loop → Eval Tree
field_of None l = deeper
field_of (Some f) l = loop_field f l

-- `loop.cycle(..)`: the argument whose index is the turn's, modulo the number of arguments. Outside
-- a loop it has neither text nor fault at any depth.
abbrev pub cycled : Option Loop → List Tree → Eval Tree
cycled l vs =
    bind (loop_field Index0 l) (λ i. bind (operated op.Remainder (i ∷ tree.number (pos (length vs)) ∷ [])) (λ k.
    operated op.Item (tree.list (items_of vs) ∷ k ∷ [])))

-- The parameters of a filter. An unknown filter has no parameters.
abbrev pub filter_parameters : Filters → Option ℕ → List Parameter
filter_parameters fs None = []
filter_parameters fs (Some f) = fs.parameters f

-- The text of a block in an environment, which is the text of the first body. Without a body it has
-- neither text nor fault at any depth: the rules ensure that a body exists.
abbrev pub block_text : Calls → Namespace → List BlockBody → Env → Eval Text
block_text calls namespace [] env = deeper
block_text calls namespace (b ∷ bs) env = calls (the_block namespace b bs env)

-- The text of `super()`. Outside a block it has neither text nor fault at any depth: the rules
-- refuse it.
abbrev pub super_text : Calls → Namespace → Option Placement → Eval Text
super_text calls namespace None = deeper
super_text calls namespace (Some p) = block_text calls namespace (from_given p.behind) p.env

-- The globals that a macro sees: the globals of its chain. A macro of a library sees no globals.
abbrev pub seen_by : Namespace → Pairs → Pairs
seen_by (a_chain n) globals = globals
seen_by (a_library n) globals = []

-- The value of a text: markup if the flag is true.
abbrev pub valued_text : Bool → Eval Text → Eval Tree
valued_text escaping g = bind g (λ s. gives (as_value escaping s))

-- Whether the input of a filter must be defined: each filter of strict templates but `default`
-- requires its input.
abbrev pub requires_input : Bool → Option ℕ → Bool
requires_input strict None = false
requires_input strict (Some f) = strict && not (f == filter_id Default)

module _ (cenv : CompileEnv) (calls : Calls) where
  -- The value of a call, by the values of its arguments. An expression that cannot be called has
  -- neither text nor fault at any depth: it breaks the rules.
  abbrev pub called : Callee → EvalContext → Env → Eval (List Tree) → Eval Pairs → Eval Tree
  called (a_macro namespace m) around env positional keyed =
      bind positional (λ vs.
      bind keyed (λ ks.
      valued_text around.escaping
      (calls (the_macro namespace m (parameters m.parameters vs ks) (seen_by namespace env.globals)))))
  called a_range around env positional keyed = bind positional (λ vs. checked (ranged vs))
  called a_super around env positional keyed =
      valued_text around.escaping (super_text calls around.namespace around.block)
  called (a_block x) around env positional keyed =
      valued_text around.escaping
      (block_text calls around.namespace (bodies cenv.sources cenv.escaping around.namespace x) (top env.globals))
  called a_cycle around env positional keyed = bind positional (cycled around.loop)
  called no_callee around env positional keyed = deeper

  abbrev mutual
    pub value : Expr → EvalContext → Env → Eval Tree
    value (constant l) around env = gives (literal l)
    value (name x) around env = gives (read env x)
    value (group e) around env = value e around env
    value (list_of items) around env = bind (values items around env) (λ vs. checked (listed vs))
    value (map_of pairs) around env = bind (named_values pairs around env) (λ bs. checked (mapped (entries_of bs)))
    value (attribute e k) around env =
        if is_loop e then field_of (field_named k) around.loop
        else bind (value e around env) (λ v. operated op.Item (v ∷ tree.text k ∷ []))
    value (item e k) around env =
        bind (value e around env) (λ v. bind (value k around env) (λ w. operated op.Item (v ∷ w ∷ [])))
    value (call f positional pairs) around env =
        called (callee cenv.sources (given cenv.sources around.namespace) f) around env (values positional around env)
        (named_values pairs around env)
    value (filter e x positional pairs) around env =
        filtered cenv.filters (cenv.filters.named x positional pairs) around.escaping
        (bind (required_if (requires_input cenv.strict (cenv.filters.named x positional pairs)) (value e around env))
        (λ v. bind (values positional around env) (λ vs. bind (named_values pairs around env) (λ ks.
        gives (v
        ∷ arguments (filter_parameters cenv.filters (cenv.filters.named x positional pairs)) vs (keywords pairs) ks)))))
    value (test e n x positional pairs) around env =
        turned n (asked (test_named x)
        (bind (value e around env) (λ v. bind (values positional around env) (λ vs. gives (v ∷ vs)))))
    value (unary o e) around env = bind (value e around env) (λ v. operated (unary_operation o) (v ∷ []))
    -- In strict templates `~` requires both operands.
    value (binary o e f) around env =
        combined (form around.escaping o) (required_if (cenv.strict && joins o) (value e around env))
        (required_if (cenv.strict && joins o) (value f around env))
    value (when c e) around env = either (value c around env) (value e around env) (gives tree.undefined)
    value (choice c e f) around env = either (value c around env) (value e around env) (value f around env)

    -- The values of expressions, evaluated from left to right.
    pub values : Exprs → EvalContext → Env → Eval (List Tree)
    values no_exprs around env = gives []
    values (expr e rest) around env =
        bind (value e around env) (λ v. bind (values rest around env) (λ vs. gives (v ∷ vs)))

    pub named_values : trees.Pairs → EvalContext → Env → Eval Pairs
    named_values no_pairs around env = gives []
    named_values (pair x e pairs) around env =
        bind (value e around env) (λ v. bind (named_values pairs around env) (λ bs. gives ((x, v) ∷ bs)))
