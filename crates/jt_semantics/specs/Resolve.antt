-- The resolution of names to slots, and of macros, blocks and chains to routines.
use Rattle.std.specs.Prelude.{ℕ, zero, suc, ◌+◌, length, pos, max, Bool, true, false, ◌&&◌, List, [], ◌∷◌, map, Option}
use Rattle.std.specs.Prelude.{Some, None, if◌then◌else◌}
use Rattle.std.specs.Option.{is_none}
use Rattle.std.specs.Str.{bytes_eq}
use Rattle.jt_value.specs.Tree as tree
use Rattle.jt_ids.specs.declared.op_id.OpId.{OpId}
use Rattle.jt_ids.specs.declared.op_id.OpId.TheVariants as op
use Rattle.jt_ids.specs.declared.test_id.TestId.{TestId}
use Rattle.jt_ast.specs.Expressions.{Expr, constant, name, group, list_of, map_of, attribute, item, call, filter, test}
use Rattle.jt_ast.specs.Expressions.{unary, binary, when, choice, Exprs, no_exprs, expr, Pairs, no_pairs, pair, Text}
use Rattle.jt_value.specs.Place.{Place}
use Rattle.jt_semantics.specs.Operators.{unary_operation, OperatorForm, operation, negation, conjunction, disjunction}
use Rattle.jt_semantics.specs.Operators.{form, joins, range_of}
use Rattle.jt_eval.specs.Tests.{test_named}
use Rattle.jt_eval.specs.Values.{literal}
use Rattle.jt_chains.specs.Uses.{count, keywords, set_in}
use Rattle.jt_ast.specs.Statements.{Parameter, FilterCall, Stmt, data_of, print, choose, for_each, set, set_block}
use Rattle.jt_ast.specs.Statements.{with_values, filter_block, autoescape, macro, include, import_as, import_from}
use Rattle.jt_ast.specs.Statements.{extends, block, Body, end, stmt, Branches, no_branches, branch}
use Rattle.jt_chains.specs.Chain.{Namespace, a_chain, Template, templates, BlockBody, MacroBody, given, Callee, a_macro}
use Rattle.jt_chains.specs.Chain.{a_range, a_super, a_block, a_cycle, no_callee, callee, is_loop}
use Rattle.jt_ids.specs.declared.loop_field.LoopField.{LoopField}
use Rattle.jt_ids.specs.declared.loop_field.LoopField.TheVariants.{Index0}
use Rattle.jt_ids.specs.LoopTable.{field_named}
use Rattle.jt_eval.specs.Filters.{default_value, some_given}
use Rattle.jt_ast.specs.Texts.{among}
use Rattle.jt_rules.specs.CompileEnv.{CompileEnv}
use Rattle.jt_semantics.specs.Expressions.{filter_parameters, requires_input}
use Rattle.jt_semantics.specs.Meaning.{is_set}
use Rattle.jt_semantics.specs.Layout.{Table, slot_in, of_chain, of_macro, of_body, names, numbered_of, first_slot}
use Rattle.jt_semantics.specs.Layout.{globals, block_parameters, unit, default_index}
use Rattle.jt_ir.specs.Slots as slots
use Rattle.jt_ir.specs.Slots.{Slot, local, global, SlotExpr, pooled, variable, field, absent, made, invoke, operator}
use Rattle.jt_ir.specs.Slots.{a_list, a_map, SRow, none, aside, Targets, one, several, SlotStmt, put_pooled, assign}
use Rattle.jt_ir.specs.Slots.{if_else, capture, run, SBody, Routine, required_if}
use Rattle.jt_ir.specs.Locals.{body_locals}
use Rattle.jt_ir.specs.Pool.{Constant, own, known}

-- ---- Parts of resolved trees

abbrev pub no_value : SlotExpr Constant
no_value = pooled (known 0)

abbrev pub value_or : Option Slot → Constant → SlotExpr Constant
value_or None k = pooled k
value_or (Some s) k = variable s

-- The read of a name. A name without a slot is undefined.
abbrev pub read_from : Option Slot → SlotExpr Constant
read_from s = value_or s (known 0)

-- The operation on two operands.
abbrev pub operation_of : OpId → SlotExpr Constant → SlotExpr Constant → SlotExpr Constant
operation_of o a b = made (operator o) (slots.item a (slots.item b none))

abbrev pub turned_round : Bool → SlotExpr Constant → SlotExpr Constant
turned_round false e = e
turned_round true e = made (operator op.Not) (slots.item e none)

-- The expression of a test on a row. An unknown test is absent: the parser refuses it.
abbrev pub tested_by : Option TestId → SRow Constant → SlotExpr Constant
tested_by None es = absent
tested_by (Some t) es = made (slots.test t) es

abbrev pub filtered_by : Option ℕ → Bool → SRow Constant → SlotExpr Constant
filtered_by None escaping es = absent
filtered_by (Some f) escaping es = made (slots.filter f escaping) es

abbrev pub in_form : OperatorForm → SlotExpr Constant → SlotExpr Constant → SlotExpr Constant
in_form (operation o) a b = operation_of o a b
in_form (negation o) a b = turned_round true (operation_of o a b)
in_form conjunction a b = slots.conjunction a b
in_form disjunction a b = slots.disjunction a b

abbrev pub field_from : Option LoopField → SlotExpr Constant
field_from None = absent
field_from (Some f) = field f

abbrev pub followed : SBody Constant → SBody Constant → SBody Constant
followed slots.end b = b
followed (slots.stmt s rest) b = slots.stmt s (followed rest b)

abbrev pub alone : SlotStmt Constant → SBody Constant
alone s = slots.stmt s slots.end

-- The table of names in consecutive locals from n on.
abbrev pub locals_from : ℕ → List Text → Table
locals_from n [] = []
locals_from n (x ∷ xs) = (x, local n) ∷ locals_from (suc n) xs

-- The targets that are consecutive locals from n on, one for each name.
abbrev pub fresh : ℕ → List Text → List (Option Slot)
fresh n [] = []
fresh n (x ∷ xs) = Some (local n) ∷ fresh (suc n) xs

abbrev pub fresh_targets : ℕ → List Text → Targets
fresh_targets n (x ∷ []) = one (local n)
fresh_targets n xs = several (fresh n xs)

-- The slots of names that are set. Only the last occurrence of a repeated name has a slot.
abbrev pub kept_slots : Table → List Text → List (Option Slot)
kept_slots table [] = []
kept_slots table (x ∷ xs) = (if among x xs then None else slot_in x table) ∷ kept_slots table xs

-- The slot of a name that is set. Each such name has a slot.
abbrev pub slot_of : Text → Table → Slot
slot_of x [] = local 0
slot_of x (b ∷ bs) = if bytes_eq b.0 x then b.1 else slot_of x bs

abbrev pub set_targets : Table → List Text → Targets
set_targets table (x ∷ []) = one (slot_of x table)
set_targets table xs = several (kept_slots table xs)

-- The arguments for a macro's parameters after the first `given`, which have arguments by position.
-- Each one is the local of an argument by name, or the default. The defaults are in the pool from
-- index d on.
abbrev pub filled : List Parameter → ℕ → ℕ → Table → SRow Constant
filled [] given d keyword_slots = none
filled (p ∷ ps) (suc given) d keyword_slots = filled ps given (suc d) keyword_slots
filled (p ∷ ps) zero d keyword_slots =
    slots.item (value_or (slot_in p.name keyword_slots) (known d)) (filled ps zero (suc d) keyword_slots)

-- The arguments for a filter's parameters after the first `given`, up to the last one that is given
-- by name.
abbrev pub filled_some : List Parameter → ℕ → List Text → Table → SRow Constant
filled_some [] given xs keyword_slots = none
filled_some (p ∷ ps) (suc given) xs keyword_slots = filled_some ps given xs keyword_slots
filled_some (p ∷ ps) zero xs keyword_slots =
    if some_given (p ∷ ps) xs
    then slots.item (value_or (slot_in p.name keyword_slots) (own (default_value p.default)))
    (filled_some ps zero xs keyword_slots)
    else none

-- The reads of consecutive locals from n on, one for each name.
abbrev pub first_locals : ℕ → List Text → SRow Constant
first_locals n [] = none
first_locals n (x ∷ xs) = slots.item (variable (local n)) (first_locals (suc n) xs)

-- The reads of the names, by the table.
abbrev pub reads : Table → List Text → SRow Constant
reads table [] = none
reads table (x ∷ xs) = slots.item (read_from (slot_in x table)) (reads table xs)

-- The assignments of the values of names to consecutive globals from n on.
abbrev pub handed_on : Place → Table → ℕ → List Text → SBody Constant
handed_on p table n [] = slots.end
handed_on p table n (x ∷ xs) =
    slots.stmt (assign p (one (global n)) (read_from (slot_in x table)))
    (handed_on p table (suc n) xs)

-- ---- Static environments

-- The block's body that is resolved: the name of its block, and the later bodies with their
-- indices.
pub record Part : Type 0 where
  pub name : Text
  pub behind : List (ℕ × BlockBody)

-- The environment in which a term is resolved. Locals from `free` on are unused.
pub record StaticEnv : Type 0 where
  pub namespace : Namespace
  pub template : Text
  pub escaping : Bool
  pub part : Option Part
  pub table : Table
  pub free : ℕ

abbrev pub place : StaticEnv → ℕ → Place
place senv line = record { template = senv.template; line = line }

-- The statements of an include of a name without a source. If it may be missing, there are no
-- statements. If it may not, it is absent: the rules refuse it.
abbrev pub left_out : StaticEnv → ℕ → Bool → SBody Constant
left_out senv line true = slots.end
left_out senv line false = alone (slots.print (place senv line) senv.escaping absent)

-- The environment with one more local in use.
abbrev pub grown : StaticEnv → StaticEnv
grown senv = record senv { free = suc senv.free }

-- The table with these names in consecutive locals from n on. A later name hides an earlier one.
abbrev pub bound_table : List Text → ℕ → Table → Table
bound_table [] n table = table
bound_table (x ∷ xs) n table = bound_table xs (suc n) ((x, local n) ∷ table)

abbrev pub bound_all : List Text → StaticEnv → StaticEnv
bound_all xs senv = record senv { table = bound_table xs senv.free senv.table; free = senv.free + length xs }

-- The assignments of the values of names to consecutive locals from n on, followed by a body.
abbrev pub copied : Place → Table → ℕ → List Text → SBody Constant → SBody Constant
copied p table n [] behind = behind
copied p table n (x ∷ xs) behind =
    slots.stmt (assign p (one (local n)) (read_from (slot_in x table)))
    (copied p table (suc n) xs behind)

-- A scope that sets these names. Each name has a local of its own, which begins with the value of
-- the name outside.
abbrev pub scoped : List Text → StaticEnv → (StaticEnv → SBody Constant) → SBody Constant
scoped xs senv inner = copied (place senv 1) senv.table senv.free xs (inner (bound_all xs senv))

-- The index of the body that `super()` calls: the first one that is not required.
abbrev pub next_given : List (ℕ × BlockBody) → Option ℕ
next_given [] = None
next_given (b ∷ bs) = if b.1.required then next_given bs else Some b.0

abbrev pub first_body : List (ℕ × BlockBody) → Option ℕ
first_body [] = None
first_body (b ∷ bs) = Some b.0

module _ (cenv : CompileEnv) (order : List Namespace) where
  -- ---- Calls

  -- A body as a value. A missing body is absent; the rules ensure that it exists.
  abbrev pub invoked_body : Namespace → Bool → Option ℕ → SRow Constant → SlotExpr Constant
  invoked_body namespace escaping None arguments = absent
  invoked_body namespace escaping (Some i) arguments = invoke (unit cenv order (of_body namespace i)) escaping arguments

  -- The call of the next body of the block in the scope of this one, to which its parameters are
  -- passed. Outside a block it is absent: the rules refuse it.
  abbrev pub invoked_super : StaticEnv → Option Part → SlotExpr Constant
  invoked_super senv None = absent
  invoked_super senv (Some p) =
      invoked_body senv.namespace senv.escaping (next_given p.behind)
      (first_locals 0 (block_parameters cenv order senv.namespace p.name))

  -- The expression of a call. Two functions put its arguments by position and by name before a row.
  -- `given` is the number of arguments by position, and `keyword_slots` has the locals of the
  -- arguments by name.
  abbrev pub invoked : Callee → StaticEnv → (SRow Constant → SRow Constant)
      → (SRow Constant → SRow Constant) → ℕ → Table → SlotExpr Constant
  invoked (a_macro namespace m) senv row asides given keyword_slots =
      invoke (unit cenv order (of_macro namespace m.name)) senv.escaping
      (row (asides (filled m.parameters given (default_index cenv order namespace m.name) keyword_slots)))
  invoked a_range senv row asides given keyword_slots = made (operator (range_of given)) (row none)
  invoked a_super senv row asides given keyword_slots = invoked_super senv senv.part
  invoked (a_block x) senv row asides given keyword_slots =
      invoked_body senv.namespace senv.escaping (first_body (numbered_of cenv senv.namespace x))
      (reads (globals cenv order senv.namespace) (block_parameters cenv order senv.namespace x))
  invoked a_cycle senv row asides given keyword_slots =
      operation_of op.Item (made a_list (row none))
      (operation_of op.Remainder (field Index0) (pooled (own (tree.number (pos given)))))
  invoked no_callee senv row asides given keyword_slots = absent

  -- ---- Expressions: arguments by name are stored in the first unused locals

  abbrev mutual
    pub resolved : Expr → StaticEnv → SlotExpr Constant
    resolved (constant l) senv = pooled (own (literal l))
    resolved (name x) senv = read_from (slot_in x senv.table)
    resolved (group a) senv = resolved a senv
    resolved (list_of items) senv = made a_list (resolved_row items senv none)
    resolved (map_of pairs) senv = made a_map (resolved_entries pairs senv)
    resolved (attribute a k) senv =
        if is_loop a
        then field_from (field_named k)
        else operation_of op.Item (resolved a senv) (pooled (own (tree.text k)))
    resolved (item a b) senv = operation_of op.Item (resolved a senv) (resolved b senv)
    resolved (call f positional pairs) senv =
        invoked (callee cenv.sources (given cenv.sources senv.namespace) f) senv (resolved_row positional senv)
        (resolved_asides pairs senv) (count positional) (locals_from senv.free (keywords pairs))
    resolved (filter a x positional pairs) senv =
        filtered_by (cenv.filters.named x positional pairs) senv.escaping
        (slots.item (required_if (requires_input cenv.strict (cenv.filters.named x positional pairs)) (resolved a senv))
        (resolved_row positional senv (resolved_asides pairs senv
        (filled_some (filter_parameters cenv.filters (cenv.filters.named x positional pairs)) (count positional)
        (keywords pairs) (locals_from senv.free (keywords pairs))))))
    resolved (test a n x positional pairs) senv =
        turned_round n
        (tested_by (test_named x) (slots.item (resolved a senv) (resolved_row positional senv none)))
    resolved (unary o a) senv = made (operator (unary_operation o)) (slots.item (resolved a senv) none)
    resolved (binary o a b) senv =
        in_form (form senv.escaping o) (required_if (cenv.strict && joins o) (resolved a senv))
        (required_if (cenv.strict && joins o) (resolved b senv))
    resolved (when c a) senv = slots.choice (resolved c senv) (resolved a senv) no_value
    resolved (choice c a b) senv = slots.choice (resolved c senv) (resolved a senv) (resolved b senv)

    -- The row with these expressions before it.
    pub resolved_row : Exprs → StaticEnv → SRow Constant → SRow Constant
    resolved_row no_exprs senv behind = behind
    resolved_row (expr a rest) senv behind = slots.item (resolved a senv) (resolved_row rest senv behind)

    pub resolved_asides : Pairs → StaticEnv → SRow Constant → SRow Constant
    resolved_asides no_pairs senv behind = behind
    resolved_asides (pair k a pairs) senv behind =
        aside senv.free (resolved a senv) (resolved_asides pairs (grown senv) behind)

    pub resolved_entries : Pairs → StaticEnv → SRow Constant
    resolved_entries no_pairs senv = none
    resolved_entries (pair k a pairs) senv =
        slots.item (pooled (own (tree.text k)))
        (slots.item (resolved a senv) (resolved_entries pairs senv))

  abbrev pub resolved_condition : Option Expr → StaticEnv → Option (SlotExpr Constant)
  resolved_condition None senv = None
  resolved_condition (Some c) senv = Some (resolved c senv)

  -- The expression with each filter applied in order.
  abbrev pub resolved_filters : List FilterCall → StaticEnv → SlotExpr Constant → SlotExpr Constant
  resolved_filters [] senv e = e
  resolved_filters (f ∷ fs) senv e =
      resolved_filters fs senv (filtered_by (cenv.filters.named f.name f.arguments f.keywords) senv.escaping
      (slots.item (required_if (requires_input cenv.strict (cenv.filters.named f.name f.arguments f.keywords)) e)
      (resolved_row f.arguments senv (resolved_asides f.keywords senv
      (filled_some (filter_parameters cenv.filters (cenv.filters.named f.name f.arguments f.keywords))
      (count f.arguments) (keywords f.keywords) (locals_from senv.free (keywords f.keywords)))))))

  -- ---- Statements

  -- The assignment of each value to a local. All values read the outer names.
  abbrev pub resolved_values : Pairs → StaticEnv → ℕ → SBody Constant → SBody Constant
  resolved_values no_pairs senv line behind = behind
  resolved_values (pair x e pairs) senv line behind =
      slots.stmt (assign (place senv line) (one (local senv.free)) (resolved e senv))
      (resolved_values pairs (grown senv) line behind)

  -- The call of a block at its tag, with the names there or with the globals. The body of a tag is
  -- one of its chain's bodies, so a body exists.
  abbrev pub placed_body : StaticEnv → Option ℕ → Text → Table → SBody Constant
  placed_body senv None x table = alone (slots.print (place senv 1) senv.escaping absent)
  placed_body senv (Some i) x table =
      alone (run (unit cenv order (of_body senv.namespace i))
      (reads table (block_parameters cenv order senv.namespace x)))

  abbrev mutual
    pub resolved_stmt : Stmt → StaticEnv → SBody Constant
    resolved_stmt (data_of t) senv = alone (put_pooled (own (tree.text t)))
    resolved_stmt (print line e) senv =
        alone (slots.print (place senv line) senv.escaping (required_if cenv.strict (resolved e senv)))
    resolved_stmt (choose bs other) senv = resolved_choice bs senv (resolved_body other senv)
    resolved_stmt (for_each line xs e c body other) senv =
        alone (slots.for_each (place senv line) (fresh_targets senv.free xs) (required_if cenv.strict (resolved e senv))
        (resolved_condition c (bound_all xs senv))
        (scoped (set_in body) (bound_all xs senv) (resolved_body body)) (resolved_body other senv))
    resolved_stmt (set line xs e) senv =
        alone (assign (place senv line) (set_targets senv.table xs) (resolved e senv))
    resolved_stmt (set_block line x body) senv =
        alone
        (capture senv.escaping (slot_of x senv.table) (scoped (set_in body) senv (resolved_body body)))
    resolved_stmt (with_values line pairs body) senv =
        resolved_values pairs senv line
        (scoped (set_in body) (bound_all (keywords pairs) senv) (resolved_body body))
    resolved_stmt (filter_block line fs body) senv =
        slots.stmt (capture senv.escaping (local senv.free)
        (scoped (set_in body) (grown senv) (resolved_body body)))
        (alone (slots.print (place senv line) senv.escaping
        (required_if cenv.strict (resolved_filters fs (grown senv) (variable (local senv.free))))))
    resolved_stmt (autoescape line on body) senv =
        scoped (set_in body) (record senv { escaping = on }) (resolved_body body)
    resolved_stmt (macro line x parameters body) senv = slots.end
    resolved_stmt (include line n ignore_missing with_context) senv =
        if is_none (cenv.sources n) then left_out senv line ignore_missing
        else followed (handed_on (place senv line) (if with_context then senv.table else [])
        (first_slot cenv order (a_chain n)) (names cenv order (a_chain n)))
        (alone (run (unit cenv order (of_chain n)) none))
    resolved_stmt (import_as line n x) senv = slots.end
    resolved_stmt (import_from line n xs) senv = slots.end
    resolved_stmt (extends line n) senv = slots.end
    resolved_stmt (block line x scoped required body) senv =
        placed_body senv (first_body (numbered_of cenv senv.namespace x)) x
        (if scoped then senv.table else globals cenv order senv.namespace)

    pub resolved_body : Body → StaticEnv → SBody Constant
    resolved_body end senv = slots.end
    resolved_body (stmt s rest) senv = followed (resolved_stmt s senv) (resolved_body rest senv)

    -- The branches of an `if`. Each branch has the later ones in its `else` part, and the last one
    -- the `else` part of the `if`.
    pub resolved_choice : Branches → StaticEnv → SBody Constant → SBody Constant
    resolved_choice no_branches senv other = other
    resolved_choice (branch line c body rest) senv other =
        alone (if_else (place senv line) (resolved c senv) (resolved_body body senv)
        (resolved_choice rest senv other))

  -- ---- Routines

  abbrev pub resolved_sets : Body → StaticEnv → SBody Constant
  resolved_sets end senv = slots.end
  resolved_sets (stmt s rest) senv =
      if is_set s
      then followed (resolved_stmt s senv) (resolved_sets rest senv)
      else resolved_sets rest senv

  -- The environment at the top of a template, with names as globals. A library has no globals.
  abbrev pub top_senv : Namespace → Text → StaticEnv
  top_senv namespace t =
      record {
        namespace = namespace;
        template = t;
        escaping = cenv.escaping;
        part = None;
        table = globals cenv order namespace;
        free = 0;
      }

  abbrev pub resolved_chain : Namespace → List Template → SBody Constant
  resolved_chain namespace [] = slots.end
  resolved_chain namespace (t ∷ []) = resolved_body t.body (top_senv namespace t.name)
  resolved_chain namespace (t ∷ ts) =
      followed (resolved_sets t.body (top_senv namespace t.name)) (resolved_chain namespace ts)

  -- The routine of a body in a scope of its own, with these parameters.
  abbrev pub resolved_routine : List Text → Body → StaticEnv → Routine Constant
  resolved_routine parameters body senv =
      let b : SBody Constant = scoped (set_in body) (bound_all parameters senv) (resolved_body body) in
      record { parameters = length parameters; locals = max (length parameters) (body_locals b); body = b }

  abbrev pub chain_routine : Text → Routine Constant
  chain_routine n =
      let b : SBody Constant = resolved_chain (a_chain n) (templates cenv.sources (a_chain n)) in
      record { parameters = 0; locals = body_locals b; body = b }

  abbrev pub macro_routine : Namespace → MacroBody → Routine Constant
  macro_routine namespace m =
      resolved_routine (map (λ p. p.name) m.parameters) m.body (top_senv namespace m.template)

  -- The routine of a body, with the later bodies of its block.
  abbrev pub body_routine : Namespace → BlockBody → List (ℕ × BlockBody) → Routine Constant
  body_routine namespace b behind =
      resolved_routine (block_parameters cenv order namespace b.name) b.body
      (record (top_senv namespace b.template)
      { escaping = b.escaping; part = Some (record { name = b.name; behind = behind }) })
