-- The resolved statements and routines of a chain, and the resolved parts in the environment of a
-- resolver. Only private clauses cite this module.
pub mod Scoped
pub use Scoped.*
use Rattle.jt_ir.specs.Pool.{placed_routine, placed_routines, routines_values}
use Rattle.jt_bind.specs.declared.emission.LoopHead.{LoopHead}
use Rattle.jt_ir.specs.declared.program.Place as code
use Rattle.jt_ir.specs.declared.program.Filtered.{Filtered}
use Rattle.jt_semantics.specs.Expressions.{filter_parameters}

-- ---- the values at the end of a pool that grows from one list of values to another

-- The statements `whole` are emitted: `after` is `before` followed by them, and the pool grows by
-- their values, whatever is left to come after them.
abbrev pub Emits : List Text → Stmts → List SlotStmt → List SlotStmt → List Tree
    → List Tree → Type 0
Emits templates whole before after old new =
    (left : Stmts) → BodyLeads templates (followed whole left) left before after old new

-- A value after the filters of its tag, before it is required.
abbrev pub filters_view : Filtered → slots.SlotExpr ℕ
filters_view v = filters_after v.filters.items (expr_view v.value)

-- A condition, if there is one.
pub record IsAsked (k : Option Term) (condition : Option SlotExpr) (old new : List Tree) : Type
    0 where
  pub shown : option_map expr_view condition ≡ placed_condition k (length old)
  pub pooled : new ≡ old ++ condition_values k

-- The head of a loop: targets, items and condition.
pub record IsHead (xs : slots.Targets) (c : Term) (k : Option Term)
    (h : LoopHead) (old new : List Tree) : Type 0 where
  pub given : List Tree
  pub takes : targets_view h.targets ≡ xs
  pub goes_over : IsPlaced c (expr_view h.items) old given
  pub asked : IsAsked k h.condition given new

-- A function that puts a body, whose values are in the pool from an index on, before other statements.
abbrev pub StandsFor : Stmts → Front → ℕ → Type 0
StandsFor whole f n =
    (left : Stmts)
    → f (placed_body left (n + length (body_values whole))) ≡ placed_body (followed whole left) n

-- A branch: the place of its tag, its condition and its statements.
pub record IsBranch (templates : List Text) (at : Place) (c : Term) (whole : Stmts)
    (b : SlotBranch SlotStmt) (old new : List Tree) : Type 0 where
  pub between : List Tree
  pub stands : place_view templates b.place ≡ at
  pub asked : IsPlaced c (expr_view b.condition) old between
  pub taken : Emits templates whole [] b.body.items between new

-- Branches are resolved; of the `if`, only the `else` part remains.
pub record ChoiceLeads (templates : List Text) (whole other : Stmts) (branches : List (SlotBranch SlotStmt))
    (old new : List Tree) : Type 0 where
  pub shown : (f : Front) → StandsFor other f (length new)
      → StandsFor whole (choice_view templates branches f) (length old)
  pub pooled : new ++ body_values other ≡ old ++ body_values whole

-- The place of a tag in the code.
abbrev pub place_of : StaticEnv → ℕ → code.Place
place_of p line = record { template = p.template; line = line }

module _ (s : Chains) where
  -- The parts of a loop: targets, items, condition and body.
  pub record AreTurns (xs : slots.Targets) (c : Term) (k : Option Term)
      (whole : Stmts) (t : Turns) (old new : List Tree) : Type 0 where
    pub between : List Tree
    pub headed : IsHead xs c k t.head.value old between
    pub taken : Emits (templates_in s) whole [] t.body.items between new

-- ---- the routines of chains, with the indices of the pool that they fill

-- A routine, and the values that it appends to a pool.
pub record IsRoutine (templates : List Text) (c : Planned) (r : Routine) (old new : List Tree) : Type
    0 where
  pub shown : routine_view templates r ≡ placed_routine c (length old)
  pub pooled : new ≡ old ++ body_values c.body

-- Routines are appended; of `whole`, the part `left` remains.
abbrev pub RoutinesLead : List Text → Appended (List Planned) Routine
RoutinesLead templates = Leads (λ rs left. map (routine_view templates) rs ++ left) placed_routines routines_values

-- The routines `whole` are appended, whatever is left to come after them.
abbrev pub AreRoutines : List Text → List Planned → List Routine → List Routine → List Tree
    → List Tree → Type 0
AreRoutines templates whole before after old new =
    (left : List Planned) → RoutinesLead templates (whole ++ left) left before after old new

-- A part of a list is appended, and its values to a pool; the part `left` remains.
abbrev pub RowAdds : Row → Row → Entries
    → Entries → Pool → Pool → Type 0
RowAdds whole left before after old new =
    RowLeads whole left before.items after.items (values old) (values new)

-- A whole list is appended, whatever follows it.
abbrev pub RowPuts : (Row → Row) → Entries
    → Entries → Pool → Pool → Type 0
RowPuts whole before after old new =
    (left : Row) → RowAdds (whole left) left before after old new

-- The positional and the keyword arguments of a call.
abbrev pub by_position : Arguments → expressions.Exprs
by_position a = exprs_view a.row.now

abbrev pub by_name : Arguments → expressions.Pairs
by_name a = pairs_view a.pairs.now

module _ (r : Resolver) where
  -- ---- the environment of the resolver

  abbrev cenv : CompileEnv
  cenv = cenv_in r.tables.now

  abbrev order : List Namespace
  order = order_in r.tables.now

  abbrev pub templates_of : List Text
  templates_of = templates_in r.tables.now

  abbrev pub senv_of : resolve.StaticEnv
  senv_of = senv_in r.tables.now r.senv

  -- The slots of the names that are visible.
  abbrev pub table_of : Table
  table_of = senv_of.table

  -- The place of a tag.
  abbrev pub line_of : ℕ → Place
  line_of line = resolve.place senv_of line

  -- The locals that hold the keyword arguments.
  abbrev pub kept_of : expressions.Pairs → Table
  kept_of ps = locals_from r.senv.free (keywords ps)

  -- ---- expressions

  abbrev pub expr_of : expressions.Expr → Term
  expr_of t = resolve.resolved cenv order t senv_of

  -- The value of a print or a loop, which strict templates require.
  abbrev pub required_of : expressions.Expr → Term
  required_of t = slots.required_if cenv.strict (expr_of t)

  -- The resolved expression, with the values that it appends to a pool.
  abbrev pub IsResolved : expressions.Expr → SlotExpr → Pool → Pool → Type 0
  IsResolved t e old new = IsAdded (expr_of t) e old new

  abbrev pub row_of : expressions.Exprs → Row → Row
  row_of ts left = resolve.resolved_row cenv order ts senv_of left

  abbrev pub asides_of : expressions.Pairs → Row → Row
  asides_of ps left = resolve.resolved_asides cenv order ps senv_of left

  abbrev pub entries_of : expressions.Pairs → Row
  entries_of ps = resolve.resolved_entries cenv order ps senv_of

  -- The positional arguments, followed by the keyword arguments.
  abbrev pub given_of : Arguments → Row → Row
  given_of a left = row_of (by_position a) (asides_of (by_name a) left)

  -- The values of a macro's parameters after the positional ones.
  abbrev pub filled_of : Signature → Arguments → Row
  filled_of s a =
      resolve.filled (parameters_view s.parameters.now) (length a.row.now) s.first_default
      (kept_of (by_name a))

  -- The arguments of a filter, by its number, after its value.
  abbrev pub filter_row_of : Option ℕ → Arguments → Row
  filter_row_of f a =
      given_of a (filled_some (filter_parameters cenv.filters f) (count (by_position a))
      (keywords (by_name a)) (kept_of (by_name a)))

  -- The filters of a filter tag on a resolved value, in order.
  abbrev pub filters_of : List trees.FilterCall → Term → Term
  filters_of fs c = resolve.resolved_filters cenv order fs senv_of c

  -- The call of a block, and the call of the next body of the current block.
  abbrev pub block_of : Text → Term
  block_of x = resolve.invoked cenv order (chain.a_block x) senv_of (λ es. es) (λ es. es) 0 []

  abbrev pub super_of : Term
  super_of = resolve.invoked_super cenv order senv_of senv_of.part

  -- ---- statements

  abbrev pub stmt_of : trees.Stmt → Stmts
  stmt_of t = resolve.resolved_stmt cenv order t senv_of

  -- Statements are emitted, and those of a statement of a template.
  abbrev pub Puts : Stmts → Vec SlotStmt Global → Vec SlotStmt Global → Pool → Pool
      → Type 0
  Puts whole before after old new = Emits templates_of whole before.items after.items (values old) (values new)

  abbrev pub PutsStmt : trees.Stmt → Vec SlotStmt Global → Vec SlotStmt Global → Pool → Pool
      → Type 0
  PutsStmt t = Puts (stmt_of t)

  abbrev pub body_of : trees.Body → Stmts
  body_of b = resolve.resolved_body cenv order b senv_of

  abbrev pub choice_of : trees.Branches → Stmts → Stmts
  choice_of bs other = resolve.resolved_choice cenv order bs senv_of other

  abbrev pub values_of : expressions.Pairs → ℕ → Stmts → Stmts
  values_of ps line behind = resolve.resolved_values cenv order ps senv_of line behind

  -- A body in a scope of its own.
  abbrev pub scoped_of : trees.Body → resolve.StaticEnv → Stmts
  scoped_of b sp = resolve.scoped (set_in b) sp (resolve.resolved_body cenv order b)

  -- The environment inside a scope with these names.
  abbrev pub inside_of : List Text → resolve.StaticEnv
  inside_of xs = resolve.bound_all xs senv_of

  -- The statements of a body that set names.
  abbrev pub sets_of : trees.Body → Stmts
  sets_of b = resolve.resolved_sets cenv order b senv_of
