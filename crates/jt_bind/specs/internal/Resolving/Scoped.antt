-- The resolved parts of a chain, by the layouts in the code and with the indices of the pool that is
-- filled. Only private clauses cite this module.
pub mod Vocabulary
pub use Vocabulary.*
use Rattle.jt_semantics.specs.Layout.{default_index, globals, numbered_bodies, of_macro}
use Rattle.jt_bind.specs.declared.callee.Callee.TheVariants as kind
use Rattle.jt_semantics.specs.Operators as operators
use Rattle.jt_semantics.specs.Programs as programs
use Rattle.jt_bind.specs.declared.operator_forms.OperatorForm.TheVariants as form
use Rattle.jt_bind.specs.declared.operator_forms.Shortcut.TheVariants as shortcut
use Rattle.jt_ids.specs.declared.op_id.OpId.TheVariants as op
use Rattle.jt_chains.specs.declared.definitions.Definition as found
use Rattle.jt_bind.specs.declared.operator_forms.OperatorForm.{OperatorForm}
use Rattle.jt_bind.specs.declared.operator_forms.Shortcut.{Shortcut}
use Rattle.jt_chains.specs.Named.{given_view}
use Rattle.jt_chains.specs.View.{chain_view}
use Rattle.jt_layout.specs.NamespaceLayout.{IsLaid}
use Rattle.jt_ir.specs.View
use Rattle.jt_bind.specs.declared.scope_entry.EnteredScope.{EnteredScope}

-- ---- the callee of a call, and its representation in the code

-- The macro as a callee, if the chain or library has it.
abbrev pub of_namespace : Namespace → Option MacroBody → chain.Callee
of_namespace h None = chain.no_callee
of_namespace h (Some m) = chain.a_macro h m

-- The library that a definition names, if it is one.
abbrev pub library_of : Option Definition → Option Text
library_of None = None
library_of (Some (one_macro h m)) = None
library_of (Some (library n)) = Some n

module _ (cenv : CompileEnv) (order : List Namespace) where
  -- The signature of a macro of a chain or a library.
  pub record IsSignature (h : Namespace) (s : Signature) (m : MacroBody) : Type 0 where
    pub takes : parameters_view s.parameters.now ≡ m.parameters
    pub runs : s.unit ≡ unit cenv order (of_macro h m.name)
    pub defaults : s.first_default ≡ default_index cenv order h m.name

  abbrev pub IsCallee : Callee → chain.Callee → Type 0
  IsCallee (kind.Macro s) k =
      (h : Namespace) × (m : MacroBody) × (IsSignature h s m × (k ≡ chain.a_macro h m))
  IsCallee kind.Range k = k ≡ chain.a_range
  IsCallee kind.Super k = k ≡ chain.a_super
  IsCallee (kind.Block x) k = k ≡ chain.a_block x.now
  IsCallee kind.Cycle k = k ≡ chain.a_cycle
  IsCallee kind.Unknown k = k ≡ chain.no_callee

  -- A chain or a library that has a macro of the name is in the order.
  abbrev pub IsLaidThere : Namespace → Text → Type 0
  IsLaidThere h x =
      (m : MacroBody) → macro_of x (macros cenv.sources h) ≡ Some m → listed h order ≡ true

  -- The unit of a body.
  abbrev pub unit_of : Namespace → Option ℕ → Option ℕ
  unit_of h i = option_map (λ j. unit cenv order (of_body h j)) i

-- ---- the form of an operator in the code

abbrev pub shortcut_view : Shortcut → operators.OperatorForm
shortcut_view shortcut.Conjunction = operators.conjunction
shortcut_view shortcut.Disjunction = operators.disjunction

abbrev pub form_view : OperatorForm → operators.OperatorForm
form_view (form.Operation o) = operators.operation o
form_view (form.Negation o) = operators.negation o
form_view (form.Shortcut operator) = shortcut_view operator

-- ---- the number of locals that parts of resolved statements use

-- The number of locals up to one, if there is one.
abbrev pub up_to : Option ℕ → ℕ
up_to None = 0
up_to (Some i) = suc i

-- The locals of a slot, if there is one.
abbrev pub target_locals : Option Slot → ℕ
target_locals None = 0
target_locals (Some s) = slot_locals s

-- The locals of the branches of an `if`.
abbrev pub branches_locals : List Text → List (SlotBranch SlotStmt) → ℕ
branches_locals templates [] = 0
branches_locals templates (b ∷ bs) =
    max (max (expr_locals (expr_view b.condition)) (body_locals (View.body_view templates b.body.items end)))
    (branches_locals templates bs)

-- The last local before statements is `last`, and the last one after them is `result`.
abbrev pub Reaches : Front → Option ℕ → Option ℕ → Type 0
Reaches front last result =
    (behind : SBody ℕ) → max (up_to result) (body_locals behind) ≡ max (up_to last) (body_locals (front behind))

-- ---- resolved parts whose constants are values, and pools

abbrev pub Term : Type 0
Term = slots.SlotExpr Constant

abbrev pub Row : Type 0
Row = SRow Constant

abbrev pub Stmts : Type 0
Stmts = SBody Constant

abbrev pub Planned : Type 0
Planned = slots.Routine Constant

abbrev pub Pool : Type 0
Pool = Vec Value Global

-- A list of expressions of the code; each one that is kept aside has the number of its local.
abbrev pub Entries : Type 0
Entries = Vec (Option ℕ × SlotExpr) Global

-- The values of a pool.
abbrev pub values : Pool → List Tree
values pool = map view pool.items

-- ---- the values at the end of a pool that grows from one list of values to another

-- An expression, and the values that it appends to a pool.
pub record IsPlaced (c : Term) (e : slots.SlotExpr ℕ) (old new : List Tree) :
    Type 0 where
  pub shown : e ≡ placed_expr c (length old)
  pub pooled : new ≡ old ++ expr_values c

-- An expression of the code, and the values that it appends to a pool.
abbrev pub IsShown : Term → SlotExpr → List Tree → List Tree → Type 0
IsShown c e old new = IsPlaced c (expr_view e) old new

-- An expression of the code, and the values that it appends to a vector.
abbrev pub IsAdded : Term → SlotExpr → Pool → Pool
    → Type 0
IsAdded c e old new = IsShown c e (values old) (values new)

-- An expression made of one placed expression.
abbrev pub MadeOfOne : (Term → Term) → SlotExpr → SlotExpr
    → Type 0
MadeOfOne made operand e =
    (a : Term) (p q : List Tree)
    → IsShown a operand p q
    → IsShown (made a) e p q

-- An expression that appends no values.
abbrev pub PutsNone : Term → SlotExpr → Type 0
PutsNone c e = (p : List Tree) → IsShown c e p p

-- Parts are appended, and their values to a pool; of `whole`, the part `left` remains. The view puts
-- what was appended before parts with indices of the pool.
pub record Leads {Part Item Shown : Type 0} (shown_before : List Item → Shown → Shown) (placed : Part → ℕ → Shown)
    (kept : Part → List Tree) (whole left : Part) (before after : List Item) (old new : List Tree) : Type 0 where
  pub shown : shown_before after (placed left (length new)) ≡ shown_before before (placed whole (length old))
  pub pooled : new ++ kept left ≡ old ++ kept whole

-- A relation between a whole and what is left of it, the items before and after, and the values of the pool.
abbrev pub Appended : Type 0 → Type 0 → Type 1
Appended Part Item = Part → Part → List Item → List Item → List Tree → List Tree → Type 0

-- Expressions are appended; of the list `whole`, the part `left` remains.
abbrev pub RowLeads : Appended Row (Option ℕ × SlotExpr)
RowLeads = Leads row_view placed_row row_values

-- The list with an expression before it, as an item or as one that is stored in a local.
abbrev pub entry : Option ℕ → Term → Row → Row
entry None e left = slots.item e left
entry (Some i) e left = slots.aside i e left

-- A whole list of expressions that appends no values.
abbrev pub IsRow : Row → Entries → Type 0
IsRow whole row = (p : List Tree) → RowLeads whole slots.none [] row.items p p

-- Statements are appended; of the body `whole`, the part `left` remains.
abbrev pub BodyLeads : List Text → Appended Stmts SlotStmt
BodyLeads templates = Leads (View.body_view templates) placed_body body_values

-- The index of a loop's turn modulo n.
abbrev pub turn_in : ℕ → Term
turn_in n =
    resolve.operation_of op.Remainder (slots.field Index0) (slots.pooled (own (number (pos n))))

-- The item of a list at the index of a loop's turn modulo n.
abbrev pub cycle_of : Term → ℕ → Term
cycle_of items n = resolve.operation_of op.Item items (turn_in n)

-- The slot after a slot.
abbrev pub slot_after : slots.Slot → slots.Slot
slot_after (slots.local i) = slots.local (suc i)
slot_after (slots.global i) = slots.global (suc i)

-- The assignments of the values of names to consecutive slots from one on.
abbrev pub assigned : Place → Table → slots.Slot → List Text → Stmts
assigned p table s [] = slots.end
assigned p table s (x ∷ xs) =
    slots.stmt (slots.assign p (slots.one s) (resolve.read_from (slot_in x table)))
    (assigned p table (slot_after s) xs)

-- ---- static environments

-- The table with the names of scopes; later scopes are further inside.
abbrev pub framed : List NameScope → Table → Table
framed [] table = table
framed (f ∷ fs) table = framed fs (bound_table (texts f.names.items) f.first table)

abbrev pub seen_through : List (Rc NameScope Global) → Table → Table
seen_through fs table = framed (map (λ f. f.value) fs) table

-- The first body of the list, and the bodies of its block after it.
abbrev pub part_from : List (ℕ × BlockBody) → Option Part
part_from [] = None
part_from (b ∷ bs) =
    Some (record { name = b.1.name; behind = filter (λ c. bytes_eq c.1.name b.1.name) bs })

abbrev pub part_at : List (ℕ × BlockBody) → Option ℕ → Option Part
part_at bs None = None
part_at bs (Some i) = part_from (drop i bs)

module _ (s : Chains) where
  abbrev pub cenv_in : CompileEnv
  cenv_in = cenv_of (chain_view s.chain.now)

  abbrev pub order_in : List Namespace
  order_in = (chain_view s.chain.now).order

  abbrev pub namespace_in : Namespace
  namespace_in = namespace_at order_in s.namespace

  -- The templates that were read.
  abbrev pub files_in : List Template
  files_in = (chain_view s.chain.now).templates

  abbrev pub templates_in : List Text
  templates_in = map (λ t. t.name) files_in

  -- The layout of a chain or a library.
  abbrev pub IsTable : Namespace → NamespaceLayout → Type 0
  IsTable h l = IsLaid cenv_in order_in files_in h l

  -- The layouts of the first chains and libraries.
  abbrev pub AreTables : List NamespaceLayout → Type 0
  AreTables ls =
      (i : ℕ) (l : NamespaceLayout) → i < length ls → l ≡ get_or ls i l → IsTable (namespace_at order_in i) l

  -- The names that stand for macros and libraries, and the callee of a call.
  abbrev pub given_in : List (Text × Definition)
  given_in = given cenv_in.sources namespace_in

  -- The view of a definition in the code.
  abbrev pub given_as : found.Definition → Definition
  given_as g = given_view files_in namespace_in g

  abbrev pub callee_in : expressions.Expr → chain.Callee
  callee_in f = callee cenv_in.sources given_in f

  -- The callee of an expression by its representation in the code.
  abbrev pub IsCalled : expressions.Expr → Callee → Type 0
  IsCalled f k = IsCallee cenv_in order_in k (callee_in f)

  -- The macro of a name in a chain or library, and its representation in the code.
  abbrev pub IsMacroOf : Namespace → Text → Callee → Type 0
  IsMacroOf h x k =
      IsCallee cenv_in order_in k (of_namespace h (macro_of x (macros cenv_in.sources h)))

  -- The bodies of the blocks with their numbers, and the parameters of the bodies of a block.
  abbrev pub numbered_in : List (ℕ × BlockBody)
  numbered_in = numbered_bodies cenv_in namespace_in

  abbrev pub parameters_in : Text → List Text
  parameters_in x = block_parameters cenv_in order_in namespace_in x

  -- The unit of the first body of a block, if the block has one.
  abbrev pub first_unit_in : Text → Option ℕ
  first_unit_in x =
      unit_of cenv_in order_in namespace_in (resolve.first_body (numbered_of cenv_in namespace_in x))

  abbrev pub globals_in : Table
  globals_in = globals cenv_in order_in namespace_in

  abbrev pub senv_in : StaticEnv → resolve.StaticEnv
  senv_in p = record {
    namespace = namespace_in;
    template = name_at files_in p.template;
    escaping = p.escaping;
    part = part_at numbered_in p.body;
    table = seen_through p.name_scopes.now globals_in;
    free = p.free;
  }

  -- The environment at the top of a template.
  abbrev pub top_in : ℕ → resolve.StaticEnv
  top_in i =
      resolve.top_senv cenv_in order_in namespace_in (name_at files_in i)

  -- ---- the parts of a chain

  abbrev pub condition_in : Option expressions.Expr → resolve.StaticEnv
      → Option Term
  condition_in k sp = resolve.resolved_condition cenv_in order_in k sp

  -- A template of a chain at its top: all its statements if it is the root, or only the statements
  -- that set names.
  abbrev pub layer_at : resolve.StaticEnv → trees.Body → Bool → Stmts
  layer_at top b is_root =
      if is_root
      then resolve.resolved_body cenv_in order_in b top
      else resolve.resolved_sets cenv_in order_in b top

  abbrev pub layer_in : Template → Bool → Stmts
  layer_in t is_root =
      layer_at (resolve.top_senv cenv_in order_in namespace_in t.name) t.body is_root

  -- The templates of a chain.
  abbrev pub chained_in : List Template → Stmts
  chained_in = resolve.resolved_chain cenv_in order_in namespace_in

  abbrev pub layers_in : List Layer → Stmts
  layers_in ls = chained_in (map (layer_view files_in) ls)

  -- ---- the routines of a chain or a library

  -- The routine of a chain, which a library lacks; the routines of macros; the routines of the
  -- bodies of blocks; and all of them.
  abbrev pub entry_in : List Planned
  entry_in = programs.entry_routines cenv_in order_in namespace_in

  abbrev pub macro_in : MacroBody → Planned
  macro_in = resolve.macro_routine cenv_in order_in namespace_in

  abbrev pub macros_in : List Planned
  macros_in = map macro_in (macros cenv_in.sources namespace_in)

  abbrev pub bodies_in : List (ℕ × BlockBody) → List Planned
  bodies_in = programs.body_routines cenv_in order_in namespace_in

  abbrev pub blocks_in : List Planned
  blocks_in = bodies_in numbered_in

  abbrev pub routines_in : List Planned
  routines_in = programs.chain_routines cenv_in order_in namespace_in

-- The environment inside an entered scope, whose names are in locals.
abbrev pub Enters : StaticEnv → List Text → EnteredScope → Type 0
Enters p xs i =
    (s : Chains) (fr : Bor (List (Rc NameScope Global)))
    → fr.now ≡ i.name_scopes.items
    → senv_in s (record p { name_scopes = fr; free = i.free }) ≡ bound_all xs (senv_in s p)
