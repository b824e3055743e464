-- The views of resolved templates, which contracts use in place of their layout in memory.
use Rattle.std.specs.Prelude.{ℕ, List, [], ◌∷◌, map, string_bytes, Option, Some, None, option_map, slice_get}
use Rattle.std.specs.Prelude.{unwrap_or}
use Rattle.jt_value.specs.View.{view}
use Rattle.jt_ids.specs.FilterTable.{filter_id}
use Rattle.jt_ast.specs.Expressions.{Text}
use Rattle.jt_value.specs.Place as place
use Rattle.jt_ir.specs.Slots as slots
use Rattle.jt_ir.specs.Slots.{SRow, SBody, required_if}
use Rattle.jt_ir.specs.declared.program.Place.{Place}
use Rattle.jt_ir.specs.declared.program.Slot.{Slot}
use Rattle.jt_ir.specs.declared.program.Slot.TheVariants as s
use Rattle.jt_ir.specs.declared.program.NaryOp.{NaryOp}
use Rattle.jt_ir.specs.declared.program.NaryOp.TheVariants as m
use Rattle.jt_ir.specs.declared.program.Targets.{Targets}
use Rattle.jt_ir.specs.declared.program.Targets.TheVariants as t
use Rattle.jt_ir.specs.declared.program.SlotBranch.{SlotBranch}
use Rattle.jt_ir.specs.declared.program.SlotExpr.{SlotExpr, fold-SlotExpr}
use Rattle.jt_ir.specs.declared.program.SlotExpr.TheOpen.{SlotExpr-F}
use Rattle.jt_ir.specs.declared.program.SlotFilter.{SlotFilter}
use Rattle.jt_ir.specs.declared.program.Filtered.{Filtered}
use Rattle.jt_ir.specs.declared.program.SlotStmt.{SlotStmt, fold-SlotStmt}
use Rattle.jt_ir.specs.declared.program.SlotStmt.TheOpen.{SlotStmt-F}
use Rattle.jt_ir.specs.declared.program.Routine.{Routine}
use Rattle.jt_ir.specs.declared.program.Program.{Program}

abbrev pub slot_view : Slot → slots.Slot
slot_view (s.Local i) = slots.local i
slot_view (s.Global i) = slots.global i

abbrev pub nary_op_view : NaryOp → slots.NaryOp
nary_op_view (m.Operator o) = slots.operator o
nary_op_view (m.Test t) = slots.test t
nary_op_view (m.Filter f escaping) = slots.filter (filter_id f) escaping
nary_op_view m.List = slots.a_list
nary_op_view m.Map = slots.a_map
nary_op_view m.Required = slots.required

abbrev pub targets_view : Targets → slots.Targets
targets_view (t.One s) = slots.one (slot_view s)
targets_view (t.Several ss) = slots.several (map (option_map slot_view) ss.items)

-- The sequence with an expression before it, as a value or as one that is stored in a local.
abbrev pub entry_front : Option ℕ → slots.SlotExpr ℕ → SRow ℕ → SRow ℕ
entry_front None e behind = slots.item e behind
entry_front (Some i) e behind = slots.aside i e behind

abbrev pub row_front : List (Option ℕ × slots.SlotExpr ℕ) → SRow ℕ → SRow ℕ
row_front [] behind = behind
row_front (e ∷ es) behind = entry_front e.0 e.1 (row_front es behind)

-- The view of an expression, from the views of its parts.
abbrev pub expr_step : SlotExpr-F (slots.SlotExpr ℕ) → slots.SlotExpr ℕ
expr_step (SlotExpr-F.Pooled i) = slots.pooled i
expr_step (SlotExpr-F.Variable s) = slots.variable (slot_view s)
expr_step (SlotExpr-F.Field f) = slots.field f
expr_step SlotExpr-F.Absent = slots.absent
expr_step (SlotExpr-F.Made k es) = slots.made (nary_op_view k) (row_front es.items slots.none)
expr_step (SlotExpr-F.Conjunction a b) = slots.conjunction a.value b.value
expr_step (SlotExpr-F.Disjunction a b) = slots.disjunction a.value b.value
expr_step (SlotExpr-F.Choice c a b) = slots.choice c.value a.value b.value
expr_step (SlotExpr-F.Invoke u escaping es) =
    slots.invoke u escaping (row_front es.items slots.none)

abbrev pub expr_view : SlotExpr → slots.SlotExpr ℕ
expr_view = fold-SlotExpr (slots.SlotExpr ℕ) expr_step

-- The sequence with these expressions before it.
abbrev pub row_view : List (Option ℕ × SlotExpr) → SRow ℕ → SRow ℕ
row_view [] behind = behind
row_view (e ∷ es) behind = entry_front e.0 (expr_view e.1) (row_view es behind)

-- The expression after one more filter of a tag, and after filters in order. A filter that requires
-- its input gets no undefined value.
abbrev pub filter_after : SlotFilter → slots.SlotExpr ℕ → slots.SlotExpr ℕ
filter_after f e =
    slots.made (slots.filter (filter_id f.filter) f.escaping)
    (slots.item (required_if f.required e) (row_view f.row.items slots.none))

abbrev pub filters_after : List SlotFilter → slots.SlotExpr ℕ → slots.SlotExpr ℕ
filters_after [] e = e
filters_after (f ∷ fs) e = filters_after fs (filter_after f e)

abbrev pub filtered_view : Filtered → slots.SlotExpr ℕ
filtered_view v = required_if v.required (filters_after v.filters.items (expr_view v.value))

-- A function that puts statements before a body.
abbrev pub Front : Type 0
Front = SBody ℕ → SBody ℕ

abbrev pub body_front : List Front → Front
body_front [] behind = behind
body_front (f ∷ fs) behind = f (body_front fs behind)

module _ (templates : List Text) where
  abbrev pub place_view : Place → place.Place
  place_view p = record { template = unwrap_or (slice_get templates p.template) []; line = p.line }

  -- The statement of the branches: each branch has the later ones in its `else` part, and the last
  -- one the `else` part of the `if`.
  abbrev pub choice_front : List (SlotBranch Front) → Front → Front
  choice_front [] other behind = other behind
  choice_front (b ∷ bs) other behind =
      slots.stmt
      (slots.if_else (place_view b.place) (expr_view b.condition)
      (body_front b.body.items slots.end) (choice_front bs other slots.end)) behind

  -- The view of a statement, from the views of its parts.
  abbrev pub stmt_step : SlotStmt-F Front → Front
  stmt_step (SlotStmt-F.PutPooled i) behind = slots.stmt (slots.put_pooled i) behind
  stmt_step (SlotStmt-F.Print p escaping v) behind =
      slots.stmt (slots.print (place_view p) escaping (filtered_view v)) behind
  stmt_step (SlotStmt-F.Assign p xs e) behind =
      slots.stmt (slots.assign (place_view p) (targets_view xs) (expr_view e)) behind
  stmt_step (SlotStmt-F.If bs other) behind = choice_front bs.items (body_front other.items) behind
  stmt_step (SlotStmt-F.For p xs e c body other) behind =
      slots.stmt
      (slots.for_each (place_view p) (targets_view xs) (expr_view e) (option_map expr_view c)
      (body_front body.items slots.end) (body_front other.items slots.end)) behind
  stmt_step (SlotStmt-F.Capture escaping s body) behind =
      slots.stmt (slots.capture escaping (slot_view s) (body_front body.items slots.end)) behind
  stmt_step (SlotStmt-F.Run u es) behind =
      slots.stmt (slots.run u (row_view es.items slots.none)) behind

  -- The view of a statement: it puts the statement before a body.
  abbrev pub stmt_view : SlotStmt → Front
  stmt_view = fold-SlotStmt Front stmt_step

  -- The view of statements: it puts them before a body.
  abbrev pub body_view : List SlotStmt → Front
  body_view ss = body_front (map stmt_view ss)

  abbrev pub choice_view : List (SlotBranch SlotStmt) → Front → Front
  choice_view [] other behind = other behind
  choice_view (b ∷ bs) other behind =
      slots.stmt
      (slots.if_else (place_view b.place) (expr_view b.condition)
      (body_view b.body.items slots.end) (choice_view bs other slots.end)) behind

  abbrev pub routine_view : Routine → slots.Routine ℕ
  routine_view r =
      record
      { parameters = r.parameters; locals = r.locals; body = body_view r.body.items slots.end }

abbrev pub templates_of : Program → List Text
templates_of p = map string_bytes p.templates.items

abbrev pub program_of : Program → slots.Program
program_of p = record {
  names = map string_bytes p.names.items;
  globals = p.globals;
  pool = map view p.pool.items;
  routines = map (routine_view (templates_of p)) p.routines.items;
}
