-- The words that the proofs of this crate take from its definitions and from other crates.
pub use Rattle.jt_ir.specs.Slots as slots
pub use Rattle.jt_ir.specs.declared.program.Slot as code_slot
pub use Rattle.jt_ast.specs.Statements as trees
pub use Rattle.jt_ast.specs.Expressions as expressions
pub use Rattle.jt_ir.specs.View as ir
pub use Rattle.jt_semantics.specs.Programs as programs
use Rattle.jt_bind.specs.internal
pub use internal.{Entries, Planned, Row, Stmts, Term, AreRoutines, AreTurns, Arguments, Block, BlockBody, BodyLeads}
pub use internal.{Bool, Bor, Box, Chains, ChoiceLeads, CompileEnv, Constant, Definition, Emits, Expr, Exprs, Front}
pub use internal.{Index0, IsBranch, IsHead, IsLaidThere, IsPlaced, IsRoutine, IsTable, Layer, Leads, List, Macro}
pub use internal.{MacroBody, NameScope, Namespace, NamespaceLayout, NaryOp, None, Option, Pairs, Place, Rc, Reaches}
pub use internal.{Resolver, Routine, RoutinesLead, RowLeads, SBody, SRow, Slot, SlotExpr, SlotFilter, SlotStmt, Some}
pub use internal.{Stmt, String, Table, Targets, Template, Text, Tree, Turns, Vec, [], a_chain, a_library, a_macro}
pub use internal.{absent, all_bodies, alone, among, asides_of, assigned, attribute, block_parameters, block_view}
pub use internal.{blocks_in, bodies_in, body_locals, body_of, body_values, body_view, bound_all, bound_table}
pub use internal.{branches_locals, branches_view, bytes_eq, callee, callee_in, cenv_in, chained_in, choice_of}
pub use internal.{choice_view, codes, condition_in, condition_locals, condition_values, count, counted_from}
pub use internal.{default_value, defaults_of, drop, end, entries_of, entry, entry_front, expr_locals, expr_values}
pub use internal.{expr_of, expr_view, exprs_view, false, files_in, files_view, filled, filled_of, filled_some, filter}
pub use internal.{filter_call_view, filter_calls_view, filter_id, filter_row_of, filtered_view}
pub use internal.{filters_after, filters_of, filters_view, first_body, first_locals, first_slot, flat_map, followed}
pub use internal.{framed, fresh, get_or, given_in}
pub use internal.{given_to, global, globals_in, if◌then◌else◌, inside_of, invoke, invoked_body, is_ignored, is_none}
pub use internal.{is_some, item, kept_slots, keywords, last_among, layer_in, layer_view, length, library_of, line_of}
pub use internal.{listed, local, locals_from, macro_in, macro_of, macro_view, macros, macros_in, map, max, most, name}
pub use internal.{names, names_view, namespace_at, namespace_in, namespace_view, nary_op_view, next_given, no_pairs}
pub use internal.{none, numbered_in, numbered_of, of_body, of_namespace, one, option_map, order_in, own, pair}
pub use internal.{pairs_view, parameter_view, parameters_in, parameters_view, part_at, part_from, passes_context}
pub use internal.{place_of, place_view, placed_body, placed_condition, placed_expr, placed_row, placed_stmt, pos}
pub use internal.{read_from, reads, refl, resolved_chain, reverse, row_locals, row_of, row_view, scoped_of, senv_of}
pub use internal.{set_in, set_targets, sets_of, several, size-Expr, size-SlotStmt, size-Stmt, slot_after, slot_in}
pub use internal.{slot_view, slots_locals, some_given, stmt_locals, stmt_of, stmt_values, stmt_view, string_bytes, suc}
pub use internal.{table_of, take, target_locals, targets_view, templates, templates_in, templates_of, texts, top_in}
pub use internal.{true, unit, unit_of, unwrap_or, up_to, value_in, value_or, values, values_of, variable, view, zero, ℕ}
pub use internal.{◌*◌, ◌++◌, ◌+◌, ◌-◌, ◌<◌, ◌==◌, ◌∷◌, ◌≡◌, ◌≤◌}
pub use Rattle.std.proofs.Common.{Global, add-one, ap, append-nil, append_assoc, arith, inl, inr, length-append}
pub use Rattle.std.proofs.Common.{length-drop, rules, subst, sym, zero-add, ◌∙◌}
pub use Rattle.std.proofs.lemmas.List.{at_drop_all, drop-map, drop_all, drop_more, length-map, map-append}
pub use Rattle.std.proofs.lemmas.List.{reverse-append, take-map, take_all, take_at, take_more}
pub use Rattle.std.proofs.lemmas.Result.{IfOk-weaker}
pub use Rattle.std.proofs.lemmas.Simd.{map-map}
pub use Rattle.jt_ast.proofs.RemainingParts.{Branch, branches_left, names_left, pairs_left, row_left, statements_left}
pub use Rattle.jt_ir.proofs.ExpressionViews.{Entry, filters_push, row_push, view_Field, view_Invoke, view_Made}
pub use Rattle.jt_ir.proofs.ExpressionViews.{view_Variable}
pub use Rattle.jt_ir.proofs.StatementViews.{SBranch, view_Capture, view_For, view_If}
pub use Rattle.jt_layout.proofs.LayoutCorrect.FirstOccurrences.{namespaces_left}
pub use Rattle.jt_semantics.specs.Resolve.{StaticEnv}
pub use Rattle.jt_semantics.proofs.EnvLookup.{no_both}
