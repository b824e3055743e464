-- The words that the clauses and the proofs of this crate take from the definitions of other crates.
pub use Rattle.jt_ast.specs.Expressions as expressions
pub use Rattle.jt_ast.specs.Statements as trees
pub use Rattle.jt_chains.specs.Chain as chain
pub use Rattle.jt_ir.specs.Slots as slots
pub use Rattle.jt_semantics.specs.Resolve as resolve
pub use Rattle.std.specs.Option.{is_none}
pub use Rattle.std.specs.Prelude.{Bool, Box, IfOk, List, None, Option, Some, String, Vec, [], codes, drop, false}
pub use Rattle.std.specs.Prelude.{filter, flat_map, get_or, if◌then◌else◌, is_some, length, map, max, option_map, pos}
pub use Rattle.std.specs.Prelude.{refl, reverse, string_bytes, suc, take, true, unwrap_or, zero, ℕ, ◌*◌, ◌++◌, ◌+◌, ◌-◌}
pub use Rattle.std.specs.Prelude.{◌<◌, ◌==◌, ◌∷◌, ◌≡◌, ◌≤◌}
pub use Rattle.std.specs.Str.{bytes_eq}
pub use Rattle.std.specs.declared.alloc.Global.{Global}
pub use Rattle.std.specs.declared.rc.Rc.{Rc}
pub use denote.Param.Weighed.{most}
pub use denote.Ref.{Bor}
pub use Rattle.jt_ast.specs.ExpressionView.{exprs_view, is_negated, literal_view, pairs_view}
pub use Rattle.jt_ast.specs.Expressions.{Exprs, Pairs, Text, attribute, name, no_pairs, pair}
pub use Rattle.jt_ast.specs.StatementView.{body_view, branches_view, filter_call_view, filter_calls_view, is_ignored}
pub use Rattle.jt_ast.specs.StatementView.{names_view, parameter_view, parameters_view, passes_context}
pub use Rattle.jt_ast.specs.Texts.{among, texts}
pub use Rattle.jt_ast.specs.declared.expression.Expr.{Expr, size-Expr}
pub use Rattle.jt_ast.specs.declared.statement.Stmt.{Stmt, size-Stmt}
pub use Rattle.jt_chains.specs.Chain.{BlockBody, Definition, MacroBody, Namespace, Template, a_chain, a_library}
pub use Rattle.jt_chains.specs.Chain.{a_macro, all_bodies, callee, given, given_to, library, listed, macro_of, macros}
pub use Rattle.jt_chains.specs.Chain.{one_macro, templates}
pub use Rattle.jt_chains.specs.Indices.{namespace_at}
pub use Rattle.jt_chains.specs.Layers.{layer_view}
pub use Rattle.jt_chains.specs.Parts.{block_view, macro_view, name_at}
pub use Rattle.jt_chains.specs.TemplateFiles.{files_view, namespace_view}
pub use Rattle.jt_chains.specs.Uses.{count, keywords, set_in}
pub use Rattle.jt_chains.specs.declared.layers.Layer.{Layer}
pub use Rattle.jt_chains.specs.declared.parts.Block.{Block}
pub use Rattle.jt_chains.specs.declared.parts.Macro.{Macro}
pub use Rattle.jt_eval.specs.Filters.{default_value, some_given}
pub use Rattle.jt_eval.specs.Values.{literal}
pub use Rattle.jt_ids.specs.FilterTable.{filter_id}
pub use Rattle.jt_ids.specs.declared.loop_field.LoopField.TheVariants.{Index0}
pub use Rattle.jt_ir.specs.Locals.{body_locals, condition_locals, expr_locals, row_locals, slot_locals, slots_locals}
pub use Rattle.jt_ir.specs.Locals.{stmt_locals}
pub use Rattle.jt_ir.specs.Pool.{Constant, body_values, condition_values, expr_values, known, own, placed_body}
pub use Rattle.jt_ir.specs.Pool.{placed_condition, placed_expr, placed_row, placed_stmt, row_values, stmt_values}
pub use Rattle.jt_ir.specs.Slots.{NaryOp, SBody, SRow, Slot, Targets, absent, end, global, invoke, item, local, none}
pub use Rattle.jt_ir.specs.Slots.{one, several, variable}
pub use Rattle.jt_ir.specs.View.{Front, choice_view, entry_front, expr_view, filtered_view, filters_after, nary_op_view}
pub use Rattle.jt_ir.specs.View.{place_view, routine_view, row_view, slot_view, stmt_view, targets_view}
pub use Rattle.jt_ir.specs.declared.program.Routine.{Routine}
pub use Rattle.jt_ir.specs.declared.program.SlotBranch.{SlotBranch}
pub use Rattle.jt_ir.specs.declared.program.SlotExpr.{SlotExpr}
pub use Rattle.jt_ir.specs.declared.program.SlotFilter.{SlotFilter}
pub use Rattle.jt_ir.specs.declared.program.SlotStmt.{SlotStmt, size-SlotStmt}
pub use Rattle.jt_layout.specs.declared.namespace_layout.NamespaceLayout.{NamespaceLayout}
pub use Rattle.jt_names.specs.Names.{value_in}
pub use Rattle.jt_rules.specs.CompileEnv.{CompileEnv, cenv_of}
pub use Rattle.jt_semantics.specs.Layout.{Table, block_parameters, counted_from, defaults_of, first_slot, keys, names}
pub use Rattle.jt_semantics.specs.Layout.{numbered_of, of_body, slot_in, unit}
pub use Rattle.jt_semantics.specs.Resolve.{Part, alone, bound_all, bound_table, filled, filled_some, first_body}
pub use Rattle.jt_semantics.specs.Resolve.{first_locals, followed, fresh, invoked_body, kept_slots, locals_from}
pub use Rattle.jt_semantics.specs.Resolve.{next_given, read_from, reads, resolved_chain, set_targets, value_or}
pub use Rattle.jt_value.specs.Place.{Place}
pub use Rattle.jt_value.specs.Tree.{Tree, number}
pub use Rattle.jt_value.specs.View.{view}
pub use Rattle.jt_value.specs.declared.value.Value.{Value}
pub use Rattle.jt_bind.specs.declared.callee.Callee.{Callee}
pub use Rattle.jt_bind.specs.declared.callee.Signature.{Signature}
pub use Rattle.jt_bind.specs.declared.emission.Turns.{Turns}
pub use Rattle.jt_bind.specs.declared.name_scope.NameScope.{NameScope}
pub use Rattle.jt_bind.specs.declared.resolver.Arguments.{Arguments}
pub use Rattle.jt_bind.specs.declared.resolver.Resolver.{Resolver}
pub use Rattle.jt_bind.specs.declared.senv.StaticEnv.{StaticEnv}
pub use Rattle.jt_bind.specs.internal.Selected.{Chains}
