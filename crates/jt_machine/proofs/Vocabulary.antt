-- The words that several proofs of this crate take from definitions and from other crates.
pub use Rattle.std.proofs.KnownBytes.{Appends-nil, Appends-trans}
pub use Rattle.std.proofs.lemmas.Bool.Decides.{nat_tests}
pub use Rattle.std.proofs.lemmas.Int.{to_z-of_z}
pub use Rattle.std.proofs.lemmas.List.{append-nil, length-append, length-map, length-reverse, map-append, map-set}
pub use Rattle.std.proofs.lemmas.List.{map_push, reverse-append, reverse-reverse, take-append-drop, take_all, take_more}
pub use Rattle.std.proofs.lemmas.Option.{IfSome_then, slice_get_within}
pub use Rattle.std.proofs.lemmas.Result.{err_from_is_err_and, on_ok_weaker}
pub use Rattle.std.proofs.lemmas.Slice.Eq.{bytes_eq-Decides}
pub use Rattle.std.specs.Fmt.{signed_decimal}
pub use Rattle.std.specs.Int.{w64}
pub use Rattle.std.specs.Io.KnownBytes.{Appends}
pub use Rattle.std.specs.List.{list_all}
pub use Rattle.std.specs.Option.{option_and_then}
pub use Rattle.std.specs.Prelude.{FitsSigned, IfOk, IfSome, Result, min, nat_lt, option_map, replicate, slice_get}
pub use Rattle.std.specs.Prelude.{slice_set, string_bytes}
pub use Rattle.std.specs.Str.{bytes_eq, chars}
pub use Rattle.jt_escape.proofs.EscapedPrefix.{escaped_more}
pub use Rattle.jt_escape.specs.Escaping.{escaped, escaped_byte}
pub use Rattle.jt_ids.specs.OpTable.{op_operands}
pub use Rattle.jt_ids.specs.declared.op_id.OpId.{OpId}
pub use Rattle.jt_image.specs.Code.{Code, Constant, Section, tree_of}
pub use Rattle.jt_image.specs.Config.{Budget, Caller, Config, Frame, MachineState, Outcome, StackEntry, capture, frame}
pub use Rattle.jt_image.specs.Config.{value}
pub use Rattle.jt_image.specs.Ids.{filter_of, operands_of, operator_of, test_of}
pub use Rattle.jt_image.specs.IsCode.{IsCode}
pub use Rattle.jt_image.specs.Laws.{CodeLaws, IsSound}
pub use Rattle.jt_image.specs.Loops.{advanced, keeping, loop_over, trees_of}
pub use Rattle.jt_image.specs.Places.{place_at}
pub use Rattle.jt_image.specs.Readers.{constant_ref_view, instruction_at, place_there}
pub use Rattle.jt_image.specs.Run.{Ends, Goes, IsSafe, Next, RunFrom, Wrong, after, limit_of, next, next_at, passed}
pub use Rattle.jt_image.specs.Run.{placed, spends, start, then_goes, unless}
pub use Rattle.jt_image.specs.Step.{Action, Given, as_frame, back_to, begins, broken, calling, cost, entered, faults_by}
pub use Rattle.jt_image.specs.Step.{filtered_by, goes, goes_on, greatest, keys_of, listed, mapped, no_demand, on_value}
pub use Rattle.jt_image.specs.Step.{on_values, operated, piled, push_given, pushing, pushing_all, put_entries}
pub use Rattle.jt_image.specs.Step.{put_entry, put_printed, shown, straight, strict, tested_by, top_sizes, with_entries}
pub use Rattle.jt_image.specs.Step.{wrong}
pub use Rattle.jt_image.specs.Typed.{IsTyped}
pub use Rattle.jt_image.specs.declared.code.UnitHeader.{UnitHeader}
pub use Rattle.jt_image.specs.declared.instruction.Instruction.{Instruction}
pub use Rattle.jt_machine.specs.Activations.{Activations, topped, with_running}
pub use Rattle.jt_machine.specs.ConstantCache.{AreCached, IsMade}
pub use Rattle.jt_machine.specs.Emitting.{config_prefixed, emitted_by, outermost, prefixed}
pub use Rattle.jt_machine.specs.Entries.{all_held, entries_view, entry_view, frame_view, values_view}
pub use Rattle.jt_machine.specs.Growing.{ComesToGrow}
pub use Rattle.jt_machine.specs.InstructionSteps.{GoesOn, act, answering, below, charge_fuel, constant, enter, extra_of}
pub use Rattle.jt_machine.specs.InstructionSteps.{iterating, made, make, operate, paid, plain_text, printing, push, put}
pub use Rattle.jt_machine.specs.InstructionSteps.{put_data, spread, step_on, values_at, values_in, with_entry}
pub use Rattle.jt_machine.specs.InstructionSteps.{with_state}
pub use Rattle.jt_machine.specs.Sinks.{TookTo}
pub use Rattle.jt_machine.specs.StageView.{IsReached}
pub use Rattle.jt_machine.specs.View.{Begins, HasTop, HasValues, budget_view, config_view, held_in, limit_view}
pub use Rattle.jt_machine.specs.View.{outcome_view, outer_view, values_on}
pub use Rattle.jt_machine.specs.declared.fast_path.Registers.{Registers}
pub use Rattle.jt_machine.specs.declared.stack.Stack.TheInside.{Inside}
pub use Rattle.jt_machine.specs.declared.state.State.{State}
pub use Rattle.jt_machine.specs.declared.state.Table.{Table}
pub use Rattle.jt_machine.specs.internal.FastPath.{AreOf, HasRunFast, HasTakenMember, IsMember, at_registers, loads}
pub use Rattle.jt_machine.specs.internal.Iterating.{HasTurned}
pub use Rattle.jt_machine.specs.internal.Making.{keys_fault, lasting_nesting, lasting_size, upward}
pub use Rattle.jt_machine.specs.internal.StackView.{activations, caller_view, stack_view}
pub use Rattle.jt_op_semantics.specs.Testing.{is_text}
pub use Rattle.jt_ops.specs.Limited.{Answers, limited}
pub use Rattle.jt_value.specs.ContextView.{pairs_of}
pub use Rattle.jt_value.specs.Entries.{entry_of}
pub use Rattle.jt_value.specs.Iteration.{character_items, items_of_tree, key_items}
pub use Rattle.jt_value.specs.Pairs.{Pairs}
pub use Rattle.jt_value.specs.Place.{Place}
pub use Rattle.jt_value.specs.Tree.{Entries, Items, Tree, entries_nesting, entries_size, entry, item, items_nesting}
pub use Rattle.jt_value.specs.Tree.{items_size, map, nesting, no_entries, number, size, text, truth_value}
pub use Rattle.jt_value.specs.View.{items_of, view}
pub use Rattle.jt_value.specs.declared.fault.Fault.{Fault}
pub use Rattle.jt_value.specs.declared.text.Text.{Text}
pub use Rattle.jt_value.specs.declared.value.Value.{Value}
