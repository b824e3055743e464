-- The words that several proofs of this crate take from definitions and from other crates.
pub use Rattle.jt_ast.specs.Expressions.{Text}
pub use Rattle.jt_ast.specs.StatementView.{parameters_view}
pub use Rattle.jt_ast.specs.Texts.{all_inserted, ascending, texts}
pub use Rattle.jt_chains.proofs.TemplatesByIndex.{name_of_namespace}
use Rattle.jt_chains.specs.Chain as chains
pub use chains.{BlockBody, MacroBody, Namespace, Sources, Template, a_chain, a_library, all_bodies, listed, macro_of}
pub use chains.{macros, same_namespace, templates}
pub use Rattle.jt_chains.specs.Includes.{InOrder, needs_in, with_source}
pub use Rattle.jt_chains.specs.Indices.{namespace_at}
pub use Rattle.jt_chains.specs.Parts.{block_view, blocks_view, macro_view}
pub use Rattle.jt_chains.specs.TemplateFiles.{namespace_view}
pub use Rattle.jt_chains.specs.Uses.{own_names}
pub use Rattle.jt_chains.specs.View.{its_templates, namespace_in}
pub use Rattle.jt_chains.specs.declared.chain.Chain.{Chain}
pub use Rattle.jt_chains.specs.declared.parts.Block.{Block}
pub use Rattle.jt_chains.specs.declared.parts.Macro.{Macro}
pub use Rattle.jt_ir.specs.Slots.{global}
pub use Rattle.jt_layout.specs.NamespaceLayout.{IsCalled, IsNamespaceAt}
pub use Rattle.jt_layout.specs.declared.layout.FirstFree.{FirstFree}
pub use Rattle.jt_layout.specs.declared.namespace_layout.NamespaceLayout.{NamespaceLayout}
use Rattle.jt_layout.specs.internal.Layouts
pub use Layouts.{AreLaid, AreNames, IsLaidAt, Stands, StandsAt, all_names, defaults_from, first_namespace, its_cenv}
pub use Layouts.{its_order, names_at, namespace_named, namespace_of, nexts, texts_of}
pub use Rattle.jt_names.proofs.SortedNames.{ascending_inserted, inserted_both}
pub use Rattle.jt_names.specs.Names.{first_of, value_in}
pub use Rattle.jt_rules.specs.CompileEnv.{CompileEnv}
pub use Rattle.jt_semantics.proofs.EnvLookup.{namespace_is, namespace_same, same_is, same_text}
pub use Rattle.jt_semantics.proofs.EnvMemoryAgreement.{names_library}
use Rattle.jt_semantics.specs.Layout
pub use Layout.{Key, block_parameters, chain_keys, counted_from, default_index, defaults_of, entry_keys, first_default}
pub use Layout.{first_slot, globals_from, in_globals, index_of, is_scoped, names, names_in, numbered_bodies, of_body}
pub use Layout.{of_chain, of_macro, same_key, slot_in, unit}
pub use Rattle.jt_semantics.specs.Resolve.{first_body, next_given}
use Rattle.std.proofs.Common
pub use Common.{Bool, Global, List, None, Option, Some, Vec, [], add-one, ap, append_assoc, arith, drop, false, get_or}
pub use Common.{if◌then◌else◌, length, length-append, map, not, refl, rules, set, string_bytes, subst, suc, sym, true}
pub use Common.{zero, ℕ, ◌&&◌, ◌++◌, ◌+◌, ◌<◌, ◌||◌, ◌∙◌, ◌∷◌, ◌≡◌, ◌≤◌}
pub use Rattle.std.proofs.lemmas.Bool.{or_right}
pub use Rattle.std.proofs.lemmas.Bool.Decides.{nat_tests}
pub use Rattle.std.proofs.lemmas.Grind.{common_steps, flat_map-append}
pub use Rattle.std.proofs.lemmas.List.{append-nil, drop-set, drop_more, length-map}
pub use Rattle.std.specs.BTreeMap.{BTreeMap}
pub use Rattle.std.proofs.lemmas.Option.{unwrap_or-slice_get}
pub use Rattle.std.specs.List.{list_any}
pub use Rattle.std.specs.Option.{is_some}
pub use Rattle.std.specs.Prelude.{filter, flat_map, option_map, slice_get}
pub use Rattle.std.specs.Str.{bytes_eq}
pub use denote.Ref.{Bor}
pub use mir.Val.{bool_byte}
