-- The words that several proofs of this crate take from definitions and from other crates.
pub use Rattle.jt_ast.specs.Texts.{all_inserted, among, ascending, inserted, texts}
pub use Rattle.jt_chains.proofs.TemplatesByIndex.{file_at, named, namespace_along, namespace_indices}
pub use Rattle.jt_chains.specs.Along.{along, body_at}
pub use Rattle.jt_chains.specs.Chain.{is_loop, Text}
pub use Rattle.jt_chains.specs.Includes.{needs_by, needs_in, needs_under}
pub use Rattle.jt_chains.specs.View.{its_sources, its_templates, namespace_in}
pub use Rattle.jt_names.specs.FactsOfChains.{EachKnown, IsKnown}
pub use Rattle.jt_names.specs.FactsOfTemplates.{IsKnownTemplate}
pub use Rattle.jt_names.specs.Names.{AreIndices, first_of, value_in}
pub use Rattle.jt_names.specs.declared.templates.TemplateFacts.{TemplateFacts}
pub use Rattle.jt_names.specs.internal.UsedNames.{name_included, name_used, names_by, used}
pub use Rattle.jt_uses.specs.UseView.{sites_view}
pub use Rattle.std.proofs.Common.{Bool, List, None, Option, Some, [], ap, append_assoc, arith, drop, false, get_or}
pub use Rattle.std.proofs.Common.{if◌then◌else◌, length, map, refl, rules, suc, sym, tests, true, ℕ, ◌++◌, ◌+◌}
pub use Rattle.std.proofs.Common.{◌<◌, ◌||◌, ◌∙◌, ◌∷◌, ◌≡◌, ◌≤◌}
pub use Rattle.std.proofs.lemmas.List.{append-nil, drop_all, drop_more, length-map, length_push, map-append}
pub use Rattle.std.proofs.lemmas.List.Elements.{All-from_recursion, filter_map-append}
pub use Rattle.std.specs.List.{AllByRecursion, cons_option, filter_map}
pub use Rattle.std.specs.Prelude.{flat_map, nat_lt, option_map}
pub use Rattle.std.specs.Str.{bytes_eq}
