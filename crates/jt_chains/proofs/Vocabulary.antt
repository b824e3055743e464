-- The names that several proofs of this crate cite.
pub use Rattle.jt_ast.proofs.CollectedLists.{choice_added}
pub use Rattle.jt_ast.specs.Expressions.{Text}
pub use Rattle.jt_ast.specs.StatementView.{body_of, body_view, branches_view, given_view, stmt_view, stmts_of}
pub use Rattle.jt_chains.specs.Along.{AreIndices, along, body_at, layers_along}
pub use Rattle.jt_chains.specs.Chain.{Template, imports, is_space, libraries, libraries_in, macros_in, own, templates}
pub use Rattle.jt_chains.specs.Named.{names_view}
pub use Rattle.jt_chains.specs.Needs.{Need, include_need, includes_along, needed, needs_view}
pub use Rattle.jt_chains.specs.Parts.{blocks_view, macros_view, name_at}
pub use Rattle.jt_chains.specs.TemplateFiles.{files_view}
pub use Rattle.jt_chains.specs.View.{imports_along, its_sources, its_templates, namespace_in}
pub use Rattle.std.proofs.Common.{Bool, List, None, Option, Some, [], ap, append_assoc, arith, drop, false, get_or}
pub use Rattle.std.proofs.Common.{if◌then◌else◌, length, map, not, refl, rules, string_bytes, suc, tests, true, zero, ℕ}
pub use Rattle.std.proofs.Common.{◌++◌, ◌+◌, ◌<◌, ◌∙◌, ◌∷◌, ◌≡◌, ◌≤◌}
pub use Rattle.std.proofs.lemmas.List.{append-nil, drop_all, drop_more, length-map}
pub use Rattle.std.specs.BTreeMap.{get_by_text}
