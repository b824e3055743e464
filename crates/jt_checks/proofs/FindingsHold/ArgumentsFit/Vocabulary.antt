-- The words that several proofs of this crate take from definitions and from other crates.
pub use Rattle.jt_ast.proofs.RemainingParts.{Entry}
pub use Rattle.jt_ast.specs.ExpressionView.{expr_view, exprs_view, pairs_view}
pub use Rattle.jt_ast.specs.Expressions.{Text}
pub use Rattle.jt_ast.specs.StatementView.{parameters_view}
pub use Rattle.jt_ast.specs.Statements.{Body, body_bound}
pub use Rattle.jt_ast.specs.Texts.{among, ascending, inserted, repeated, texts}
pub use Rattle.jt_ast.specs.Written.{literal_text}
pub use Rattle.jt_ast.specs.declared.expression.Expr.{Expr}
pub use Rattle.jt_ast.specs.declared.statement.Parameter.{Parameter}
pub use Rattle.jt_chains.proofs.TemplatesByIndex.{index_within, name_of_namespace, namespace_indices}
pub use Rattle.jt_chains.specs.Along.{layers_along}
use Rattle.jt_chains.specs.Chain as chains
pub use chains.{BlockBody, Callee, Namespace, Template, a_chain, a_library, namespace_name, templates}
pub use Rattle.jt_chains.specs.Uses.{count, keywords}
pub use Rattle.jt_chains.specs.View.{chain_view, namespace_in}
pub use Rattle.jt_chains.specs.declared.chain.Chain.{Chain}
use Rattle.jt_checks.specs.Findings
pub use Findings.{BreaksAt, Finding, Holds, IsFoundAt, IsFoundIn, PassesBindings, Subject, binds_name, is_binding}
pub use Findings.{subject_of}
pub use Rattle.jt_checks.specs.internal.RuleTests.{all_known, lines_bound}
pub use Rattle.jt_checks.specs.internal.ScopeView.{cenv_in, in_scope, its_chain, names_of}
pub use Rattle.jt_eval.specs.Filters.{some_given}
pub use Rattle.jt_eval.specs.Inside.{argument_well, row_well}
pub use Rattle.jt_eval.specs.TheFilters.{filter_parameters}
pub use Rattle.jt_filter_semantics.specs.FilterIds.{accepts}
pub use Rattle.jt_ids.specs.FilterTable.{filter_id, named_at, with_only}
pub use Rattle.jt_ids.specs.declared.filter_id.FilterId.{FilterId}
pub use Rattle.jt_names.proofs.NamesOfUses.{bindings, bindings_counted, weight_of}
pub use Rattle.jt_names.proofs.SortedNames.{absorbed, among_all, past}
pub use Rattle.jt_names.specs.Names.{first_of}
pub use Rattle.jt_rules.specs.Arguments.{no_keywords}
pub use Rattle.jt_rules.specs.CompileEnv.{CompileEnv}
use Rattle.jt_rules.specs.Rules
pub use Rules.{BindsTooMany, Breaks, BrokenIn, CannotBeCalled, ForSome, IsOnlyCalled, KeepsRules, MisusesLoop}
pub use Rules.{chain_uses, libraries_counted, names_counted, parameter_names}
pub use Rattle.jt_rules.specs.declared.error.ScopeError.{ScopeError}
pub use Rattle.jt_uses.specs.UseView.{sites_view}
pub use Rattle.jt_uses.specs.Uses.{Site, Use, body_uses, calls}
pub use Rattle.jt_uses.specs.declared.site.Enclosing.{Enclosing}
use Rattle.std.proofs.Common
pub use Common.{Bool, List, None, Option, Some, [], add-one, ap, arith, cond, drop, false, get_or, if◌then◌else◌}
pub use Common.{length, length-drop, map, max, min, nat_eq, nat_lt, not, refl, rules, string_bytes, suc, sym, take}
pub use Common.{tests, true, zero, ℕ, ◌&&◌, ◌++◌, ◌+◌, ◌-◌, ◌<◌, ◌==◌, ◌||◌, ◌∙◌, ◌∷◌, ◌≡◌, ◌≤◌}
pub use Rattle.std.proofs.lemmas.Bool.Decides.{Decides-and, Decides-ltb, Decides-not, Decides-or, nat_tests}
pub use Rattle.std.proofs.lemmas.List.{drop-map, drop_all, drop_min, drop_more, length-map, take_rest}
pub use Rattle.std.proofs.lemmas.Option.{slice_get-get_or, slice_get_within, unwrap_or-slice_get}
pub use Rattle.std.proofs.lemmas.Slice.Eq.{bytes_eq-Decides}
pub use Rattle.std.specs.Bool.{Decides}
pub use Rattle.std.specs.List.{list_all, list_any}
pub use Rattle.std.specs.Option.{is_some, option_or}
pub use Rattle.std.specs.Prelude.{IfSome, filter, flat_map, option_map, slice_get, ◌⊎◌}
pub use Rattle.std.specs.Str.{bytes_eq}
pub use denote.Ref.{Bor}
pub use mathlib.Core.Logic.{inl, inr}
