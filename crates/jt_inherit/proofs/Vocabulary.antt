-- The words that several proofs of this crate take from definitions and from other crates.
use Rattle.std.proofs.lemmas.Result.{err_from_is_err_and}
use Rattle.std.specs.Prelude.{Result, IfErr}
use Rattle.std.specs.Result.{IsErrAnd}
use Rattle.std.proofs.lemmas.Bool as std_bool
pub use std_bool.{and_from, and_parts, and_right, both_ways, cases_lt, not-false, not-true, or_cases, or_from, or_left}
pub use std_bool.{or_parts, or_right, false_from_ne_true, true_from_ne_false}
pub use Rattle.std.proofs.lemmas.Bool.Decides.{nat_tests}
pub use Rattle.std.proofs.lemmas.Iterator.{YieldsList-from_slice, cases_from_all, YieldsList-from_map_by}
pub use Rattle.std.proofs.lemmas.Grind.{flat_map-append, common_steps}
pub use Rattle.std.proofs.lemmas.List.{append-nil, append_assoc, drop_more, length-map, map-append, map_push}
pub use Rattle.std.proofs.lemmas.List.{take-append-drop, take_all, take_more, get_or_default}
pub use Rattle.std.proofs.lemmas.List.Elements.{filter_agree, filter-append}
pub use Rattle.std.proofs.lemmas.List.Folds.{list_any-append}
pub use Rattle.std.proofs.lemmas.Map.Text.{btree_map_updates_text}
pub use Rattle.std.proofs.lemmas.Option.{slice_get-get_or, slice_get-map, slice_get_within}
pub use Rattle.std.proofs.lemmas.Simd.{map-map}
pub use Rattle.std.specs.BTreeMap.{get_by_text}
pub use Rattle.std.specs.List.{AllByRecursion, AllWithin, HoldsAt, list_any, position_from, slice_split}
pub use Rattle.std.specs.Option.{is_none, is_some, option_to_list, option_or}
pub use Rattle.std.specs.Prelude.{filter, flat_map, option_map, slice_get, unwrap_or, option_copied}
pub use Rattle.std.specs.Str.{bytes_eq}
pub use denote.Ref.{Bor}
pub use Rattle.jt_ast.specs.ExpressionView.{exprs_view, pairs_view, expr_view}
pub use Rattle.jt_ast.specs.Expressions.{Text}
pub use Rattle.jt_ast.specs.StatementView.{body_of, body_view, given_view, branches_view, filter_calls_view}
pub use Rattle.jt_ast.specs.Statements as trees
pub use trees.{Body, Branches, Stmt, autoescape, body_levels, branch, choose, end, filter_block, for_each, no_branches}
pub use trees.{set_block, stmt, with_values}
pub use Rattle.jt_ast.specs.Texts.{among, repeated, texts}
pub use Rattle.jt_chains.proofs.IncludeCollection.{by_templates, needed-append}
pub use Rattle.jt_chains.proofs.TemplatesByIndex.{along_templates, file_at, given_templates, index_within, map_at}
pub use Rattle.jt_chains.proofs.TemplatesByIndex.{only_one}
pub use Rattle.jt_chains.specs.Along.{AreIndices, templates_at, body_at}
use Rattle.jt_chains.specs.Chain as chain
pub use chain.{MacroBody, Namespace, Sources, Template, a_chain, a_library, blocks_in, extends_of, holds_macros}
pub use chain.{is_a_library, libraries, libraries_in, library_template, listed, macros, macros_in, names_up}
pub use chain.{namespace_name, own, parent_of, public_macro, same_namespace, sources_in, template, templates}
pub use chain.{imports_in, all_given_from, BlockBody, from_given, given, imports}
use Rattle.jt_chains.specs.Includes as includes
pub use includes.{AllIn, InOrder, included, includes_in, needs_by, needs_in, needs_under, with_source, includes_by}
pub use includes.{includes_under, need, begins_with_chain}
pub use Rattle.jt_chains.specs.Indices.{namespace_at, index_of}
pub use Rattle.jt_chains.specs.Names.{IsName, IsPart}
pub use Rattle.jt_chains.specs.Needs.{Need, include_need, library_need, need_namespace, needed, needs_view}
pub use Rattle.jt_chains.specs.Parts.{block_view, blocks_view}
use Rattle.jt_chains.specs.Rules as rules
pub use rules.{Asks, KeepsRules, Reaches, asked, extends_path, here, is_whole, lacks_macros, through}
pub use Rattle.jt_chains.specs.Supers.{branches_super_line, calls_super, filter_call_super, pairs_super, row_super}
pub use Rattle.jt_chains.specs.Supers.{super_line}
pub use Rattle.jt_chains.specs.Tables.{Table, library_macros, AreAt}
pub use Rattle.jt_chains.specs.TemplateFiles.{file_view, files_view, names_at, namespace_view, AreWhole}
pub use Rattle.jt_chains.specs.View.{Seen, sources_of}
pub use Rattle.jt_chains.specs.Weights.{chains_weight, templates_weight}
pub use Rattle.jt_chains.specs.declared.files.TemplateFile.{TemplateFile}
pub use Rattle.jt_graph.specs.Graph as graph
pub use graph.{Graph, next_of, AreOrdered, IsClosed, IsOrder}
pub use Rattle.jt_graph.specs.View.{graph_of}
pub use Rattle.jt_parse.specs.Bytes.{bytes_of, segment_bytes}
pub use Rattle.jt_scan.specs.LineEnds.{normalized}
pub use Rattle.jt_scan.specs.SourceView.{Held, max_source_len}
pub use Rattle.jt_scan.specs.View.{cut_of, segment_view, HaveOptions}
pub use Rattle.jt_scan.specs.declared.options.Options.{Options}
pub use Rattle.jt_uses.specs.Uses.{Site, Use, body_uses, outside}
pub use Rattle.jt_inherit.proofs.Membership.{among_behind, among_cases, among_front, among_next, indexed_among, no_more}
pub use Rattle.jt_inherit.proofs.Membership.{once_more, only_among, comes_again, lighter, total, of_texts, reflexive}
pub use Rattle.jt_inherit.proofs.Membership.{same, symmetric, all_more, all_weaker}
pub use Rattle.jt_inherit.proofs.NamespaceMembership.{chain_among, of_namespaces, chains_both}
pub use Rattle.jt_inherit.specs.Chains.{IsChain, IsOnly, IsRead, IsTree, SourceTexts, HasNoTree}
use Rattle.jt_inherit.specs.Findings as findings
pub use findings.{ForSome, HasTag, InTurn, IsAt, IsFinding, IsNoMemory, Says, all_uses, asks, binds_macro}
pub use findings.{calls_super_at, defines, is_block, is_extends, is_import, is_include, is_required, leads_to}
pub use findings.{may_be_bare, uses_in, LeadsTo, IsBrokenAt, last_of, blocks_named}
pub use Rattle.jt_inherit.specs.Linked.{IsLinked, KeepsLinkRules}
pub use Rattle.jt_inherit.specs.Refusals.{Breaks, HasFault, IsUncut, IsUnspelled, Shows, IsMissing}
pub use Rattle.jt_inherit.specs.Small.{chains_len, templates_len, libraries_len}
pub use Rattle.jt_inherit.specs.declared.discovery.Discovery.{Discovery}
pub use Rattle.jt_inherit.specs.declared.error.ChainError.{ChainError}
pub use Rattle.jt_inherit.specs.declared.finding.ChainFinding.{ChainFinding}
pub use Rattle.jt_inherit.specs.declared.finding.ChainSubject.{ChainSubject}
pub use Rattle.jt_inherit.specs.declared.finding.TagPlace.{TagPlace}
pub use Rattle.jt_inherit.specs.declared.including.KeyedNeed.{KeyedNeed}
pub use Rattle.jt_inherit.specs.declared.sets.NamespaceKey.{NamespaceKey}
pub use Rattle.jt_inherit.specs.declared.tags.FoundTag.{FoundTag}
use Rattle.jt_inherit.specs.internal.Found as found
pub use found.{imports_along, needs_along, AreFollowed, AreFound, AreNext, IsFollowed, IsFound, IsMet, IsNextFault}
pub use found.{IsNextFinding, TooMany, chains_of, chosen, found_namespaces, found_paths, found_templates, listed_at}
pub use found.{listed_view, root_of, twice, HasNeeds, IsUnmet, keyed_needs, keyed_view, IsFaultAt, IsUnmetNeed}
pub use found.{AddsNext, known_of, IsLedTo, IsDone}
pub use Rattle.jt_inherit.specs.internal.Breaking.{IsOfRule, IsTwiceIn, RuleAt, IsBroken, BrokenIn, TwiceAt, lacks}
pub use Rattle.jt_inherit.specs.internal.Breaking.{IsImported, Misses, imports_it}
use Rattle.jt_inherit.specs.internal.RuleTests as rule_tests
pub use rule_tests.{lacks_body, lacks_next, BreakOne, KeepAll, any_double, any_lacks_macros, their_blocks, named}
pub use rule_tests.{IsNameOf, times}
use Rattle.jt_inherit.specs.internal.ExtendsPaths as extends_paths
pub use extends_paths.{AreKnown, BreaksAll, HasPath, HasRead, IsExtendsPath, IsWithin, Leads, names, SaysAll, LeadsFrom}
pub use Rattle.jt_inherit.specs.internal.Faults.{IsFaultOf, HasFaulty, IsFault, IsScan, IsParse}
pub use Rattle.jt_inherit.specs.internal.Views.{its_files, its_templates, namespaces_view}
use Rattle.jt_inherit.specs.internal.Placing as placing
pub use placing.{is_no_library, leading_at, IsCycle, IsIncludedMore, IsNamedOn, need_test, last_number, name_at}
pub use placing.{IsRingOf, HasRing, IsAsked, IsFirst, IsNameless, IsOfName, IsOfNeed, IsParentAt, NamedAt, any_tag}
pub use placing.{IsAbout}
pub use placing.{IsNoLibrary, IsOfImport, LeadsAt, extends_at, IsParent}
pub use Rattle.jt_inherit.specs.internal.Numbers.{AreNumbers, is_named, is_kind, key_view, keys_view, keyed}
use Rattle.jt_inherit.specs.internal.Tags as tags
pub use tags.{IsLastCall, place_in, place_view, tag_view, tags, tags_view, test_of, place_of, with_name}
pub use tags.{has_call, lacks_call, tag_count}
use Rattle.std.proofs.Common as common
pub use common.{◌≡◌, ℕ, zero, suc, ◌<◌, ◌==◌, Bool, true, false, not, ◌||◌, List, [], ◌∷◌, length, map, refl, sym, ap}
pub use common.{◌∙◌, arith, Some, rules, ◌⊎◌, ◌≤◌, ◌-◌, subst, ⊎_elim, Option, String, Vec, Global, ◌&&◌, None, ◌+◌}
pub use common.{◌++◌, drop, get_or, inl, string_bytes, inr, length-append, nat_lt, cond, take, ◌*◌, encode_utf8_all}
pub use common.{if◌then◌else◌, codes, chars, IsUtf8, add-one, ◌≢◌, ◌↔◌, All, IsTrue, MatchBool, MatchOption, ◌^◌, lit<}
pub use common.{tests}
pub use Rattle.jt_inherit.specs.declared.error.ChainError.TheVariants as error
pub use Rattle.jt_inherit.specs.declared.finding.ChainSubject.TheVariants as v

-- What holds of an error holds of the same error that `?` returns.
pub passed_on : {T E : Type 0} (P : E → Type 0) {e : E} (r : Result T E) → IsErrAnd r (λ x. x ≡ e) → P e → IfErr r P
passed_on P r a p = let q = err_from_is_err_and r a in rw (q.1, q.2) p
