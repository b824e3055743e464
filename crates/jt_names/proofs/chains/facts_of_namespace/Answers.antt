use Rattle.jt_names.proofs.chains.facts_of_namespace.Goals as goal
use Rattle.jt_ast.specs.Statements.{Body}
use Rattle.jt_chains.specs.Chain.{templates}
use Rattle.jt_chains.specs.TemplateFiles.{file_view}
use Rattle.jt_names.proofs.{append_assoc, drop_all, map-append, All-from_recursion, namespace_along, namespace_indices}
use Rattle.jt_names.proofs.{namespace_in, ap, ◌∙◌, its_sources, its_templates, Text, List, arith}
use Rattle.jt_names.proofs.{rules, along, flat_map, ◌≡◌, ◌<◌, get_or, length, length-map, texts}
use Rattle.jt_names.proofs.{append-nil, drop_more, inserted_both, known_names, known_scopes}

pub loop-index-init : goal.loop-index-init
loop-index-init c = record {
  within =
      rw c.requires.known.all
      (rw (length-map c.args.chain.now.templates.items file_view) at
      (namespace_indices c.args.chain.now c.args.namespace c.index.result.now _ c.deref-index-items.ensures.value
      c.requires.stands c.index.ensures));
  all_names = rw (c.new-names.ensures.empty, all);
  in_scopes = rw (c.new-scope_names.ensures.empty, all);
  all_macros = rw (c.new-macros.ensures.items, all);
  all_blocks = rw (c.new-blocks.ensures.items, all);
  all_includes = rw (c.new-includes.ensures.items, all);
}
  where
    all : {A : Type 0} (g : Text → Body → List A)
        → along (its_templates c.args.chain.now) g c.deref-index-items.result.now
        ≡ flat_map (λ t. g t.name t.body)
        (templates (its_sources c.args.chain.now) (namespace_in c.args.chain.now c.args.namespace))
    all =
        namespace_along c.args.chain.now c.args.namespace c.index.result.now _ c.deref-index-items.ensures.value
        c.requires.stands c.index.ensures

pub loop-index-preserved : goal.loop-index-preserved
loop-index-preserved c =
    let l = c.loop-index in
    let is = c.deref-index-items.result.now in
    let known = c.requires.known.each (get_or is l.index-index 0) c.index-templates-index.result
    (All-from_recursion (λ j. j < length c.args.templates.now) is l.invariant.within _ 0 c.loop-index-test.true)
    c.index-templates-index.is in
    let lt = c.loop-index-test.true in
    record {
      within = l.invariant.within;
      all_names = search (arith, rules, known_names, inserted_both, drop_more, known);
      in_scopes = search (arith, rules, known_scopes, inserted_both, drop_more, known);
      all_macros = search (arith, rules, drop_more, append_assoc, map-append, known);
      all_blocks = search (arith, rules, drop_more, append_assoc, map-append, known);
      all_includes = search (arith, rules, drop_more, append_assoc, map-append, known);
    }

pub returns : goal.returns
returns c =
    let l = c.loop-index.invariant in
    let ended = c.loop-index-test.false in
    let macros = simp (drop_all, append-nil) at l.all_macros in
    let blocks = simp (drop_all, append-nil) at l.all_blocks in
    let defined = rw (c.deref-2.ensures.value, macros) at (c.in_ok-defined.ensures.there c.requires.stands) in
    record {
      names = ap texts c.in_ok-list_of.ensures ∙ (simp drop_all at l.all_names);
      scope_names = ap texts c.in_ok-list_of-2.ensures ∙ (simp drop_all at l.in_scopes);
      all_macros = macros;
      all_defined = defined;
      all_given = λ x. rw (c.in_ok-given.ensures, c.deref-3.ensures.value, defined);
      all_blocks = blocks;
      first_bodies =
          λ x. rw (
            c.in_ok-first_bodies.ensures (its_templates c.args.chain.now) x,
            c.deref-4.ensures.value,
            blocks,
          );
      all_includes = simp (drop_all, append-nil) at l.all_includes;
    }
