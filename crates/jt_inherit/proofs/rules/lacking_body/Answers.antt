use Rattle.jt_inherit.proofs.Vocabulary.{◌<◌, ◌≤◌, length, length-map, sym, ap, subst, ◌∙◌, arith, lacks_body}
use Rattle.jt_inherit.proofs.Vocabulary.{blocks_view, block_view, take_all, ◌≡◌, Some, named}
use Rattle.jt_chains.specs.Rules.{is_required}
use Rattle.jt_chains.specs.View.{its_templates}
use Rattle.jt_names.proofs.FactsByIndex.{known_at}
use Rattle.jt_names.specs.Names.{first_of}
use Rattle.jt_inherit.proofs.BodyRules.{AreGiven, body_lacking, body_goes, body_required, all_given, names_of, index_is}
use Rattle.jt_inherit.proofs.BodyRules.{index_not}
use Rattle.jt_inherit.proofs.rules.lacking_body.Goals.{else-block-via-then-block+else-eq, else-block-via-else-block}
use Rattle.jt_inherit.proofs.rules.lacking_body.Goals as goal

pub index-known-requires : goal.index-known-requires
index-known-requires c = omega (arith, c.requires.stands, c.args.facts.now.known.all)

pub returns-then-eq : goal.returns-then-eq
returns-then-eq c =
    let known =
    known_at c.args.facts.now c.args.namespace c.index-known.result.now c.requires.stands c.index-known.ensures in
    let bodies = c.index-known.result.now.blocks in
    let x = c.index-block.result.now in
    let lt : c.loop-index.index < length bodies.items =
    omega (arith, c.loop-index-test.true, c.len-index-end.ensures, bodies.ok.0) in
    let ts = its_templates c.args.facts.now.chain.now in
    let first : first_of x.name.now 0 (names_of (blocks_view ts bodies.items)) ≡ Some c.loop-index.index =
    ap (λ bs. first_of x.name.now 0 (names_of bs)) known.all_blocks ∙ sym (known.first_bodies x.name.now)
    ∙ sym c.index_of.ensures ∙ index_is _ _ (sym c.if-eq.ensures) in (
      ap lacks_body (sym known.all_blocks)
          ∙ body_lacking ts bodies.items c.loop-index.index x lt c.index-block.ensures c.if-block.true first,
      ap (λ bs. is_required (named x.name.now bs)) (sym known.all_blocks)
          ∙ body_required ts bodies.items c.loop-index.index x lt c.index-block.ensures c.if-block.true first,
    )

pub loop-index-preserved : goal.loop-index-preserved
loop-index-preserved c =
    let known =
    known_at c.args.facts.now c.args.namespace c.index-known.result.now c.requires.stands c.index-known.ensures in
    let bodies = c.index-known.result.now.blocks in
    let x = c.index-block.result.now in
    let lt : c.loop-index.index < length bodies.items =
    omega (arith, c.loop-index-test.true, c.len-index-end.ensures, bodies.ok.0) in
    body_goes (its_templates c.args.facts.now.chain.now) bodies.items c.loop-index.index x lt c.index-block.ensures
    (λ e. elim c.else-block.branch [
      | else-block-via-then-block+else-eq w ↦ absurd (index_not _ _ (sym w.if-eq.ensures) (w.index_of.ensures
          ∙ known.first_bodies x.name.now
          ∙ ap (λ bs. first_of x.name.now 0 (names_of bs)) (sym known.all_blocks) ∙ e))
      | else-block-via-else-block w ↦ w.if-block.false
    ])
    c.loop-index.invariant

pub returns : goal.returns
returns c =
    let known =
    known_at c.args.facts.now c.args.namespace c.index-known.result.now c.requires.stands c.index-known.ensures in
    let bodies = c.index-known.result.now.blocks in
    let bs = blocks_view (its_templates c.args.facts.now.chain.now) bodies.items in
    let le : length bs ≤ c.loop-index.index =
    omega (
      arith,
      c.loop-index-test.false,
      c.len-index-end.ensures,
      bodies.ok.0,
      length-map bodies.items (block_view (its_templates c.args.facts.now.chain.now)),
    ) in
    ap lacks_body (sym known.all_blocks)
    ∙ all_given bs (subst (λ l. AreGiven l) (take_all c.loop-index.index bs le) c.loop-index.invariant)
