use Rattle.jt_inherit.proofs.Vocabulary.{arith, sym, true, false, ◌∙◌, length-map, file_view, index_within, body_at}
use Rattle.jt_inherit.proofs.Vocabulary.{get_or}
use Rattle.jt_chains.specs.Parts.{name_at}
use Rattle.jt_chains.specs.View.{its_sources, its_templates}
use Rattle.jt_inherit.proofs.BlocksOfUses.{twice_tagged}
use Rattle.jt_inherit.proofs.BodyRules.{double_left}
use Rattle.jt_inherit.proofs.TagPlaces.{known_uses, twice_rule}
use Rattle.jt_inherit.proofs.rules.double_block.Goals as goal

pub block_twice-requires : goal.block_twice-requires
block_twice-requires c =
    let whole = c.args.facts.now.chain.now in
    let ts = its_templates whole in
    let i = get_or c.args.indices.now c.loop-index.index-index 0 in
    let twice = (rw c.in-Some.is at c.in_ok-name.ensures ts) in
    record {
      twice = twice_tagged _ (name_at ts i) (body_at ts i) whole.autoescape _ _ _ c.blocks_at.ensures
          c.uses_at-uses.ensures twice.1;
    }

pub returns-in-Some : goal.returns-in-Some
returns-in-Some c =
    let whole = c.args.facts.now.chain.now in
    let ps = whole.templates.items in
    let is = c.args.indices.now in
    let k = c.loop-index.index-index in
    let lt = c.loop-index-test.true in
    let p = c.index.result.now in
    let within = index_within ps is k lt c.requires.indices in
    let twice = (rw c.in-Some.is at c.in_ok-name.ensures (its_templates whole)) in (
      c.loop-index.invariant
          ∙ double_left whole.autoescape (its_templates whole) is k lt (omega (arith, within, length-map ps file_view))
          c.blocks_at.result.now true c.blocks_at.ensures (sym twice.0),
      twice_rule ps is k p lt within c.index.ensures (its_sources whole) c.in_ok-block_twice.field-0
          (c.in_ok-block_twice.ensures (file_view p)
          (rw c.deref.ensures (known_uses ps _ p _ within c.index.ensures c.uses_at-uses.ensures))),
    )

pub loop-index-preserved : goal.loop-index-preserved
loop-index-preserved c =
    let whole = c.args.facts.now.chain.now in
    let ps = whole.templates.items in
    let is = c.args.indices.now in
    let k = c.loop-index.index-index in
    let lt = c.loop-index-test.true in
    let within = index_within ps is k lt c.requires.indices in
    let once = (rw c.in_default.is at c.in_ok-name.ensures (its_templates whole)) in
    c.loop-index.invariant
    ∙ double_left whole.autoescape (its_templates whole) is k lt (omega (arith, within, length-map ps file_view))
    c.blocks_at.result.now false c.blocks_at.ensures (sym once)
