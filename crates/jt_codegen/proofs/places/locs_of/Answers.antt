use Rattle.std.proofs.Common.{refl}
use Rattle.jt_ast.specs.Texts.{texts}
use Rattle.jt_image.specs.View.{texts_view}
use Rattle.jt_codegen.proofs.PlaceTables.{here_named, told_more}
use Rattle.jt_codegen.proofs.places.locs_of.Goals as goal

pub loop-tag-preserved : goal.loop-tag-preserved
loop-tag-preserved c =
    let l = c.loop-tag in
    told_more (texts_view c.args.templates.now) (texts c.args.named.now) c.args.places.now l.tag-index _ _ l.locs.items
    c.push.new.self.items c.loc_of.result c.loop-tag-test.true refl c.loc_of.ensures c.in_ok-push.ensures.items
    l.invariant

pub loc_of-requires-clause-named : goal.loc_of-requires-clause-named
loc_of-requires-clause-named c =
    let l = c.loop-tag in
    here_named (texts_view c.args.templates.now) (texts c.args.named.now) c.args.places.now l.tag-index _ _ l.locs.items
    c.loop-tag-test.true refl l.invariant
