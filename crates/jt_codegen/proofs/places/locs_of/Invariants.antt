use Rattle.jt_ast.specs.Texts.{texts}
use Rattle.jt_image.specs.View.{texts_view}
use Rattle.jt_codegen.proofs.PlaceTables.{Told}
use Rattle.jt_codegen.proofs.places.locs_of.Given as goal

abbrev pub invariant-loop-tag : goal.invariant-loop-tag
invariant-loop-tag l = Told (texts_view l.templates) (texts l.named) l.places l.tag-index l.locs.items
