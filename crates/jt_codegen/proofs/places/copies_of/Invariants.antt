use Rattle.std.proofs.Common.{◌≡◌, ◌++◌, drop}
use Rattle.jt_ast.specs.Texts.{texts}
use Rattle.jt_image.specs.View.{texts_view}
use Rattle.jt_codegen.proofs.places.copies_of.Given as goal

abbrev pub invariant-loop-name : goal.invariant-loop-name
invariant-loop-name l = texts_view l.copies.items ++ texts (drop l.name-index l.names) ≡ texts l.names
