use Rattle.std.proofs.Common.{◌≡◌, ◌++◌, drop}
use Rattle.jt_ast.specs.Texts.{texts}
use Rattle.jt_image.specs.View.{texts_view}
use Rattle.jt_codegen.specs.internal.Naming.{numbers_among}
use Rattle.jt_codegen.proofs.places.numbers_of.Given as goal

abbrev pub invariant-loop-name : goal.invariant-loop-name
invariant-loop-name l =
    l.numbers.items ++ numbers_among (texts l.named) (texts_view (drop l.name-index l.templates))
    ≡ numbers_among (texts l.named) (texts_view l.templates)
