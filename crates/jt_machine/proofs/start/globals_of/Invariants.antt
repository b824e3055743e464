use Rattle.jt_machine.proofs.Vocabulary.{values_view, pairs_of, replicate}
use Rattle.std.proofs.Common.{◌≡◌, drop}
use Rattle.jt_image.specs.Run.{filled}
use Rattle.jt_value.specs.Tree as tree
use Rattle.jt_machine.proofs.start.globals_of.Given as goal

abbrev pub invariant-names : goal.invariant-names
invariant-names g l =
    filled (pairs_of l.context) (drop l.i (g.C.Code.code l.code).names) (values_view l.globals.items)
    ≡ filled (pairs_of l.context) (g.C.Code.code l.code).names (replicate (g.C.Code.code l.code).globals tree.undefined)
