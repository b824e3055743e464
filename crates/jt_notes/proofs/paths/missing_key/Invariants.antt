use Rattle.jt_notes.proofs.paths.missing_key.Given as goal
use Rattle.std.proofs.Common.{◌≡◌, drop}
use Rattle.jt_ast.specs.Texts.{texts}
use Rattle.jt_value.specs.View.{view}
use Rattle.jt_notes.specs.Notes.{missing_key, rest}

abbrev pub invariant-loop-index : goal.invariant-loop-index
invariant-loop-index l =
    missing_key l.index (view l.value) (texts (drop l.index l.path))
    ≡ missing_key 1 (view l.initial.value) (rest (texts l.path))
