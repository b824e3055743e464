use Rattle.jt_host.proofs.notes.dotted.Given as goal
use Rattle.std.proofs.Common.{◌≡◌, ◌++◌, codes, drop, string_bytes}
use Rattle.std.specs.Prelude.{flat_map}
use Rattle.jt_ast.specs.Texts.{texts}
use Rattle.jt_host.specs.Notes.{dotted}

abbrev pub invariant-loop-key : goal.invariant-loop-key
invariant-loop-key l =
    string_bytes l.text ++ flat_map (λ key. codes "." ++ key) (texts (drop l.key-index l.keys))
    ≡ dotted (texts l.path)
