use Rattle.std.proofs.Common.{◌≡◌, ◌++◌, map, string_bytes, drop}
use Rattle.jt_image.specs.View.{names_view}
use Rattle.jt_lower.specs.Lower.{numbered}
use Rattle.jt_codegen.proofs.tables.names_of.Given as goal

abbrev pub invariant-loop-name : goal.invariant-loop-name
invariant-loop-name l =
    (names_view l.numbered.items ++ numbered l.name-index (map string_bytes (drop l.name-index l.names))
    ≡ numbered 0 (map string_bytes l.names))
    × (l.slot ≡ l.name-index)
