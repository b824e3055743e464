use Rattle.std.proofs.Common.{◌≡◌, ◌++◌, map, string_bytes, drop}
use Rattle.jt_host.specs.NeedsText.{lines_of}
use Rattle.jt_host.proofs.needs.push_lines.Given as goal

abbrev pub invariant-loop-name : goal.invariant-loop-name
invariant-loop-name l =
    string_bytes l.text ++ lines_of l.word (map string_bytes (drop l.name-index l.names))
    ≡ string_bytes l.initial.text ++ lines_of l.word (map string_bytes l.names)
