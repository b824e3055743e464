use Rattle.jt_bind.proofs.{◌≡◌, ◌++◌, map, drop, string_bytes, texts}
use Rattle.jt_bind.proofs.program_names.strings_of.Given as goal

abbrev pub invariant-loop-name : goal.invariant-loop-name
invariant-loop-name l = map string_bytes l.strings.items ++ texts (drop l.name-index l.names) ≡ texts l.names
