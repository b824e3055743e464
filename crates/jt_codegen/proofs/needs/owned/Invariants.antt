use Rattle.std.proofs.Common.{◌≡◌, ◌++◌, map, string_bytes, drop}
use Rattle.jt_ast.specs.Texts.{texts}
use Rattle.jt_codegen.proofs.needs.owned.Given as goal

abbrev pub invariant-loop-name : goal.invariant-loop-name
invariant-loop-name l = map string_bytes l.copies.items ++ texts (drop l.name-index l.names) ≡ texts l.names
