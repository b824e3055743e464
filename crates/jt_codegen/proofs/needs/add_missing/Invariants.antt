use Rattle.std.proofs.Common.{◌≡◌, ◌++◌, drop}
use Rattle.std.specs.Prelude.{filter}
use Rattle.std.specs.Option.{is_none}
use Rattle.jt_ast.specs.Texts.{texts}
use Rattle.jt_chains.specs.View.{its_sources}
use Rattle.jt_codegen.proofs.needs.add_missing.Given as goal

abbrev pub invariant-loop-name : goal.invariant-loop-name
invariant-loop-name l =
    texts l.found.items ++ filter (λ name. is_none (its_sources l.chain name)) (texts (drop l.name-index l.names))
    ≡ texts l.initial.found.items ++ filter (λ name. is_none (its_sources l.chain name)) (texts l.names)
