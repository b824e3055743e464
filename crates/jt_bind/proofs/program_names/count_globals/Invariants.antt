use Rattle.jt_semantics.specs.Programs as programs
use Rattle.jt_bind.proofs.{◌≡◌, ◌+◌, drop, cenv_in, order_in}
use Rattle.jt_bind.proofs.program_names.count_globals.Given as goal

abbrev pub invariant-loop-namespace : goal.invariant-loop-namespace
invariant-loop-namespace l =
    l.globals
    + programs.count_globals (cenv_in l.tables) (order_in l.tables) (drop l.namespace-index (order_in l.tables))
    ≡ programs.count_globals (cenv_in l.tables) (order_in l.tables) (order_in l.tables)
