use Rattle.std.proofs.Common.{arith, rules}
use Rattle.jt_codegen.proofs.PassedLimits.{locals_above, name_above, parameters_above, tables_fit}
use Rattle.jt_codegen.proofs.limits.check_tables.Goals as goal

pub returns-then-not-names_fit-clause-refused : goal.returns-then-not-names_fit-clause-refused
returns-then-not-names_fit-clause-refused c = search (arith, rules, name_above)

pub returns-then-not-parameters_fit-clause-refused : goal.returns-then-not-parameters_fit-clause-refused
returns-then-not-parameters_fit-clause-refused c = search (arith, rules, parameters_above)

pub returns-then-not-locals_fit-clause-refused : goal.returns-then-not-locals_fit-clause-refused
returns-then-not-locals_fit-clause-refused c = search (arith, rules, locals_above)

pub returns-clause-kept : goal.returns-clause-kept
returns-clause-kept c =
    let p = c.args.program.now in
    tables_fit p (omega arith) (omega (arith, c.len.ensures, p.routines.ok.0)) c.deref.result.now c.deref.ensures.value
    (c.names_fit.ensures.0 c.if-not-names_fit.false) c.deref-2.result.now c.deref-2.ensures.value
    (c.parameters_fit.ensures.0 c.if-not-parameters_fit.false) c.deref-3.result.now c.deref-3.ensures.value
    (c.locals_fit.ensures.0 c.if-not-locals_fit.false)
