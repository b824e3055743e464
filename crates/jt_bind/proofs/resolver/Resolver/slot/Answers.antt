use Rattle.jt_bind.proofs.{◌-◌, globals_in, sym, ◌∙◌, arith, framed_found}
use Rattle.jt_bind.proofs.resolver.Resolver.slot.Goals as goal

pub returns-in-Some : goal.returns-in-Some
returns-in-Some c =
    let l = c.loop-left in
    let r = c.args.self.now in
    let found = framed_found c.args.name.now r.senv.name_scopes.now (l.left - 1) l.left c.deref.result.now
    c.index-self-left.result (globals_in r.tables.now) (omega (arith, l.invariant.within)) (omega arith)
    c.deref.ensures in
    sym (rw (← c.index_of.ensures, c.in-Some.is) at found) ∙ l.invariant.same

pub loop-left-preserved : goal.loop-left-preserved
loop-left-preserved c =
    let l = c.loop-left in
    let r = c.args.self.now in
    let found = framed_found c.args.name.now r.senv.name_scopes.now (l.left - 1) l.left c.deref.result.now
    c.index-self-left.result (globals_in r.tables.now) (omega (arith, l.invariant.within)) (omega arith)
    c.deref.ensures in
    record {
      within = omega (arith, l.invariant.within);
      same = sym (rw (← c.index_of.ensures, c.in_default.is) at found) ∙ l.invariant.same;
    }
