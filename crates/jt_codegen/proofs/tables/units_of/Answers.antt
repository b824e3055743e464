use Rattle.std.proofs.Common.{◌≡◌, ℕ, List, [], ◌∷◌, ◌++◌, ◌+◌, ◌-◌, Option, drop, length, sym, subst, arith}
use Rattle.std.proofs.Common.{rules}
use Rattle.std.proofs.lemmas.Result.{err_from_is_err_and}
use Rattle.jt_image.specs.declared.parts.Unit as given
use Rattle.jt_ir.specs.declared.program.Place.{Place}
use Rattle.jt_codegen.proofs.ProgramTables.{Made, tags, all_places, made_more, made_all, made_short, unit_refused}
use Rattle.jt_codegen.proofs.ProgramTables.{item_holds}
use Rattle.jt_codegen.proofs.ProgramTables.{places_more, places_all}
use Rattle.jt_codegen.proofs.tables.units_of.Goals as goal

pub returns-in_err-emitted-clause-refused : goal.returns-in_err-emitted-clause-refused
returns-in_err-emitted-clause-refused c =
    let l = c.loop-routine in
    let p = err_from_is_err_and c.from_residual-in_err-emitted.result c.from_residual-in_err-emitted.ensures.1 in
    rw (p.1, p.2) (λ templates. unit_refused templates c.in_err-emitted.field-0.0 l.units.items l.left
    c.args.routines.now l.routine-index c.routine-item.result c.loop-routine-test.true c.routine-item.is
    (c.in_err-emitted.ensures.refused templates) (l.invariant templates).0)

pub emit_unit-requires-clause-parameters : goal.emit_unit-requires-clause-parameters
emit_unit-requires-clause-parameters c = search (arith, rules, item_holds)

pub emit_unit-requires-clause-locals : goal.emit_unit-requires-clause-locals
emit_unit-requires-clause-locals c = search (arith, rules, item_holds)

pub loop-routine-preserved : goal.loop-routine-preserved
loop-routine-preserved c = λ templates.
    let l = c.loop-routine in
    let rs = c.args.routines.now in
    let e = c.in_ok-emitted.emitted in
    let u = e.unit in
    let made : c.len-made.result ≡ length u.code.items = omega (arith, c.len-made.ensures, u.code.ok.0) in (
      subst
          (λ (us : List given.Unit). Made templates us (l.left - c.len-made.result) rs (drop (l.routine-index + 1) rs))
          (sym c.in_ok-push.ensures.items)
          (subst (λ (n : ℕ). Made templates (l.units.items ++ u ∷ []) (l.left - n) rs (drop (l.routine-index + 1) rs))
          (sym made)
          (made_more templates l.units.items u l.left rs l.routine-index c.routine-item.result c.loop-routine-test.true
          c.routine-item.is (c.in_ok-emitted.ensures.emitted templates) c.in_ok-emitted.ensures.within
          (l.invariant templates).0)),
      subst (λ (ps : List (Option Place)).
          tags templates ps ++ all_places templates (drop (l.routine-index + 1) rs) ≡ all_places templates rs)
          (sym c.in_ok-append.ensures.items)
          (places_more templates l.places.items e.places.items rs l.routine-index c.routine-item.result
          c.loop-routine-test.true c.routine-item.is (c.in_ok-emitted.ensures.placed templates)
          (l.invariant templates).1),
    )

pub overflow_sub-left : goal.overflow_sub-left
overflow_sub-left c =
    omega (arith, c.in_ok-emitted.ensures.within, c.len-made.ensures, c.in_ok-emitted.emitted.unit.code.ok.0)

pub returns-clause-emitted : goal.returns-clause-emitted
returns-clause-emitted c = search (arith, rules, made_all)

pub returns-clause-placed : goal.returns-clause-placed
returns-clause-placed c = search (arith, rules, places_all)

pub returns-clause-short : goal.returns-clause-short
returns-clause-short c = search (arith, rules, made_short)
