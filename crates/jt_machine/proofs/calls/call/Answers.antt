use Rattle.jt_machine.proofs.Vocabulary.{Ends, UnitHeader, values_view, config_view, limit_view, Tree, view, length-map}
use Rattle.std.proofs.Common.{◌≡◌, ◌∙◌, [], List, length, map, sym, ap, arith}
use Rattle.jt_image.specs.Config.{spent}
use Rattle.jt_image.specs.Step.{locals_of}
use Rattle.jt_machine.proofs.AllocationPoints.{lost}
use Rattle.jt_machine.proofs.PoppedValues.{call_is, called, has_entered, not_entered, section_at, taken_count}
use Rattle.jt_machine.proofs.PoppedValues.{values_are}
use Rattle.jt_machine.proofs.calls.call.Goals as goal

pub returns-in-Err : goal.returns-in-Err
returns-in-Err g c =
    let d = config_view c.args.state.now in
    let e = call_is c.args.unit _ c.in-Some.header d c.in-Some.ensures c.requires.ready.not_wrong in
    e.enters ∙ not_entered d (called c.args.unit e.section) c.in-Err.ensures.err.1
    ∙ ap (λ s. Ends (spent (limit_view s))) (sym c.in-Err.ensures.err.0)

pub take_values-requires : goal.take_values-requires
take_values-requires g c =
    let d = config_view c.args.state.now in
    rw c.from.ensures (call_is c.args.unit _ c.in-Some.header d c.in-Some.ensures c.requires.ready.not_wrong).has

pub returns-in_err-arguments : goal.returns-in_err-arguments
returns-in_err-arguments g c =
    let d = config_view c.args.state.now in
    let e = call_is c.args.unit _ c.in-Some.header d c.in-Some.ensures c.requires.ready.not_wrong in
    lost _ _ _ c.from_residual.result c.from_residual.ensures.1
    (rw (e.enters ∙ has_entered d (called c.args.unit e.section) c.in_default-enter.ensures.ok.0) tt)

pub returns-in_err-locals : goal.returns-in_err-locals
returns-in_err-locals g c =
    let d = config_view c.args.state.now in
    let e = call_is c.args.unit _ c.in-Some.header d c.in-Some.ensures c.requires.ready.not_wrong in
    lost _ _ _ c.from_residual-in_err-locals.result c.from_residual-in_err-locals.ensures.1
    (rw (e.enters ∙ has_entered d (called c.args.unit e.section) c.in_default-enter.ensures.ok.0) tt)

pub returns-in_err-enter : goal.returns-in_err-enter
returns-in_err-enter g c =
    let d = config_view c.args.state.now in
    let e = call_is c.args.unit _ c.in-Some.header d c.in-Some.ensures c.requires.ready.not_wrong in
    lost _ _ _ c.from_residual-in_err-enter.result c.from_residual-in_err-enter.ensures.1
    (rw (e.enters ∙ has_entered d (called c.args.unit e.section) c.in_default-enter.ensures.ok.0) tt)

pub locals_with-requires : goal.locals_with-requires
locals_with-requires g c =
    let k = g.C.Code.code c.args.code.now in
    let d = config_view c.args.state.now in
    let e = call_is c.args.unit _ c.in-Some.header d c.in-Some.ensures c.requires.ready.not_wrong in
    let many = taken_count c.in-Some.header.parameters [] d.machine.state.entries e.has.values e.has.rest e.has.is in
    let are = values_are c.in-Some.header.parameters d.machine.state.entries e.has.values e.has.rest e.has.is in
    let same = sym are.0 ∙ (rw c.from.ensures at c.in_ok-arguments.ensures.values) in
    let section = section_at k.units c.args.unit e.section c.requires.whole.units e.there in
    omega (
      arith,
      many,
      ap (λ (ts : List Tree). length ts) same,
      section.within,
      length-map c.in_ok-arguments.arguments.items view,
      ap (λ (h : UnitHeader). h.locals) e.header,
      ap (λ (h : UnitHeader). h.parameters) e.header,
    )

pub returns : goal.returns
returns g c =
    let d = config_view c.args.state.now in
    let e = call_is c.args.unit _ c.in-Some.header d c.in-Some.ensures c.requires.ready.not_wrong in
    let n : c.from.result ≡ e.section.parameters = c.from.ensures ∙ ap (λ (h : UnitHeader). h.parameters) e.header in
    let us = map view c.in_ok-arguments.arguments.items in
    let locals : values_view c.in_ok-locals.locals.items ≡ locals_of e.section.locals us =
    c.in_ok-locals.ensures ∙ ap (λ (h : UnitHeader). locals_of h.locals us) e.header in
    let f = rw (rw n at c.in_ok-arguments.ensures.values) at
    (e.enters ∙ has_entered d (called c.args.unit e.section) c.in_default-enter.ensures.ok.0) in
    rw (
      c.in_ok-enter.ensures,
      c.replace-around.ensures.value,
      c.replace-around.ensures.after,
      locals,
      c.in_default-enter.ensures.ok.1,
      rw n at c.in_ok-arguments.ensures.taken,
    ) f
