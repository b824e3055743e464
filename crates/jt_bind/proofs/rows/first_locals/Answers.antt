use Rattle.jt_ir.specs.declared.program.Slot.TheVariants as s
use Rattle.jt_bind.proofs
use proofs.{◌<◌, ◌≤◌, length, None, texts, drop_all, sym, append-nil, arith, length-map, locals_next, lead_of}
use proofs.{lead_both, row_entry, view_Variable}
use Rattle.jt_bind.proofs.rows.first_locals.Goals as goal

pub returns : goal.returns
returns c = λ p.
    let xs = texts c.args.names.now in
    let end : length xs ≤ c.loop-local.local = omega (arith, length-map c.args.names.now (λ k. k.now)) in
    rw (drop_all c.loop-local.local xs end) at (c.loop-local.invariant p)

pub loop-local-preserved : goal.loop-local-preserved
loop-local-preserved c = λ p.
    let l = c.loop-local in
    let xs = texts c.args.names.now in
    let lt : l.local < length xs = omega (arith, length-map c.args.names.now (λ k. k.now)) in
    lead_both (l.invariant p) (lead_of (locals_next xs l.local lt) (row_entry None _
    (record { shown = view_Variable (s.Local l.local); pooled = sym (append-nil p) }) c.in_ok-push.ensures.items))
