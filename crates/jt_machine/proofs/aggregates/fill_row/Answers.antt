use Rattle.jt_machine.proofs.Vocabulary.{value, Activations, values_on, view, Value, slice_set}
use Rattle.std.proofs.Common.{◌≡◌, ◌∙◌, ◌-◌, ◌+◌, ◌∷◌, ℕ, suc, List, length, map, take, drop, refl, sym, ap, arith}
use Rattle.std.proofs.Math.ListN.{length-set}
use Rattle.jt_machine.proofs.TopValues.{row_set, row_none}
use Rattle.jt_machine.proofs.PoppedValues.{found, more_is, one_taken, values_are}
use Rattle.jt_machine.proofs.aggregates.fill_row.Goals as goal

pub pop-requires : goal.pop-requires
pop-requires c = grind (arith, more_is)

pub values-init : goal.values-init
values-init c = grind (arith, found, row_none)

pub values-preserved : goal.values-preserved
values-preserved c =
    let n = c.args.count in
    let p = n - (c.values.taken + 1) in
    let row = c.values.row in
    let v = c.pop.result in
    let left : n - c.values.taken ≡ suc p = omega (arith, c.values-test.true) in
    let place : (n - 1) - c.values.taken ≡ p = omega arith in
    let len : length row ≡ length c.args.row.now = c.values.invariant.len in
    let top : c.values.stack.running ≡ value (view v) ∷ c.pop.new.self.running =
    ap (λ (a : Activations). a.running) c.pop.ensures in
    let same : c.values.stack.callers ≡ c.pop.new.self.callers = ap (λ (a : Activations). a.callers) c.pop.ensures in
    let written : drop p (take n (slice_set row p v)) ≡ v ∷ drop (suc p) (take n row) =
    row_set n p row v (omega (arith, c.values-test.true)) (omega (arith, len, c.requires.room)) in
    let before : found (suc p) (map view (drop (suc p) (take n row))) c.values.stack.running
    ≡ values_on n c.args.stack.now.running = rw left at c.values.invariant.left in
    record {
      left =
          ap (λ (q : ℕ). found p (map view (drop p (take n (slice_set row q v)))) c.pop.new.self.running) place
          ∙ ap (λ (vs : List Value). found p (map view vs) c.pop.new.self.running) written
          ∙ sym (one_taken (suc p) p (map view (drop (suc p) (take n row))) c.values.stack.running
          c.pop.new.self.running (view v) refl top)
          ∙ before;
      callers = sym same ∙ c.values.invariant.callers;
      len = simp length-set len;
    }

pub returns-clause-values : goal.returns-clause-values
returns-clause-values c = grind (arith, values_are)

pub returns-clause-taken : goal.returns-clause-taken
returns-clause-taken c = grind (arith, values_are)
