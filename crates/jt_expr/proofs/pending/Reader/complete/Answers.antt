use Rattle.std.proofs.Common.{◌≡◌, subst, suc, ◌+◌, length, nat_le, true, false, rules, ◌∙◌, ap, arith}
use Rattle.jt_expr.specs.Cursor.{ahead}
use Rattle.jt_expr.specs.Promises.{tree_of}
use Rattle.jt_expr.specs.internal.Reading.{read}
use Rattle.jt_expr.specs.internal.Unwinding.{outcome_at}
use Rattle.jt_expr.specs.internal.Moves as moves
use Rattle.jt_expr.specs.internal.Pending.{Leads, rank, reached, deeper, form_view, forms_of, level_view, move_view}
use Rattle.jt_expr.proofs.Binding.{all_ok}
use Rattle.jt_expr.proofs.MoveBounds.{Bounded, from, resume_bounded}
use Rattle.jt_expr.proofs.StackedForms.{skip_moves, done_moves, pop_moves, moved, refused_move, depth_pushed}
use Rattle.jt_expr.proofs.StackedForms.{length_pushed}
use Rattle.jt_expr.proofs.pending.Reader.complete.Goals as goal

pub returns-then-not-admits-clause-gives : goal.returns-then-not-admits-clause-gives
returns-then-not-admits-clause-gives c =
    let self = c.args.self.now in
    let k = level_view c.args.level in
    let g = level_view c.goal-goal.result in
    let test : nat_le (rank g) (rank k) ≡ false = cc in
    skip_moves (level_view self.entry) self.below self.pending.items k g (tree_of c.args.tree)
    (ahead c.args.cursor.now) c.goal-goal.ensures (level_view c.towards-next.result)
    (subst (λ j. Leads k j g (level_view c.towards-next.result)) c.continued.ensures c.towards-next.ensures) test

pub returns-in_default-clause-gives : goal.returns-in_default-clause-gives
returns-in_default-clause-gives c =
    let self = c.args.self.now in
    let k = level_view c.args.level in
    let g = level_view c.goal-goal.result in
    let test : nat_le (rank g) (rank k) ≡ true = cc in
    let none : length self.pending.items ≡ 0 = omega (arith, c.in_default.ensures.cases) in
    done_moves (level_view self.entry) self.below self.pending.items k g (tree_of c.args.tree) (ahead c.args.cursor.now)
    c.goal-goal.ensures none test

pub invariant_of-self-2 : goal.invariant_of-self-2
invariant_of-self-2 c = search (arith, rules, depth_pushed)

pub returns-in_err-resume-clause-gives : goal.returns-in_err-resume-clause-gives
returns-in_err-resume-clause-gives c =
    let self = c.args.self.now in
    let k = level_view c.args.level in
    let g = level_view c.goal-goal.result in
    let test : nat_le (rank g) (rank k) ≡ true = cc in
    let below : c.rules.result.below ≡ self.below + deeper (form_view c.in-Some.form) =
    omega (arith, c.rules.ensures, c.deeper.ensures) in
    let e = pop_moves (level_view self.entry) self.below self.pending.items k g (tree_of c.args.tree)
    (ahead c.args.cursor.now) c.goal-goal.ensures c.rules.result.below c.pop.new.self.items c.in-Some.form
    c.in-Some.ensures.items below test in
    let q = refused_move (level_view self.entry) c.rules.result.below (forms_of c.pop.new.self.items) _ _ e _
    c.in_err-resume.ensures in
    search rules

pub returns-clause-gives : goal.returns-clause-gives
returns-clause-gives c =
    let self = c.args.self.now in
    let k = level_view c.args.level in
    let g = level_view c.goal-goal.result in
    let s = move_view c.in_ok-resume.field-0 in
    let v = ahead c.resume.new.cursor in
    let test : nat_le (rank g) (rank k) ≡ true = cc in
    let below : c.rules.result.below ≡ self.below + deeper (form_view c.in-Some.form) =
    omega (arith, c.rules.ensures, c.deeper.ensures) in
    let e = pop_moves (level_view self.entry) self.below self.pending.items k g (tree_of c.args.tree)
    (ahead c.args.cursor.now) c.goal-goal.ensures c.rules.result.below c.pop.new.self.items c.in-Some.form
    c.in-Some.ensures.items below test in
    moved (level_view self.entry) c.rules.result.below (forms_of c.pop.new.self.items) _ _ e s v c.in_ok-resume.ensures
    ∙ ap (λ b. outcome_at (level_view self.entry) b (forms_of c.pop.new.self.items) s v) c.rules.ensures

pub returns-clause-falls : goal.returns-clause-falls
returns-clause-falls c = search (arith, rules, from, all_ok, resume_bounded, length_pushed)
