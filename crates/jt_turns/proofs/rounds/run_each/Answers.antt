use Rattle.std.proofs.Common.{◌≡◌, ◌∙◌, ap, arith, length, refl, sym, take, true, rules}
use Rattle.std.proofs.Math.Seq.{take-length}
use Rattle.std.proofs.lemmas.Result.{err_from_is_err_and}
use Rattle.jt_turns.specs.SessionStates.{have_ended}
use Rattle.jt_turns.proofs.SessionsById.{false_true}
use Rattle.jt_turns.proofs.RoundStep.{no_memory, on_done, on_going}
use Rattle.jt_turns.proofs.TurnOutcomes.{moved_length, moved_none}
use Rattle.jt_turns.proofs.rounds.run_each.Goals as goal
use Rattle.jt_turns.proofs.rounds.run_each.Goals.{then-goes_on, else-goes_on}

pub ids-init : goal.ids-init
ids-init c = record { moved = moved_none _; left = omega arith; less = λ e. absurd (false_true e); ended = λ e. refl }

pub returns-clause-ended : goal.returns-clause-ended
returns-clause-ended c none =
    let es = c.ids.host.sessions in
    let len : length es ≡ c.args.count = moved_length _ es c.ids.invariant.moved ∙ c.requires.numbered.0 in
    let most = c.ids-test.false in
    let within = c.ids.auto.before-end in
    let all : c.ids.before ≡ length es = omega (arith, len, most, within) in
    let so : have_ended (take (length es) es) ≡ true =
    ap (λ n. have_ended (take n es)) (sym all) ∙ c.ids.invariant.ended none in
    ap have_ended (sym (take-length es)) ∙ so

pub returns-in_err-goes_on-clause-err : goal.returns-in_err-goes_on-clause-err
returns-in_err-goes_on-clause-err c = search (arith, rules, err_from_is_err_and, no_memory)

pub ids-preserved : goal.ids-preserved
ids-preserved c =
    let laws = c.session_laws.ensures in
    let old = c.args.host.now.sessions in
    let turned = c.in_ok-goes_on.ensures.turned in
    elim c.if-goes_on.branch [
      | then-goes_on w ↦ rw (w.going-is, w.if-goes_on.true)
          (on_going laws old c.ids.host c.turn.new.host c.ids.before c.args.slice c.ids.going c.requires.slice
          c.ids.invariant (rw w.if-goes_on.true at turned))
      | else-goes_on w ↦ rw w.going-is (on_done laws old c.ids.host c.turn.new.host c.ids.before c.args.slice
          c.ids.going c.requires.numbered.1 c.ids.invariant (rw w.if-goes_on.false at turned))
    ]
