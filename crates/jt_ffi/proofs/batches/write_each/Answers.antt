use Rattle.std.proofs.Common.{◌≡◌, ◌<◌, ◌≤◌, Box, Global, arith, get_or, length, min, option_map, sym, take}
use Rattle.std.proofs.lemmas.List.{length-set}
use Rattle.jt_ffi.specs.Batches.{RunsNext}
use Rattle.jt_ffi.specs.declared.shared.Shared.{Shared}
use Rattle.jt_ffi.proofs.EachAddsUp.{all_answers, all_fit, given_answers, length_all, length_at, none_yet, one_fits}
use Rattle.jt_ffi.proofs.EachAddsUp.{one_is_last}
use Rattle.jt_ffi.proofs.batches.write_each.Goals as goal

pub contexts-init : goal.contexts-init
contexts-init c = record {
  so_far = none_yet (RunsNext (option_map (λ (q : Box Shared Global). q.value) c.args.batch.now.image.now)
      c.args.batch.now.budget) (take (length c.args.answers.now) c.args.batch.now.lengths.now)
      c.args.batch.now.contexts.now
      c.args.answers.now c.args.out.now;
  within = omega (arith, c.min-count.ensures);
  empty = c.requires;
}

pub contexts-preserved : goal.contexts-preserved
contexts-preserved c =
    let Is = RunsNext (option_map (λ (q : Box Shared Global). q.value) c.args.batch.now.image.now)
    c.args.batch.now.budget in
    let ns = c.args.batch.now.lengths.now in
    let m = length c.args.answers.now in
    let s = c.contexts.invariant.so_far in
    let lt : c.contexts.at < min (length ns) m = omega (arith, c.min-count.ensures, c.contexts-test.true) in
    let there = length_at Is ns m c.contexts.at lt in
    let few : c.contexts.at < length c.contexts.answers =
    omega (arith, c.contexts.invariant.within, c.contexts-test.true) in
    record {
      so_far = rw c.rest_of-rest.ensures (one_fits Is (take m ns) c.args.batch.now.contexts.now c.args.answers.now
          c.args.out.now c.contexts.at c.contexts.rest.now c.contexts.answers c.contexts.out c.contexts.written
          (get_or ns c.contexts.at 0)
          c.run_next-ended.result c.write_after-answer.result c.write_after-answer.new.out s there.0 few there.1
          c.run_next-ended.ensures c.write_after-answer.ensures.reports c.write_after-answer.ensures.before
          c.write_after-answer.auto.out (omega (arith, c.if-answer-out.false, c.write_after-answer.auto.out)));
      within = omega (
        arith,
        c.contexts.invariant.within,
        length-set c.contexts.answers c.contexts.at c.write_after-answer.result,
      );
      empty = c.contexts.invariant.empty;
    }

pub returns-then-answer-out : goal.returns-then-answer-out
returns-then-answer-out c =
    let Is = RunsNext (option_map (λ (q : Box Shared Global). q.value) c.args.batch.now.image.now)
    c.args.batch.now.budget in
    let ns = c.args.batch.now.lengths.now in
    let m = length c.args.answers.now in
    let s = c.contexts.invariant.so_far in
    let lt : c.contexts.at < min (length ns) m = omega (arith, c.min-count.ensures, c.contexts-test.true) in
    let there = length_at Is ns m c.contexts.at lt in
    let few : c.contexts.at < length c.contexts.answers =
    omega (arith, c.contexts.invariant.within, c.contexts-test.true) in
    given_answers Is ns c.args.batch.now.contexts.now c.args.answers.now c.contexts.answers c.contexts.at
    c.keep_after.result
    c.args.out.now c.keep_after.new.out c.keep_after.new.outcome.held few s.later
    (one_is_last Is (take m ns) c.args.batch.now.contexts.now c.args.answers.now c.args.out.now
    c.contexts.at c.contexts.rest.now c.contexts.answers c.contexts.out c.contexts.written (get_or ns c.contexts.at 0)
    c.run_next-ended.result c.write_after-answer.result c.keep_after.result c.write_after-answer.new.out
    c.keep_after.new.out
    c.keep_after.new.outcome.held s there.0 few there.1 c.run_next-ended.ensures
    c.write_after-answer.ensures.reports c.write_after-answer.ensures.before c.write_after-answer.auto.out
    c.if-answer-out.true c.keep_after.ensures.reports c.keep_after.ensures.before)

pub returns : goal.returns
returns c =
    let Is = RunsNext (option_map (λ (q : Box Shared Global). q.value) c.args.batch.now.image.now)
    c.args.batch.now.budget in
    let ns = c.args.batch.now.lengths.now in
    let m = length c.args.answers.now in
    let s = c.contexts.invariant.so_far in
    let done : c.contexts.at ≡ c.min-count.result = omega (arith, c.contexts.auto.at-end, c.contexts-test.false) in
    let all : length (take m ns) ≤ c.contexts.at = omega (arith, length_all Is ns m, c.min-count.ensures, done) in
    let few : c.contexts.at ≤ length c.contexts.answers = omega (arith, done, c.contexts.invariant.within) in
    rw (c.contexts.invariant.empty, sym done)
    (all_answers Is ns c.args.batch.now.contexts.now c.args.answers.now c.contexts.answers c.contexts.at
    c.args.out.now c.contexts.out few s.later
    (all_fit Is (take m ns) c.args.batch.now.contexts.now c.args.answers.now c.args.out.now c.contexts.at
    c.contexts.rest.now c.contexts.answers c.contexts.out c.contexts.written s all))
