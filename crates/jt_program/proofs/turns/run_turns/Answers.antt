use Rattle.std.proofs.Common.{◌≡◌, ◌∙◌, ◌++◌, ◌∷◌, [], List, ap, append-nil, append_assoc, refl, rules, subst, sym}
use Rattle.std.proofs.lemmas.Result.{err_from_is_err_and}
use Rattle.jt_args.specs.declared.Pair.{Pair}
use Rattle.jt_turns.specs.Worlds.{world_of}
use Rattle.jt_program.specs.Commands.{AreOpen}
use Rattle.jt_program.proofs.PairStarts.{all_lines, nil_of, stops}
use Rattle.jt_program.proofs.turns.run_turns.Goals as goal

pub loop-pair-init : goal.loop-pair-init
loop-pair-init g c = (refl, ([], tt, c.new-sessions.ensures), refl)

pub loop-pair-preserved : goal.loop-pair-preserved
loop-pair-preserved g c =
    let left = c.next.new.self.rest.items in
    let all : c.into_iter-pair-iterator.result.rest.items ≡ c.loop-pair.yielded ++ c.in-Some.pair ∷ left =
    c.loop-pair.invariant.0 ∙ ap (λ ps. c.loop-pair.yielded ++ ps) c.in-Some.ensures.steps.0 in (
      all ∙ sym (append_assoc c.loop-pair.yielded (c.in-Some.pair ∷ []) left),
      (rw c.loop-pair.invariant.2 at c.in_ok-open_pair.ensures.opened) c.loop-pair.yielded c.loop-pair.invariant.1,
      c.in_ok-open_pair.ensures.kept ∙ c.loop-pair.invariant.2,
    )

pub returns-in_err-open_pair-clause-ends : goal.returns-in_err-open_pair-clause-ends
returns-in_err-open_pair-clause-ends g c =
    let p = err_from_is_err_and c.from_residual.result c.from_residual.ensures.1 in
    let left = c.next.new.self.rest.items in
    let all : c.into_iter-pair-iterator.result.rest.items ≡ c.loop-pair.yielded ++ c.in-Some.pair ∷ left =
    c.loop-pair.invariant.0 ∙ ap (λ ps. c.loop-pair.yielded ++ ps) c.in-Some.ensures.steps.0 in
    let given : c.into_iter-pair-iterator.result.rest.items ≡ c.args.pairs.items = search rules in
    let files = g.F.Files.known (g.F.Files.contents c.args.files.now) in
    rw (p.1, p.2) (stops files c.args.budget c.args.pairs.items c.loop-pair.yielded
    c.in-Some.pair left (world_of c.loop-pair.sessions) c.in_err-open_pair.field-0.0
    (sym given ∙ all) c.loop-pair.invariant.1
    ((rw c.loop-pair.invariant.2 at c.in_err-open_pair.ensures.refused) c.loop-pair.yielded c.loop-pair.invariant.1))

pub returns-in-Ok-clause-ends : goal.returns-in-Ok-clause-ends
returns-in-Ok-clause-ends g c =
    let files = g.F.Files.known (g.F.Files.contents c.args.files.now) in
    let none : c.loop-pair.pair-iterator.rest.items ≡ [] = nil_of c.loop-pair.pair-iterator.rest.items
    c.loop-pair.pair-iterator.rest.len (sym c.loop-pair.pair-iterator.rest.ok.0) c.in-None.ensures.steps.0 in
    let all : c.into_iter-pair-iterator.result.rest.items ≡ c.loop-pair.yielded =
    c.loop-pair.invariant.0 ∙ (ap (λ ps. c.loop-pair.yielded ++ ps) none ∙ append-nil c.loop-pair.yielded) in
    let given : c.into_iter-pair-iterator.result.rest.items ≡ c.args.pairs.items = search rules in
    let whole : c.loop-pair.yielded ≡ c.args.pairs.items = sym all ∙ given in
    let opened = subst (λ (ps : List Pair). AreOpen files c.args.budget ps (world_of c.loop-pair.sessions)) whole
    c.loop-pair.invariant.1 in
    all_lines files c.args.budget c.args.pairs.items (world_of c.loop-pair.sessions) c.in-Ok.lines opened
    c.in-Ok.ensures
