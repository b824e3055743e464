use Rattle.std.proofs.Common.{◌≡◌, map, suc, ◌≤◌, length, Some, None, take, subst, sym, ap, ◌∙◌, arith, add-one}
use Rattle.std.proofs.lemmas.List.{length-map, take_all}
use Rattle.jt_scan.specs.View.{token_view}
use Rattle.jt_syntax.specs.Prefixes.{Wants}
use Rattle.jt_syntax.specs.internal.States as spec
use Rattle.jt_syntax.proofs.Allowed.{wants}
use Rattle.jt_syntax.proofs.Positions.{more, begins_part}
use Rattle.jt_syntax.proofs.Reaching.{rejected}
use Rattle.jt_syntax.proofs.wanted.wanted_behind.Goals as goal

-- A token that may not stand.
pub returns-in-Stuck : goal.returns-in-Stuck
returns-in-Stuck c =
    let ts = c.args.tokens.now in
    let i = c.loop-token.token-index in
    let y = spec.view c.loop-token.prefix in
    let none : spec.step y c.kind_of.result ≡ None =
    subst (λ z. spec.Makes (spec.step y c.kind_of.result) (spec.view c.take.new.self) z) c.in-Stuck.is
    c.in_ok-take.ensures in
    let walked : spec.walk (take (suc i) (map token_view ts)) (Some spec.start) ≡ None =
    more ts i _ (Some spec.start) y c.loop-token-test.true c.loop-token.invariant
    ∙ ap (λ z. spec.step y z) (sym c.kind_of.ensures) ∙ none in
    λ v. rejected (take (suc i) (map token_view ts)) walked (begins_part (map token_view ts) (suc i) v)

pub loop-token-preserved : goal.loop-token-preserved
loop-token-preserved c =
    let ts = c.args.tokens.now in
    let i = c.loop-token.token-index in
    let y = spec.view c.loop-token.prefix in
    let some : spec.step y c.kind_of.result ≡ Some (spec.view c.take.new.self) =
    subst (λ z. spec.Makes (spec.step y c.kind_of.result) (spec.view c.take.new.self) z) c.in-Fits.is
    c.in_ok-take.ensures in
    rw add-one
    (more ts i _ (Some spec.start) y c.loop-token-test.true c.loop-token.invariant
    ∙ ap (λ z. spec.step y z) (sym c.kind_of.ensures) ∙ some)

pub returns : goal.returns
returns c =
    let ts = c.args.tokens.now in
    let i = c.loop-token.token-index in
    let y = spec.view c.loop-token.prefix in
    let all : length (map token_view ts) ≤ i = omega (arith, length-map ts token_view) in
    let walked : spec.walk (map token_view ts) (Some spec.start) ≡ Some y =
    subst (λ z. spec.walk z (Some spec.start) ≡ Some y) (take_all i (map token_view ts) all) c.loop-token.invariant in
    subst (λ z. Wants (map token_view ts) z) (sym c.wanted.ensures) (wants (map token_view ts) y walked)
