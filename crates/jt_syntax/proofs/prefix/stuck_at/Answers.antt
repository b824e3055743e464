use Rattle.std.proofs.Common.{◌≡◌, map, suc, ◌<◌, ◌≤◌, length, Some, None, take, subst, sym, ap}
use Rattle.std.proofs.Common.{◌∙◌, arith, add-one}
use Rattle.std.proofs.lemmas.List.{length-map, take_all}
use Rattle.jt_scan.specs.View.{token_view}
use Rattle.jt_syntax.specs.Prefixes.{Reports, Stuck}
use Rattle.jt_syntax.specs.internal.States as spec
use Rattle.jt_syntax.proofs.Positions.{more, stuck_inside, stuck_behind}
use Rattle.jt_syntax.proofs.Reaching.{complete}
use Rattle.jt_syntax.proofs.prefix.stuck_at.Goals as goal
use Rattle.jt_syntax.proofs.prefix.stuck_at.Goals.{then-is_complete, else-is_complete}

-- src/prefix.rt:104:32
pub returns-in-Stuck : goal.returns-in-Stuck
returns-in-Stuck c =
    let ts = c.args.tokens.now in
    let i = c.loop-token.token-index in
    let y = spec.view c.loop-token.prefix in
    let less : i < length (map token_view ts) = omega (arith, length-map ts token_view) in
    let none : spec.step y c.kind_of.result ≡ None =
    subst (λ z. spec.Makes (spec.step y c.kind_of.result) (spec.view c.take.new.self) z) c.in-Stuck.is
    c.in_ok-take.ensures in
    let walked : spec.walk (take (suc i) (map token_view ts)) (Some spec.start) ≡ None =
    more ts i _ (Some spec.start) y c.loop-token-test.true c.loop-token.invariant.walked
    ∙ ap (λ z. spec.step y z) (sym c.kind_of.ensures) ∙ none in
    subst (λ z. Stuck (map token_view ts) z) (sym c.loop-token.invariant.counted)
    (stuck_inside (map token_view ts) i y less c.loop-token.invariant.walked walked)

-- src/prefix.rt:101:5
pub loop-token-preserved : goal.loop-token-preserved
loop-token-preserved c =
    let ts = c.args.tokens.now in
    let i = c.loop-token.token-index in
    let y = spec.view c.loop-token.prefix in
    let some : spec.step y c.kind_of.result ≡ Some (spec.view c.take.new.self) =
    subst (λ z. spec.Makes (spec.step y c.kind_of.result) (spec.view c.take.new.self) z) c.in-Fits.is
    c.in_ok-take.ensures in
    record {
      counted = omega arith;
      walked = rw add-one
          (more ts i _ (Some spec.start) y c.loop-token-test.true c.loop-token.invariant.walked
          ∙ ap (λ z. spec.step y z) (sym c.kind_of.ensures) ∙ some);
    }

-- src/prefix.rt:96:1
pub returns : goal.returns
returns c =
    let ts = c.args.tokens.now in
    let i = c.loop-token.token-index in
    let y = spec.view c.loop-token.prefix in
    let all : length (map token_view ts) ≤ i = omega (arith, length-map ts token_view) in
    let end : i ≡ length (map token_view ts) = omega (arith, length-map ts token_view) in
    let walked : spec.walk (map token_view ts) (Some spec.start) ≡ Some y =
    subst (λ z. spec.walk z (Some spec.start) ≡ Some y) (take_all i (map token_view ts) all)
    c.loop-token.invariant.walked in
    elim c.if-is_complete.branch as (λ _. Reports (map token_view ts) c.if-is_complete.result) [
      | then-is_complete w ↦
          subst (λ z. Reports (map token_view ts) z) (sym w.result-is)
          (complete (map token_view ts) y walked (sym c.is_complete.ensures ∙ w.if-is_complete.true))
      | else-is_complete w ↦
          subst (λ z. Reports (map token_view ts) z) (sym w.result-is)
          (subst (λ z. Stuck (map token_view ts) z) (sym c.loop-token.invariant.counted)
          (stuck_behind (map token_view ts) i y end c.loop-token.invariant.walked
          (sym c.is_complete.ensures ∙ w.if-is_complete.false)))
    ]
