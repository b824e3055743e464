use Rattle.std.proofs.Common.{◌≡◌, map, take, Some}
use Rattle.jt_scan.specs.View.{token_view}
use Rattle.jt_syntax.specs.internal.States as spec
use Rattle.jt_syntax.proofs.prefix.stuck_at.Given as goal

abbrev pub invariant-loop-token : goal.invariant-loop-token
invariant-loop-token l = record {
  counted : l.position ≡ l.token-index;
  walked : spec.walk (take l.token-index (map token_view l.tokens)) (Some spec.start) ≡ Some (spec.view l.prefix);
}
