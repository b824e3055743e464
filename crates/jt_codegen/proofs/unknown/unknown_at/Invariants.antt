use Rattle.std.proofs.Common.{◌≡◌, drop}
use Rattle.jt_uses.specs.UseView.{sites_view}
use Rattle.jt_codegen.specs.internal.UnknownNames.{unknown_at}
use Rattle.jt_codegen.proofs.unknown.unknown_at.Given as goal

abbrev pub invariant-loop-site : goal.invariant-loop-site
invariant-loop-site l =
    unknown_at l.named l.line (sites_view (drop l.site-index l.uses)) ≡ unknown_at l.named l.line (sites_view l.uses)
