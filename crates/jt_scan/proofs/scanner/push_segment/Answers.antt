use Rattle.std.proofs.Common.{refl, sym, ap, subst, ◌∙◌}
use Rattle.std.proofs.lemmas.List.{map-append}
use Rattle.jt_scan.specs.View.{segment_view, cut_of, HaveOptions}
use Rattle.jt_scan.proofs.RawText.{options_more}
use Rattle.jt_scan.proofs.scanner.push_segment.Goals as goal

pub returns-clause-cut : goal.returns-clause-cut
returns-clause-cut c = ap cut_of c.in_ok-push.ensures.items ∙ map-append segment_view c.args.segments.now.items _

pub returns-clause-options : goal.returns-clause-options
returns-clause-options c =
    subst (HaveOptions c.args.options) (sym c.in_ok-push.ensures.items)
    (options_more c.args.options c.args.segments.now.items _ c.requires refl)
