use Rattle.std.proofs.Common.{map, sym, subst, [], Ok}
use Rattle.jt_scan.specs.View.{token_view, part_view}
use Rattle.jt_parse.specs.Kept.{with_segment}
use Rattle.jt_parse.specs.internal.SideView.{side_view}
use Rattle.jt_parse.specs.internal.Reading.{Steps, Runs, ended}
use Rattle.jt_parse.specs.Kept as kept
use Rattle.jt_parse.specs.internal.Gives.{GivesState, state_view}
use Rattle.jt_parse.proofs.SegmentSteps.{tag_runs}
use Rattle.jt_parse.proofs.parser.Parser.step.Goals as goal

pub returns-in-Tag : goal.returns-in-Tag
returns-in-Tag c =
    let st = state_view c.args.self.now in
    let o = c.args.segment.now.options in
    let t = c.in-Tag.tag in
    subst (λ p. GivesState
    (Runs 100 st (with_segment o (side_view c.args.left) (side_view c.args.right) (part_view p) [])) c.tag.result
    c.tag.new.self)
    (sym c.in-Tag.is)
    (tag_runs 100 st o (side_view c.args.left) (side_view c.args.right) t.kind t.marks t.line
    (map token_view t.tokens.items) c.tag.result c.tag.new.self
    (subst (λ xs. GivesState (Steps 100 st (kept.tag t.kind t.line (map token_view xs))) c.tag.result c.tag.new.self)
    c.deref.ensures.value c.tag.ensures))

pub returns-in-Comment : goal.returns-in-Comment
returns-in-Comment c =
    let st = state_view c.args.self.now in
    subst (λ p. Runs 100 st
    (with_segment c.args.segment.now.options (side_view c.args.left) (side_view c.args.right) (part_view p) []) (Ok st))
    (sym c.in-Comment.is) ended
