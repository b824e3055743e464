use Rattle.std.proofs.Common.{◌∙◌, IsUtf8, rules}
use Rattle.std.specs.Str.{chars}
use Rattle.jt_parse.specs.internal.SideView.{side_view}
use Rattle.jt_parse.proofs.TrimmedEnds.{chars_cut, kept_between, nothing_left, kept_of}
use Rattle.jt_parse.proofs.kept.kept.Goals as goal

pub returns-in-Some : goal.returns-in-Some
returns-in-Some c =
    let front = c.after_left-front.result.now in
    let end = c.removed_right-end.result.now in
    let cut = c.in-Some.ensures.cases in
    let whole : IsUtf8 c.in-Some.rest.now = search rules in
    kept_between (chars front) (chars end) (chars c.in-Some.rest.now)
    (chars_cut front end c.in-Some.rest.now cut.0 whole cut.1.1 cut.2)
    ∙ kept_of c.args.options (side_view c.args.left) (side_view c.args.right) (chars c.args.text.now) _ _ _
    c.is_start.ensures c.after_left-front.ensures.value c.removed_right-end.ensures.value

pub returns-in-None : goal.returns-in-None
returns-in-None c =
    let front = c.after_left-front.result.now in
    let end = c.removed_right-end.result.now in
    c.no_end.ensures ∙ nothing_left c.args.text.now front end c.after_left-front.utf8 c.removed_right-end.utf8
    c.after_left-front.ensures.end c.removed_right-end.ensures.end c.in-None.ensures.cases
    ∙ kept_of c.args.options (side_view c.args.left) (side_view c.args.right) (chars c.args.text.now) _ _ _
    c.is_start.ensures c.after_left-front.ensures.value c.removed_right-end.ensures.value
