use Rattle.std.proofs.Common.{◌≡◌, ◌+◌, ◌<◌, length, subst, rules, arith}
use Rattle.std.proofs.lemmas.Bool.Decides.{nat_tests}
use Rattle.std.specs.Str.{chars}
use Rattle.jt_scan.specs.internal.Scanning.{cut, IsGiven}
use Rattle.jt_scan.specs.SourceView.{max_source_len}
use Rattle.jt_scan.specs.View.{part_view, cut_of}
use Rattle.jt_scan.proofs.TokenLoop.{IsCutOff, cut_ends, segments_refused, segments_go_on, ends_with, leaves_less}
use Rattle.jt_scan.proofs.TokenLoop.{line_is, lines_fit, line_goes_on, not_empty, no_chars, few_chars}
use Rattle.jt_scan.proofs.scanner.read_segments.Goals as goal

pub returns-in_err-found-clause-cut : goal.returns-in_err-found-clause-cut
returns-in_err-found-clause-cut c =
    let t = chars c.args.text.now in
    let le : 0 < length c.segments.rest.now = grind (arith, nat_tests) in
    let g : IsGiven c.in_err-found.field-0.0 (cut t (length t + 1) t) =
    segments_refused t _ (chars c.segments.rest.now) c.segments.line c.in_err-found.field-0.0 c.segments.invariant.2
    (not_empty c.segments.rest.now c.segments.invariant.0 le)
    (line_is c.segments.line t (chars c.segments.rest.now) c.segments.invariant.1) c.in_err-found.ensures in
    search rules

pub before-requires : goal.before-requires
before-requires c = search (arith, rules, nat_tests, ends_with, not_empty)

pub overflow_cast-line : goal.overflow_cast-line
overflow_cast-line c =
    let f = lines_fit c.segments.line (chars c.args.text.now) (chars c.segments.rest.now)
    (chars c.before-in-segments.result.now) (chars c.in_ok-found.behind.now) max_source_len c.segments.invariant.1
    c.before-in-segments.ensures (omega (arith, few_chars c.args.text.now c.utf8.text, c.requires)) in
    omega (arith, f, c.lines.ensures)

pub overflow_add-line : goal.overflow_add-line
overflow_add-line c =
    let f = lines_fit c.segments.line (chars c.args.text.now) (chars c.segments.rest.now)
    (chars c.before-in-segments.result.now) (chars c.in_ok-found.behind.now) max_source_len c.segments.invariant.1
    c.before-in-segments.ensures (omega (arith, few_chars c.args.text.now c.utf8.text, c.requires)) in
    omega (arith, f, c.lines.ensures)

pub segments-smaller : goal.segments-smaller
segments-smaller c = search (arith, rules, nat_tests, leaves_less, not_empty)

pub segments-preserved : goal.segments-preserved
segments-preserved c =
    let t = chars c.args.text.now in
    let le : 0 < length c.segments.rest.now = grind (arith, nat_tests) in (
      search rules,
      rw c.lines.ensures (line_goes_on c.segments.line t (chars c.segments.rest.now)
          (chars c.before-in-segments.result.now) (chars c.in_ok-found.behind.now) c.segments.invariant.1
          c.before-in-segments.ensures),
      segments_go_on t _ _ (part_view c.in_ok-found.found) (chars c.segments.rest.now) (chars c.in_ok-found.behind.now)
          c.segments.line c.segments.invariant.2 (not_empty c.segments.rest.now c.segments.invariant.0 le)
          (line_is c.segments.line t (chars c.segments.rest.now) c.segments.invariant.1) c.in_ok-found.ensures
          c.in_ok-push_segment.ensures.cut,
      c.in_ok-push_segment.ensures.options,
    )

pub returns-clause-cut : goal.returns-clause-cut
returns-clause-cut c =
    let t = chars c.args.text.now in
    let le : length c.segments.rest.now ≡ 0 = grind (arith, nat_tests) in
    cut_ends t (cut_of c.segments.segments.items)
    (subst (IsCutOff t (cut_of c.segments.segments.items)) (no_chars c.segments.rest.now le) c.segments.invariant.2)
