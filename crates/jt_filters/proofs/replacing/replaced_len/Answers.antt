use Rattle.std.proofs.Common.{◌≡◌, ◌+◌, ◌++◌, length, ap, arith, length-append}
use Rattle.jt_filter_semantics.specs.Texts.{replaced_behind}
use Rattle.jt_filters.proofs.Replacements.{replaced_step, behind_utf8, replaced_nowhere}
use Rattle.jt_filters.proofs.replacing.replaced_len.Goals as goal

pub split_once-requires-text-self : goal.split_once-requires-text-self
split_once-requires-text-self c κs = c.loop-front.invariant.utf8

pub loop-front-preserved : goal.loop-front-preserved
loop-front-preserved c =
    let found = c.in-Some.ensures.cases in
    let old = c.args.old.now in
    let new = c.args.new.now in
    let s = c.loop-front.rest.now in
    let front = c.in-Some.front.now in
    let behind = c.in-Some.behind.now in
    let e = replaced_step old new s front behind found.0 found.1 c.requires found.2.0 found.2.1 found.3 found.4 in
    let n : length (replaced_behind 0 old new s)
    ≡ length front + (length new + length (replaced_behind 0 old new behind))
    = omega (
      arith,
      ap length e,
      length-append front (new ++ replaced_behind 0 old new behind),
      length-append new (replaced_behind 0 old new behind),
    ) in
    record {
      utf8 = behind_utf8 old s behind found.0 found.1 c.loop-front.invariant.utf8 found.2.1 found.4;
      fits = omega arith;
      same =
          omega (
            arith,
            n,
            c.loop-front.invariant.same,
            c.loop-front.invariant.fits,
            c.saturating_add.ensures,
            c.saturating_add-size.ensures,
          );
    }

pub returns : goal.returns
returns c =
    let e =
    ap length (replaced_nowhere c.args.old.now c.args.new.now c.loop-front.rest.now c.in_default.ensures.cases) in
    omega (arith, e, c.loop-front.invariant.fits, c.loop-front.invariant.same)
