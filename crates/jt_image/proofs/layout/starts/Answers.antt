use Rattle.std.proofs.Common.{◌≡◌, ◌+◌, length, arith}
use Rattle.jt_image.proofs.LayoutCorrect.{starts_next, end_next}
use Rattle.jt_image.proofs.ReadPrefix.{all_more}
use Rattle.jt_image.proofs.layout.starts.Goals as goal

pub returns-then-at-gt-MAX_BYTES-clause-refused : goal.returns-then-at-gt-MAX_BYTES-clause-refused
returns-then-at-gt-MAX_BYTES-clause-refused g c =
    omega (
      arith,
      end_next g.T.Spell.spell g.T.Spell.view c.args.entries.now c.entries.entry-index c.entry-item.result
          c.entries-test.true c.entry-item.is,
    )

pub entries-preserved : goal.entries-preserved
entries-preserved g c =
    let view = g.T.Spell.view in
    let x = c.entry-item.result in
    let end = end_next g.T.Spell.spell view c.args.entries.now c.entries.entry-index x c.entries-test.true
    c.entry-item.is in
    let at : c.saturating_add-at.result ≡ c.entries.at + length (g.T.Spell.spell (view x)) = omega arith in
    record {
      starts =
          rw (c.in_ok-push.ensures.items, at)
          (starts_next g.T.Spell.spell view c.args.entries.now c.entries.entry-index x c.entries-test.true
          c.entry-item.is c.entries.offsets.items _ c.entries.at c.entries.invariant.starts);
      end = omega (arith, end);
      within = omega arith;
      held = all_more view c.args.entries.now c.entries.entry-index x c.entries-test.true c.entry-item.is
          g.T.Spell.IsHeld c.entries.invariant.held c.len.ensures.held;
    }
