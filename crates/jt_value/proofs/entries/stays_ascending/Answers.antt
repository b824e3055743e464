use Rattle.std.proofs.Common.{◌-◌, length, sym, ap, ◌∙◌, arith}
use Rattle.std.specs.Ordering.{nat_cmp, is_lt}
use Rattle.std.specs.Cmp.Lexicographic.{slice_cmp}
use Rattle.jt_value.proofs.MoreKeys.{ascends-more}
use Rattle.jt_value.proofs.entries.stays_ascending.Goals as goal

pub returns-in-Some : goal.returns-in-Some
returns-in-Some c = λ less up value.
    let there = c.in-Some.ensures.item in
    ascends-more c.args.entries.now (length c.args.entries.now - 1) c.in-Some.last.now c.args.key.now value
    (omega (arith, there.3.0)) there.1
    (ap (λ k. is_lt (slice_cmp nat_cmp k c.args.key.now)) (sym c.as_str.ensures) ∙ sym c.is_before.ensures ∙ less)
    up
