use Rattle.std.proofs.Common.{◌≡◌, ℤ, sym, subst, to_z, of_z, rules}
use Rattle.std.proofs.lemmas.Int.{to_z-of_z}
use Rattle.std.specs.Int.{w64}
use Rattle.std.specs.Int.Signed.{◌<ℤ◌}
use Rattle.std.specs.Prelude.{FitsSigned}
use Rattle.jt_filters.specs.internal.NumberEntries.{AreRising}
use Rattle.jt_filters.proofs.SeenEntries.{rising_pushed}
use Rattle.jt_filters.proofs.seen_numbers.push_rising.Goals as goal

pub returns-then-last-number : goal.returns-then-last-number
returns-then-last-number c =
    let n = c.args.number in
    let fits : FitsSigned w64 n = search rules in
    let is : to_z w64 (of_z w64 n) ≡ n = to_z-of_z w64 n fits in
    let number = c.unseen.ensures.number in
    let number_is : c.unseen.result.number ≡ n = cc in
    let less : c.args.last <ℤ n = search rules in
    subst (λ (z : ℤ). AreRising c.push.new.self.items z) (sym is)
    (rising_pushed c.args.entries.now.items c.push.new.self.items c.args.last n c.unseen.result c.requires less
    number_is c.unseen.ensures.unseen c.in_ok-push.ensures.items)
