use Rattle.std.proofs.Common.{◌≡◌, ℕ, ℤ, ◌+◌, ◌<◌, length, get_or, refl, subst, to_z, of_z, rules}
use Rattle.std.proofs.lemmas.Int.{to_z-of_z}
use Rattle.std.specs.Int.{w64}
use Rattle.std.specs.Int.Signed.{◌<ℤ◌}
use Rattle.std.specs.Prelude.{FitsSigned}
use Rattle.jt_filters.proofs.NumberAnswers.{between}
use Rattle.jt_filters.proofs.answers.is_between.Goals as goal

pub returns-then-follows : goal.returns-then-follows
returns-then-follows c = λ e.
    let zs = c.args.numbers.now in
    let n = c.args.number in
    let fits : FitsSigned w64 n = search rules in
    let same : to_z w64 (of_z w64 n) ≡ n = to_z-of_z w64 n fits in
    between zs n c.args.place c.requires
    (λ k d next.
    let above = c.if-follows.ensures refl k d next in
    (above.0, subst (λ (z : ℤ). get_or zs k d <ℤ z) same above.1))
    (λ d inside. subst (λ (z : ℤ). z <ℤ get_or zs c.args.place d) same (c.precedes.ensures e d inside))
