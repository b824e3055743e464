use Rattle.jt_inherit.proofs.Vocabulary.{◌≡◌, ℕ, true, false, Option, Some, None, ◌==◌, is_some, MatchOption, refl}
use Rattle.jt_inherit.proofs.Vocabulary.{arith, rules, nat_tests}
use Rattle.std.specs.Option.{option_eq}
use Rattle.jt_inherit.proofs.tags.FoundTag.super_line.Goals as goal

-- A line is found, or there is none.
line_or_none : (o : Option ℕ)
    → MatchOption o (is_some o ≡ false) (λ n. option_eq (λ a b. a == b) o (Some n) ≡ true)
line_or_none None = refl
line_or_none (Some n) = search (arith, rules, nat_tests)

pub returns-in-DeclaresBlock : goal.returns-in-DeclaresBlock
returns-in-DeclaresBlock c = rw c.super_line.ensures (rw c.in-DeclaresBlock.is (line_or_none _))
