use Rattle.std.proofs.Common.{◌≡◌, Bool, List, not, reverse, sym, ap, ◌∙◌, rules, arith}
use Rattle.std.specs.Bool.{Decides}
use Rattle.std.proofs.lemmas.Grind.{common_steps}
use Rattle.std.proofs.lemmas.List.{reverse-reverse}
use Rattle.std.proofs.lemmas.Slice.Eq.{slice_eq-Decides}
use Rattle.jt_image.specs.declared.kind.Kind.{Kind}
use Rattle.jt_verify.proofs.host_shape.join.Goals as goal

reverse_same : (a b : List Kind) → reverse a ≡ reverse b → a ≡ b
reverse_same a b e = sym (reverse-reverse a) ∙ ap (λ (xs : List Kind). reverse xs) e ∙ reverse-reverse b

told : (r b : Bool) (P : Type 0) → r ≡ not b → Decides b P → Decides (not r) P
told a0 a1 a2 e d = search (arith, rules)

pub returns-then-ne : goal.returns-then-ne
returns-then-ne c = search (arith, rules, common_steps, told, slice_eq-Decides, reverse_same)

pub returns : goal.returns
returns c = search (arith, rules, common_steps, told, slice_eq-Decides)
