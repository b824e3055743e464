use Rattle.std.proofs.Common.{List, ℕ, ◌++◌, ap, sym, ◌∙◌, append_assoc, rules}
use Rattle.std.specs.Prelude.{FitsSigned}
use Rattle.std.specs.Int.{w64}
use Rattle.std.proofs.lemmas.Int.{to_z-of_z}
use Rattle.jt_value.specs.ListItems.{numbers_of}
use Rattle.jt_filters.specs.internal.Codes.{number_code, items_code}
use Rattle.jt_filters.proofs.codes.push_numbers.Goals as goal

pub loop-number-preserved : goal.loop-number-preserved
loop-number-preserved c =
    let fits : FitsSigned w64 c.in-Some.number = search rules in
    let behind = items_code (numbers_of c.in-Some.behind) in
    ap (λ (bs : List ℕ). bs ++ behind) c.in_ok-push_number.ensures
    ∙ append_assoc c.loop-number.bytes.items _ behind
    ∙ ap (λ z. c.loop-number.bytes.items ++ (number_code z ++ behind)) (to_z-of_z w64 c.in-Some.number fits)
    ∙ ap (λ ts. c.loop-number.bytes.items ++ items_code ts) (sym c.in-Some.ensures.some)
    ∙ c.loop-number.invariant
