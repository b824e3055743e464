use Rattle.jt_inherit.proofs.Vocabulary.{◌-◌, ◌∙◌, ℕ, List, length, ap, Option, slice_get, unwrap_or}
use Rattle.jt_inherit.proofs.rings.last_of.Goals as goal

pub returns-in-Some : goal.returns-in-Some
returns-in-Some c =
    ap (λ (o : Option ℕ). unwrap_or o c.args.ring.now.first)
    (c.in-Some.ensures.value ∙ ap (λ (l : List ℕ). slice_get l (length l - 1)) c.deref.ensures.value)

pub returns-in-None : goal.returns-in-None
returns-in-None c =
    ap (λ (o : Option ℕ). unwrap_or o c.args.ring.now.first)
    (c.in-None.ensures.value ∙ ap (λ (l : List ℕ). slice_get l (length l - 1)) c.deref.ensures.value)
