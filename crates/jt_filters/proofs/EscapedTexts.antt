-- Escaping keeps a text without special characters.
use Rattle.std.proofs.Common.{◌≡◌, ℕ, false, ◌||◌, List, [], ◌∷◌, ◌++◌, Option, Some, None, refl}
use Rattle.std.proofs.Common.{ap, ◌∙◌}
use Rattle.std.specs.List.{list_any}
use Rattle.std.specs.Option.{is_some}
use Rattle.std.specs.Prelude.{unwrap_or}
use Rattle.jt_escape.specs.Escaping.{escaped, entity}
use Rattle.std.proofs.lemmas.Bool.{or_parts}

own_byte : (o : Option (List ℕ)) (b : ℕ) → is_some o ≡ false → unwrap_or o (b ∷ []) ≡ b ∷ []
own_byte None b e = refl
own_byte (Some s) b e = cc

pub unescaped : (s : List ℕ) → list_any (λ b. is_some (entity b)) s ≡ false → escaped s ≡ s
unescaped [] e = refl
unescaped (b ∷ bs) e =
    ap (λ (head : List ℕ). head ++ escaped bs)
    (own_byte (entity b) b (or_parts (is_some (entity b)) (list_any (λ b. is_some (entity b)) bs) e).0)
    ∙ ap (λ (rest : List ℕ). b ∷ rest)
    (unescaped bs (or_parts (is_some (entity b)) (list_any (λ b. is_some (entity b)) bs) e).1)
