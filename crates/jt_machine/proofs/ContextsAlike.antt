-- Contexts that agree on the names of a code start the same run.
use Rattle.std.proofs.Common.{◌≡◌, Option, Some, None, refl, ap, ◌∙◌}
use Rattle.jt_value.specs.Pairs.{Pairs}
use Rattle.jt_image.specs.Code.{Code}
use Rattle.jt_image.specs.Config.{Budget, Limit, Config}
use Rattle.jt_image.specs.Laws.{Agree, CodeLaws}
use Rattle.jt_image.specs.Run.{passed, start}
use Rattle.jt_machine.specs.Session.{RunStage, Session, going, begun, started}

begun_alike : (l : Option Limit) (k : Code) (x y : Pairs) (b : Budget) → start k x b ≡ start k y b
    → begun l k x b ≡ begun l k y b
begun_alike (Some l) k x y b e = refl
begun_alike None k x y b e = ap going e

pub started_alike : CodeLaws → (k : Code) (x y : Pairs) → Agree k x y → (b : Budget) → started k x b ≡ started k y b
started_alike laws k x y agree b =
    let is = laws.alike k x y agree in
    ap (λ (s : RunStage). record { code = k; stage = s })
    (ap (λ (l : Option Limit). begun l k x b) (is.limits b) ∙ begun_alike (passed b y k.names) k x y b (is.starts b))
