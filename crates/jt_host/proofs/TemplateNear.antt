-- A template whose name is near to another one.
use Rattle.std.proofs.Common.{◌≡◌, List, Some, subst, sym}
use Rattle.jt_ast.specs.Expressions.{Text}
use Rattle.jt_hints.specs.Edits.{nearest}
use Rattle.jt_inherit.specs.Chains.{SourceTexts}
use Rattle.jt_host.specs.Meant.{IsTemplateNear}

-- The nearest one of some names has a source, and a copy of it is meant.
pub copy_is_near : (sources : SourceTexts) (x y copy : Text) (names : List Text) (source : Text)
    → nearest x names ≡ Some y → sources y ≡ Some source → copy ≡ y → IsTemplateNear sources x copy
copy_is_near sources x y copy names source near found same =
    subst (IsTemplateNear sources x) (sym same)
    (record { names = names; near = near; source = source; found = found })
