-- The program of a chain means what the chain means.
use Rattle.std.proofs.Common.{◌≡◌, ◌∙◌, ap, subst}
use Rattle.jt_chains.specs.Includes.{InOrder}
use Rattle.jt_chains.specs.Indices.{namespace_at}
use Rattle.jt_chains.specs.View.{Seen}
use Rattle.jt_rules.specs.CompileEnv.{cenv_of}
use Rattle.jt_ir.specs.Slots.{Program, smean}
use Rattle.jt_semantics.specs.Laws.{ProgramLaws}
use Rattle.jt_semantics.specs.Programs.{program}
use Rattle.jt_scopes.specs.Means.{Means}

pub meant : (laws : ProgramLaws) (c : Seen) (p : Program) → p ≡ program (cenv_of c) c.order (namespace_at c.order 0)
    → Means c p
meant laws c p is entry rest ordered in_order context n =
    ap (λ (q : Program). smean (cenv_of c).filters q context n)
    (is ∙ ap (λ hs. program (cenv_of c) hs (namespace_at hs 0)) ordered)
    ∙ laws.means (cenv_of c) entry rest (subst (InOrder (cenv_of c).sources) ordered in_order) context n
