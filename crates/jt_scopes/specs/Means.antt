-- The agreement of a program's meaning with the meaning of its chain.
use Rattle.std.specs.Prelude.{◌≡◌, ℕ, List, ◌∷◌}
use Rattle.jt_value.specs.Pairs.{Pairs}
use Rattle.jt_ast.specs.Expressions.{Text}
use Rattle.jt_chains.specs.Chain.{Namespace, a_chain}
use Rattle.jt_chains.specs.Includes.{InOrder}
use Rattle.jt_chains.specs.View.{Seen}
use Rattle.jt_rules.specs.CompileEnv.{cenv_of}
use Rattle.jt_semantics.specs.Meaning.{mean}
use Rattle.jt_ir.specs.Slots.{Program, smean}

-- Let the chains and libraries be in order, the entry's chain first. For every context and depth of
-- calls, the program's meaning over slots is the chain's meaning by names.
abbrev pub Means : Seen → Program → Type 0
Means chain program =
    (entry : Text) (rest : List Namespace) → chain.order ≡ a_chain entry ∷ rest
    → InOrder (cenv_of chain).sources chain.order → (context : Pairs) (depth : ℕ)
    → smean (cenv_of chain).filters program context depth ≡ mean (cenv_of chain) entry context depth
