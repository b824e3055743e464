use Rattle.jt_notes.proofs.names.add_blocks.Given as goal
use Rattle.std.proofs.Common.{◌≡◌, ◌++◌, drop, map}
use Rattle.jt_ast.specs.Texts.{texts}
use Rattle.jt_chains.specs.Along.{body_at}
use Rattle.jt_chains.specs.Chain.{blocks_in}
use Rattle.jt_chains.specs.Parts.{blocks_view, name_at}
use Rattle.jt_chains.specs.View.{its_templates}

abbrev pub invariant-loop-block : goal.invariant-loop-block
invariant-loop-block l =
    texts l.found.items
    ++ map (λ b. b.name) (blocks_view (its_templates l.chain) (drop l.block-index l.block-items))
    ≡ texts l.initial.found.items
    ++ map (λ b. b.name)
    (blocks_in (name_at (its_templates l.chain) l.index) (body_at (its_templates l.chain) l.index) l.chain.autoescape)
