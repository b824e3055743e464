use Rattle.std.proofs.Common.{◌≡◌, ◌-◌, ◌<◌, List, [], ◌∷◌, length, Some, sym, subst, arith}
use Rattle.std.specs.Prelude.{slice_get}
use Rattle.jt_verify.specs.declared.nodes.Node.{Node}
use Rattle.jt_verify.specs.Arena.{Lists, shape_in, IsIn, kind_of}
use Rattle.jt_verify.proofs.ShapesAreUnique.{empty_is, top_is}
use Rattle.jt_verify.proofs.arena.Arena.pop.Goals as goal

pub returns-then-shape-eq0 : goal.returns-then-shape-eq0
returns-then-shape-eq0 c =
    subst (λ (t : Lists). shape_in t c.args.shape ≡ []) c.self.view_is
    (empty_is c.self.invariant c.args.shape (omega (arith, c.if-shape-gt0.false)) c.if-shape-eq0.true)

pub returns : goal.returns
returns c =
    let node = c.node_at-node.result in
    let found = subst (λ (ns : List Node). slice_get ns (c.args.shape.node - 1) ≡ Some node) c.as_slice-nodes.ensures
    c.node_at-node.ensures in
    let inside = subst (λ (t : Lists). IsIn t c.args.shape) (sym c.self.view_is) c.requires in
    let is = top_is c.self.invariant c.args.shape node (omega (arith, c.if-shape-gt0.false))
    (omega (arith, c.if-shape-eq0.false)) inside found in
    rw c.kind.ensures (subst (λ (t : Lists).
    (shape_in t c.args.shape ≡ kind_of node.mark ∷ shape_in t node.below) × (node.below.node < length t))
    c.self.view_is is)
