use Rattle.std.proofs.Common.{◌≡◌, sym, subst}
use Rattle.jt_verify.specs.Entries.{values_on}
use Rattle.jt_verify.specs.Arena.{Lists, shape_in, IsIn}
use Rattle.jt_verify.proofs.ShapesAreUnique.{values_are}
use Rattle.jt_verify.proofs.arena.Arena.values.Goals as goal

pub returns : goal.returns
returns c =
    let inside = subst (λ (t : Lists). IsIn t c.args.shape) (sym c.self.view_is) c.requires in
    subst (λ (t : Lists). c.args.shape.values ≡ values_on (shape_in t c.args.shape)) c.self.view_is
    (values_are c.self.invariant c.args.shape inside)
