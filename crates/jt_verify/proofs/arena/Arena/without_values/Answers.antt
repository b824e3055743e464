use Rattle.std.proofs.Common.{◌≡◌, [], get_or, sym, subst}
use Rattle.jt_verify.specs.Entries.{without_values}
use Rattle.jt_verify.specs.Arena.{Lists, shape_in, IsIn}
use Rattle.jt_verify.proofs.ShapesAreUnique.{rest_is}
use Rattle.jt_verify.proofs.arena.Arena.without_values.Goals as goal

pub returns : goal.returns
returns c =
    let inside = subst (λ (t : Lists). IsIn t c.args.shape) (sym c.self.view_is) c.requires in
    record {
      shape =
          subst (λ (t : Lists). get_or t c.args.shape.node [] ≡ without_values (shape_in t c.args.shape))
          c.self.view_is (rest_is c.self.invariant c.args.shape inside);
      within = c.requires;
    }
