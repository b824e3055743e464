-- The concatenation of bodies, and of branches.
use Rattle.std.proofs.Common.{◌≡◌, refl, ap}
use Rattle.jt_ast.specs.Statements.{Body, end, stmt, Branches, no_branches, branch}
use Rattle.jt_parse.specs.internal.Reading.{then_all, then_branches}

pub all_end : (a : Body) → then_all a end ≡ a
all_end end = refl
all_end (stmt s a) = ap (stmt s) (all_end a)

pub all_all : (a b c : Body) → then_all (then_all a b) c ≡ then_all a (then_all b c)
all_all end b c = refl
all_all (stmt s a) b c = ap (stmt s) (all_all a b c)

pub branches_all : (a b c : Branches) → then_branches (then_branches a b) c ≡ then_branches a (then_branches b c)
branches_all no_branches b c = refl
branches_all (branch l x y a) b c = ap (branch l x y) (branches_all a b c)
