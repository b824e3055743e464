use Rattle.jt_parse.proofs.open_stmts.next_branch.Goals as goal

pub returns-in-Branch : goal.returns-in-Branch
returns-in-Branch c =
    λ before opening n ts fs g.
    rw c.in-Branch.is (c.opened_branch.ensures before opening n ts fs _ c.with_branch.ensures g)
