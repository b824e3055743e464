use Rattle.jt_parse.proofs.open_stmts.else_part.Goals as goal

pub returns-in-Branch : goal.returns-in-Branch
returns-in-Branch c =
    λ before opening fs. rw c.in-Branch.is (c.opened_else.ensures before opening fs _ c.with_branch.ensures)
