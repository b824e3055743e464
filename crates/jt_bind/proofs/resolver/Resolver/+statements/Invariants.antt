use Rattle.jt_bind.proofs
use proofs.{ℕ, List, Stmt, size-Stmt, ◌+◌, ◌*◌, max, drop, most, followed, body_view, branches_view, values, BodyLeads}
use proofs.{templates_of, ChoiceLeads, body_of, choice_of, Branch, Stmts}
use Rattle.jt_bind.proofs.resolver.Resolver.+statements.Given as goal

-- ---- measures: the depth of the remaining statements, and the order of the calls

abbrev body_size : List Stmt → ℕ
body_size ss = most (λ x. size-Stmt x) ss

abbrev pub decreases-resolve_if_set : goal.decreases-resolve_if_set
decreases-resolve_if_set l = 6 * size-Stmt l.statement.now

abbrev pub decreases-resolve_statement : goal.decreases-resolve_statement
decreases-resolve_statement l = 6 * size-Stmt l.statement.now + 1

abbrev pub decreases-resolve_body : goal.decreases-resolve_body
decreases-resolve_body l = 6 * body_size l.body.now + 2

abbrev pub decreases-resolve_whole : goal.decreases-resolve_whole
decreases-resolve_whole l = 6 * body_size l.body.now + 3

abbrev pub decreases-resolve_scoped : goal.decreases-resolve_scoped
decreases-resolve_scoped l = 6 * body_size l.body.now + 3

abbrev pub decreases-resolve_within : goal.decreases-resolve_within
decreases-resolve_within l = 6 * body_size l.body.now + 4

abbrev pub decreases-resolve_escaping : goal.decreases-resolve_escaping
decreases-resolve_escaping l = 6 * body_size l.body.now + 4

abbrev pub decreases-resolve_text : goal.decreases-resolve_text
decreases-resolve_text l = 6 * body_size l.body.now + 5

abbrev pub decreases-resolve_turns : goal.decreases-resolve_turns
decreases-resolve_turns l = 6 * body_size l.body.now + 5

abbrev pub decreases-resolve_for : goal.decreases-resolve_for
decreases-resolve_for l = 6 * max (body_size l.body.now) (body_size l.other.now) + 6

abbrev pub decreases-resolve_with : goal.decreases-resolve_with
decreases-resolve_with l = 6 * body_size l.body.now + 5

abbrev pub decreases-resolve_filter_block : goal.decreases-resolve_filter_block
decreases-resolve_filter_block l = 6 * body_size l.body.now + 6

abbrev pub decreases-resolve_branch : goal.decreases-resolve_branch
decreases-resolve_branch l = 6 * body_size l.branch.now.body.items + 4

abbrev pub decreases-resolve_branches : goal.decreases-resolve_branches
decreases-resolve_branches l =
    6 * max (most (λ (b : Branch). body_size b.body.items) l.branches.now)
    (body_size l.other.now)
    + 5

-- ---- the remaining items

abbrev pub invariant-resolve_body-loop-statement : goal.invariant-resolve_body-loop-statement
invariant-resolve_body-loop-statement l =
    (left : Stmts) → BodyLeads (templates_of l.self) (followed (body_of l.self (body_view l.body)) left)
    (followed (body_of l.self (body_view (drop l.statement-index l.body))) left) l.initial.done.items l.done.items
    (values l.initial.pool) (values l.pool)

abbrev pub invariant-resolve_branches-loop-branch : goal.invariant-resolve_branches-loop-branch
invariant-resolve_branches-loop-branch l =
    (other : Stmts) → ChoiceLeads (templates_of l.self) (choice_of l.self (branches_view l.branches) other)
    (choice_of l.self (branches_view (drop l.branch-index l.branches)) other) l.made.part.items
    (values l.initial.pool) (values l.pool)
