use Rattle.jt_bind.proofs
use proofs.{ℕ, Expr, List, String, Arguments, ◌+◌, ◌*◌, drop, max, most, exprs_view, pairs_view, size-Expr, values}
use proofs.{RowLeads, row_of, asides_of, entries_of, Global, Row}
use Rattle.jt_bind.proofs.resolver.Resolver.+expressions.Given as goal

-- ---- measures: the depth of the remaining trees, and the order of the calls

abbrev row_size : List Expr → ℕ
row_size ts = most (λ x. size-Expr x) ts

abbrev pairs_size : List (String Global × Expr) → ℕ
pairs_size ps = most (λ x. size-Expr x.1) ps

abbrev given_size : Arguments → ℕ
given_size a = max (row_size a.row.now) (pairs_size a.pairs.now)

abbrev pub decreases-resolve_expression : goal.decreases-resolve_expression
decreases-resolve_expression l = 6 * size-Expr l.expr.now

abbrev pub decreases-resolve_row : goal.decreases-resolve_row
decreases-resolve_row l = 6 * row_size l.row.now + 1

abbrev pub decreases-resolve_asides : goal.decreases-resolve_asides
decreases-resolve_asides l = 6 * pairs_size l.pairs.now + 1

abbrev pub decreases-resolve_entries : goal.decreases-resolve_entries
decreases-resolve_entries l = 6 * pairs_size l.pairs.now + 1

abbrev pub decreases-resolve_given : goal.decreases-resolve_given
decreases-resolve_given l = 6 * given_size l.arguments + 2

abbrev pub decreases-resolve_made : goal.decreases-resolve_made
decreases-resolve_made l = 6 * max (row_size l.first.now) (row_size l.rest.now) + 2

abbrev pub decreases-resolve_map : goal.decreases-resolve_map
decreases-resolve_map l = 6 * pairs_size l.pairs.now + 2

abbrev pub decreases-resolve_attribute : goal.decreases-resolve_attribute
decreases-resolve_attribute l = 6 * size-Expr l.value.now + 2

abbrev pub decreases-resolve_binary : goal.decreases-resolve_binary
decreases-resolve_binary l = 6 * max (size-Expr l.left.now) (size-Expr l.right.now) + 4

abbrev pub decreases-resolve_joined : goal.decreases-resolve_joined
decreases-resolve_joined l = 6 * max (size-Expr l.left.now) (size-Expr l.right.now) + 2

abbrev pub decreases-resolve_operand : goal.decreases-resolve_operand
decreases-resolve_operand l = 6 * size-Expr l.operand.now + 1

abbrev pub decreases-resolve_when : goal.decreases-resolve_when
decreases-resolve_when l = 6 * max (size-Expr l.condition.now) (size-Expr l.value.now) + 2

abbrev pub decreases-resolve_choice : goal.decreases-resolve_choice
decreases-resolve_choice l =
    6 * max (size-Expr l.condition.now) (max (size-Expr l.value.now) (size-Expr l.other.now)) + 2

abbrev pub decreases-resolve_boxed : goal.decreases-resolve_boxed
decreases-resolve_boxed l = 6 * size-Expr l.expr.now + 1

abbrev pub decreases-resolve_test : goal.decreases-resolve_test
decreases-resolve_test l = 6 * max (size-Expr l.value.now) (row_size l.row.now) + 3

abbrev pub decreases-resolve_filter : goal.decreases-resolve_filter
decreases-resolve_filter l =
    6 * max (size-Expr l.value.now) (given_size l.arguments) + 4

abbrev pub decreases-resolve_filter_row : goal.decreases-resolve_filter_row
decreases-resolve_filter_row l = 6 * given_size l.arguments + 3

abbrev pub decreases-resolve_call : goal.decreases-resolve_call
decreases-resolve_call l = 6 * given_size l.arguments + 4

abbrev pub decreases-resolve_macro : goal.decreases-resolve_macro
decreases-resolve_macro l = 6 * given_size l.arguments + 3

abbrev pub decreases-resolve_cycle : goal.decreases-resolve_cycle
decreases-resolve_cycle l = 6 * row_size l.row.now + 3

-- ---- the remaining items of a list

abbrev pub invariant-resolve_row-loop-expr : goal.invariant-resolve_row-loop-expr
invariant-resolve_row-loop-expr l =
    (left : Row) → RowLeads (row_of l.self (exprs_view l.row) left)
    (row_of l.self (exprs_view (drop l.expr-index l.row)) left)
    l.initial.done.items l.done.items (values l.initial.pool) (values l.pool)

abbrev pub invariant-resolve_asides-loop-value : goal.invariant-resolve_asides-loop-value
invariant-resolve_asides-loop-value l =
    (left : Row) → RowLeads (asides_of l.self (pairs_view l.pairs) left)
    (asides_of (record l.self { senv = l.senv }) (pairs_view (drop l.value-index l.pairs)) left)
    l.initial.done.items l.done.items (values l.initial.pool) (values l.pool)

abbrev pub invariant-resolve_entries-loop-key : goal.invariant-resolve_entries-loop-key
invariant-resolve_entries-loop-key l =
    RowLeads (entries_of l.self (pairs_view l.pairs))
    (entries_of l.self (pairs_view (drop l.key-index l.pairs)))
    l.initial.done.items l.done.items (values l.initial.pool) (values l.pool)
