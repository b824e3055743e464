-- Sequences that are collected from the front. Only private clauses cite this module.
use Rattle.std.specs.Prelude.{Option, Some, None}
use Rattle.jt_ast.specs.Expressions.{Text, Expr, Exprs, no_exprs, expr, Pairs, no_pairs, pair}
use Rattle.jt_expr.specs.Grammar.{LeveledList}

abbrev pub then_exprs : Exprs → Exprs → Exprs
then_exprs no_exprs us = us
then_exprs (expr t ts) us = expr t (then_exprs ts us)

abbrev pub then_pairs : Pairs → Pairs → Pairs
then_pairs no_pairs qs = qs
then_pairs (pair k t ps) qs = pair k t (then_pairs ps qs)

-- The concatenation of two sequences.
abbrev pub then_parts : LeveledList → LeveledList → LeveledList
then_parts p q = (then_exprs p.0 q.0, then_pairs p.1 q.1)

-- A sequence with one part appended.
abbrev pub then_part : LeveledList → Option Text × Expr → LeveledList
then_part p (None, t) = (then_exprs p.0 (expr t no_exprs), p.1)
then_part p (Some k, t) = (p.0, then_pairs p.1 (pair k t no_pairs))
