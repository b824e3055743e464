use Rattle.jt_inherit.proofs.Vocabulary.{◌≡◌, drop, extends_at, body_view}
use Rattle.jt_inherit.proofs.extends_path.parent_of.Given as goal

abbrev pub invariant-loop-statement : goal.invariant-loop-statement
invariant-loop-statement l = extends_at (body_view l.body) ≡ extends_at (body_view (drop l.statement-index l.body))
