use Rattle.jt_inherit.proofs.Vocabulary.{◌≡◌, true, false, ap, refl, ◌∙◌, ◌||◌, List, Bool, Sources, Body, body_view}
use Rattle.jt_inherit.proofs.Vocabulary.{drop}
use Rattle.jt_inherit.proofs.Vocabulary.{lacks_macros, or_left, imports_it, ◌+◌}
use Rattle.jt_ast.specs.StatementView.{stmt_view}
use Rattle.jt_ast.specs.Statements as trees
use Rattle.jt_ast.specs.declared.statement.Stmt as code
use Rattle.jt_chains.specs.Rules.{lacks_one}
use Rattle.jt_chains.specs.View.{its_sources}
use Rattle.jt_inherit.proofs.BodyRules.{from_here}
use Rattle.jt_inherit.proofs.TagPlaces.{statement_used}
use Rattle.jt_inherit.proofs.importing.missing_in.Goals as goal

-- A body lacks what its first statement lacks, or what the rest lacks.
first_or_rest : (s : Sources) (x : trees.Stmt) (rest : Body)
    → lacks_macros s (trees.stmt x rest) ≡ (lacks_macros s (trees.stmt x trees.end) || lacks_macros s rest)
first_or_rest s (trees.import_from line n xs) rest = by (lacks_one s n xs)
  where
    by : (b : Bool) → (b || lacks_macros s rest) ≡ ((b || false) || lacks_macros s rest)
    by true = refl
    by false = refl
first_or_rest s x rest = refl

pub returns-in-Some : goal.returns-in-Some
returns-in-Some c =
    let s = its_sources c.args.chain.now in
    let body = c.args.body.now in
    let k = c.loop-statement.statement-index in
    let x = c.statement-item.result in
    let lt = c.loop-statement-test.true in
    let m = c.in-Some.found in
    let told = c.in-Some.ensures in (
      c.loop-statement.invariant
          ∙ (ap (λ (l : List code.Stmt). lacks_macros s (body_view l)) (from_here body k x lt c.statement-item.is)
          ∙ (first_or_rest s (stmt_view x) (body_view (drop (k + 1) body)) ∙ or_left _ _ told.0)),
      told.1,
      λ w. statement_used (λ t. imports_it m t.made ≡ true) body k x w lt c.statement-item.is (told.2 w),
    )

pub loop-statement-preserved : goal.loop-statement-preserved
loop-statement-preserved c =
    let s = its_sources c.args.chain.now in
    let body = c.args.body.now in
    let k = c.loop-statement.statement-index in
    let x = c.statement-item.result in
    c.loop-statement.invariant
    ∙ (ap (λ (l : List code.Stmt). lacks_macros s (body_view l))
    (from_here body k x c.loop-statement-test.true c.statement-item.is)
    ∙ (first_or_rest s (stmt_view x) (body_view (drop (k + 1) body))
    ∙ ap (λ (b : Bool). b || lacks_macros s (body_view (drop (k + 1) body))) c.in_default.ensures))
