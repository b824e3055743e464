use Rattle.jt_chains.proofs.definitions.holds_macros.Goals as goal
use Rattle.std.specs.List.{list_all}
use Rattle.std.proofs.lemmas.Iterator.{YieldsList-from_slice}
use Rattle.std.proofs.lemmas.Iterator.Search.{all_from_yields_List}
use Rattle.jt_ast.specs.declared.statement.Stmt.{Stmt}
use Rattle.jt_chains.specs.Chain.{holds_macros, of_a_library}
use Rattle.jt_chains.proofs.{◌≡◌, List, [], ◌∷◌, ◌∙◌, refl, rules, tests, stmt_view, body_view}

all_held : (ss : List Stmt) → list_all (λ s. of_a_library (stmt_view s)) ss ≡ holds_macros (body_view ss)
all_held [] = refl
all_held (s ∷ ss) = rw (all_held ss)

pub returns : goal.returns
returns c =
    all_from_yields_List _ _ _ _ c.all.ensures.ran (YieldsList-from_slice c.args.body.now cc)
    (λ x b q k. search (rules, tests))
    ∙ all_held c.args.body.now
