use Rattle.jt_inherit.proofs.Vocabulary.{◌≡◌, true, false, ap, sym, ◌∙◌, subst, Bool, ◌||◌, or_left, inr, ℕ, Sources}
use Rattle.jt_inherit.proofs.Vocabulary.{Site}
use Rattle.jt_inherit.proofs.Vocabulary.{String, Vec, Global, string_bytes, given_view, lacks_macros, ForSome}
use Rattle.jt_inherit.proofs.Vocabulary.{imports_it}
use Rattle.jt_inherit.proofs.Vocabulary.{Misses, IsImported, Option, Some, None}
use Rattle.jt_ast.proofs.StatementViews.{view_From}
use Rattle.jt_ast.specs.StatementView.{stmt_view}
use Rattle.jt_ast.specs.Statements as trees
use Rattle.jt_ast.specs.declared.statement.Stmt as code
use Rattle.jt_ast.specs.declared.statement.Stmt.TheVariants.{From}
use Rattle.jt_chains.specs.Rules.{lacks_one}
use Rattle.jt_chains.specs.View.{its_sources}
use Rattle.jt_uses.specs.Uses.{place_at, macros_bound, stmt_uses}
use Rattle.jt_uses.specs.declared.site.Enclosing.{Enclosing}
use Rattle.jt_uses.specs.declared.site.Place.{Place}
use Rattle.jt_inherit.specs.declared.importing.MissingMacro.{MissingMacro}
use Rattle.jt_inherit.proofs.importing.missing_by.Goals as goal

-- What a `from` tag lacks, its statement lacks.
of_statement : (s : Sources) (x : code.Stmt) (line : ℕ) (n : String Global)
    (ms : Vec (String Global × String Global) Global) → x ≡ From line n ms → (o : Option MissingMacro)
    → Misses s (lacks_one s (string_bytes n) (given_view ms.items))
    (λ m. (p : Place) → IsImported (macros_bound (string_bytes n) (given_view ms.items) p) m) o
    → Misses s (lacks_macros s (trees.stmt (stmt_view x) trees.end))
    (λ m. (w : Enclosing) → IsImported (stmt_uses (stmt_view x) w) m) o
of_statement s x line n ms is None h =
    ap (λ (t : trees.Stmt). lacks_macros s (trees.stmt t trees.end)) (ap stmt_view is ∙ view_From line n ms)
    ∙ ap (λ (b : Bool). b || false) h
of_statement s x line n ms is (Some m) h =
    let view = ap stmt_view is ∙ view_From line n ms in (
      ap (λ (t : trees.Stmt). lacks_macros s (trees.stmt t trees.end)) view ∙ or_left _ _ h.0,
      h.1,
      λ w.
          subst (λ (t : trees.Stmt). ForSome (λ (u : Site). imports_it m u.made ≡ true) (stmt_uses t w)) (sym view)
          (inr (h.2 (place_at line w))),
    )

pub returns-in-From : goal.returns-in-From
returns-in-From c =
    of_statement (its_sources c.args.chain.now) c.args.statement.now c.in-From.line c.in-From.library c.in-From.macros
    c.in-From.is c.missing_from.result
    (rw (c.deref.ensures, c.deref-in-From.ensures.value) at c.missing_from.ensures)
