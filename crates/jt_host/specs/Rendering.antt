-- The results of rendering the entry of a library for a context under a budget.
use Rattle.std.specs.Prelude.{◌≢◌}
use Rattle.jt_scan.specs.declared.options.Options.{Options}
use Rattle.jt_value.specs.Pairs.{Pairs}
use Rattle.jt_inherit.specs.Chains.{SourceTexts}
use Rattle.jt_ast.specs.Expressions.{Text}
use Rattle.jt_inherit.specs.Small.{IsSmall}
use Rattle.jt_image.specs.Code.{Code}
use Rattle.jt_image.specs.Run.{Run}
use Rattle.jt_budget.specs.declared.Budget.{Budget}
use Rattle.jt_codegen.specs.Compiled.{IsCompiled}
use Rattle.jt_codegen.specs.Refusals.{Breaks, NamesLimit}
use Rattle.jt_codegen.specs.declared.error.CompileError.{CompileError}
use Rattle.jt_codegen.specs.declared.error.CompileError.TheVariants as compile_error
use Rattle.jt_host.specs.declared.rendering.RenderError.{RenderError}
use Rattle.jt_host.specs.declared.rendering.RenderError.TheVariants as render_error
use Rattle.jt_machine.specs.View.{budget_view, outcome_view}
use Rattle.jt_machine.specs.declared.Outcome.{Outcome}

module _ (sources : SourceTexts) (entry : Text) (options : Options) where
  -- The run of some code to which the entry compiles ends so. The text or fault of such a code is
  -- the meaning of the entry's template, whichever code it is.
  pub record IsRendered (x : Pairs) (b : Budget) (o : Outcome) : Type 0 where
    pub code : Code
    pub compiled : IsCompiled sources entry options code
    pub runs : Run code x (budget_view b) (outcome_view o)

  -- A refusal that the compiler may return: it holds, and it names a limit only if the chain is not
  -- small.
  pub record IsRefused (e : CompileError) : Type 0 where
    pub fault : e ≢ compile_error.NoMemory
    pub holds : Breaks sources entry options e
    pub limit : NamesLimit e → IsSmall sources entry options → ⊥

  -- The compiler may return the refusal. Lack of memory claims nothing.
  abbrev pub IsUnrendered : RenderError → Type 0
  IsUnrendered (render_error.Compile e) = IsRefused e
  IsUnrendered render_error.NoMemory = Unit {0}
