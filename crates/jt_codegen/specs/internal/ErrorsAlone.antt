-- What is stated of an error of a chain that has no subject of its own. Only private clauses cite this definition.
use Rattle.std.specs.Prelude.{◌≡◌, option_map, string_bytes}
use Rattle.jt_scan.specs.declared.options.Options.{Options}
use Rattle.jt_inherit.specs.Chains.{SourceTexts}
use Rattle.jt_inherit.specs.Lines as errors
use Rattle.jt_inherit.specs.declared.error.ChainError.{ChainError}
use Rattle.jt_codegen.specs.Explaining.{IsUnknown}
use Rattle.jt_codegen.specs.declared.error.CompileError.TheVariants as error
use Rattle.jt_codegen.specs.declared.finding.Finding.{Finding}

-- The finding states the error, with its place in a source and the unknown name there, if it has them.
pub record StatesError (given : SourceTexts) (options : Options) (e : ChainError) (f : Finding) : Type 0 where
  pub states : f.error ≡ error.Chain e
  pub at : option_map (λ p. (string_bytes p.template, p.line)) f.place ≡ errors.place e
  pub about : IsUnknown given options e f.subject
