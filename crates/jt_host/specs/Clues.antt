-- What the sources show of a refusal beyond its finding.
use Rattle.std.specs.Prelude.{string_bytes}
use Rattle.std.specs.Option.{IfSome}
use Rattle.jt_scan.specs.declared.Options.{Options}
use Rattle.jt_inherit.specs.Chains.{SourceTexts}
use Rattle.jt_codegen.specs.declared.Explained.{Explained}
use Rattle.jt_host.specs.Meant.{IsMeantFor, IsMethodFor, IsTakenFor}
use Rattle.jt_host.specs.SyntaxHints.{IsHintFor}
use Rattle.jt_host.specs.TokenMarks.{IsMarkFor}
use Rattle.jt_host.specs.declared.clues.Clues.{Clues}

-- The reason of an error of syntax, the name that was probably meant, the method, what the macro
-- takes and what is marked are those of the sources.
pub record AreCluesFor (sources : SourceTexts) (options : Options) (x : Explained) (c : Clues) : Type 0 where
  pub hint : IsHintFor sources options x c.hint
  pub meant : IfSome c.meant (λ y. IsMeantFor sources options x (string_bytes y))
  pub method : IfSome c.method (λ y. IsMethodFor sources options x (string_bytes y))
  pub takes : IfSome c.takes (λ y. IsTakenFor sources options x (string_bytes y))
  pub mark : IfSome c.mark (IsMarkFor sources options x)
