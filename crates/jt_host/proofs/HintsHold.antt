-- The hint that is found is one of the source.
use Rattle.std.proofs.Common.{◌≡◌, ℕ, List, Option, Some, None, ap, subst, chars}
use Rattle.std.specs.Prelude.{IfOk, IfSome, Result, Ok, Err}
use Rattle.jt_scan.specs.Cut.{IsCut}
use Rattle.jt_scan.specs.LineEnds.{normalized}
use Rattle.jt_scan.specs.SourceView.{Held}
use Rattle.jt_scan.specs.View.{cut_of}
use Rattle.jt_scan.specs.declared.options.Options.{Options}
use Rattle.jt_scan.specs.declared.segment.Segment.{Segment}
use Rattle.jt_host.specs.declared.syntax_hints.SourceHint.{SourceHint}
use Rattle.jt_ast.specs.Expressions.{Text}
use Rattle.jt_inherit.specs.Chains.{SourceTexts}
use Rattle.jt_codegen.specs.declared.ParseError.TheVariants as parse_error
use Rattle.jt_host.specs.SyntaxHints.{HasHint, IsParseHint, source_hint}

-- The hint of the segments of a source is that of the source.
hint_stands : (options : Options) (given : Text) (s : Held)
    → s ≡ record { text = normalized options.keep_trailing_newline given; options = options } → (line : ℕ)
    → (ss : List Segment) → IsCut (cut_of ss) (chars s.text) → (o : Option SourceHint) → o ≡ source_hint line ss
    → IfSome o (HasHint options given line)
hint_stands options given s is line ss c None e = tt
hint_stands options given s is line ss c (Some h) e = record {
  segments = ss;
  cut = subst (λ x. IsCut (cut_of ss) (chars x)) (ap (λ (z : Held). z.text) is) c;
  is = cc;
}

pub result_stands : {E : Type 0} (options : Options) (given : Text) (s : Held)
    → s ≡ record { text = normalized options.keep_trailing_newline given; options = options } → (line : ℕ)
    → (ss : List Segment) → IsCut (cut_of ss) (chars s.text) → (r : Result (Option SourceHint) E)
    → IfOk r (λ o. o ≡ source_hint line ss) → IfOk r (λ o. IfSome o (HasHint options given line))
result_stands options given s is line ss c (Ok o) h = hint_stands options given s is line ss c o h
result_stands options given s is line ss c (Err e) h = tt
