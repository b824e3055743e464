-- What is found in the segments of a source is found in the source.
use Rattle.std.proofs.Common.{◌≡◌, List, Option, Some, None, String, Global, ap, subst, chars, option_map, string_bytes}
use Rattle.std.specs.Prelude.{IfOk, IfSome, Result, Ok, Err}
use Rattle.jt_scan.specs.Cut.{IsCut}
use Rattle.jt_scan.specs.LineEnds.{normalized}
use Rattle.jt_scan.specs.SourceView.{Held}
use Rattle.jt_scan.specs.View.{cut_of}
use Rattle.jt_scan.specs.declared.options.Options.{Options}
use Rattle.jt_scan.specs.declared.segment.Segment.{Segment}
use Rattle.jt_host.specs.Meant.{HasFound, Wanted, found_in}
use Rattle.jt_ast.specs.Expressions.{Text}

found_stands : (options : Options) (given : Text) (s : Held)
    → s ≡ record { text = normalized options.keep_trailing_newline given; options = options } → (w : Wanted)
    → (ss : List Segment) → IsCut (cut_of ss) (chars s.text) → (o : Option (String Global))
    → option_map string_bytes o ≡ found_in w ss → IfSome o (λ y. HasFound options given w (string_bytes y))
found_stands options given s is w ss c None e = tt
found_stands options given s is w ss c (Some y) e = record {
  segments = ss;
  cut = subst (λ x. IsCut (cut_of ss) (chars x)) (ap (λ (z : Held). z.text) is) c;
  is = cc;
}

pub result_stands : {E : Type 0} (options : Options) (given : Text) (s : Held)
    → s ≡ record { text = normalized options.keep_trailing_newline given; options = options } → (w : Wanted)
    → (ss : List Segment) → IsCut (cut_of ss) (chars s.text) → (r : Result (Option (String Global)) E)
    → IfOk r (λ o. option_map string_bytes o ≡ found_in w ss)
    → IfOk r (λ o. IfSome o (λ y. HasFound options given w (string_bytes y)))
result_stands options given s is w ss c (Ok o) h = found_stands options given s is w ss c o h
result_stands options given s is w ss c (Err e) h = tt
