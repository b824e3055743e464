-- A text that the scanner cuts.
use Rattle.std.specs.Prelude.{ℕ, List}
use Rattle.std.specs.Str.{chars}
use Rattle.jt_scan.specs.Cut as cut
use Rattle.jt_scan.specs.SourceView.{Held}
use Rattle.jt_scan.specs.declared.options.Options.{Options}
use Rattle.jt_hints.specs.Strays.{read_by}

abbrev pub IsCutText : Options → List ℕ → Type 0
IsCutText options text = (segments : List cut.Segment) × cut.IsCut segments (read_by options text)

abbrev pub IsCutSource : Held → Type 0
IsCutSource source = (segments : List cut.Segment) × cut.IsCut segments (chars source.text)
