-- The template and the line that an error names. The line is that of the tag with the fault, or 1 if
-- there is no tag.
use Rattle.std.specs.Prelude.{ℕ, Option, Some, None, string_bytes}
use Rattle.jt_ast.specs.Expressions.{Text}
use Rattle.jt_scan.specs.declared.error.ScanError.{ScanError}
use Rattle.jt_scan.specs.declared.error.ScanError.TheVariants as scan_error
use Rattle.jt_parse.specs.declared.error.ParseError.{ParseError}
use Rattle.jt_parse.specs.declared.error.ParseError.TheVariants as parse_error
use Rattle.jt_inherit.specs.declared.error.ChainError.{ChainError}
use Rattle.jt_inherit.specs.declared.error.ChainError.TheVariants as error

abbrev pub scan_line : ScanError → ℕ
scan_line (scan_error.UnclosedTag n) = n
scan_line (scan_error.UnclosedText n) = n
scan_line (scan_error.BadCharacter n) = n
scan_line (scan_error.BadEscape n) = n
scan_line (scan_error.NumberTooLarge n) = n
scan_line (scan_error.UnclosedRaw n) = n
scan_line (scan_error.SourceTooLong n) = n
scan_line scan_error.NoMemory = 1

abbrev pub parse_line : ParseError → ℕ
parse_line (parse_error.Syntax n) = n
parse_line (parse_error.TooDeep n) = n
parse_line (parse_error.UnknownFilter n) = n
parse_line (parse_error.UnknownTest n) = n
parse_line parse_error.NoMemory = 1

-- The template that does not scan or parse, and the line. No other error names a template.
abbrev pub place : ChainError → Option (Text × ℕ)
place (error.Scan name e) = Some (string_bytes name, scan_line e)
place (error.Parse name e) = Some (string_bytes name, parse_line e)
place e = None
