-- The view of a source in contracts.
use Rattle.std.specs.Prelude.{ℕ, List, true, false}
use Rattle.jt_scan.specs.LineEnds.{normalized}
use Rattle.jt_scan.specs.declared.options.Options.{Options}

-- The greatest length of a source, in bytes before normalization.
abbrev pub max_source_len : ℕ
max_source_len = 1048576

pub record Held : Type 0 where
  -- The normalized text, in bytes.
  pub text : List ℕ
  pub options : Options

-- The view of the source that is created from a text.
abbrev pub held_of : Options → List ℕ → Held
held_of options text =
    record { text = normalized options.keep_trailing_newline text; options = options }

-- The default options.
abbrev pub usual_options : Options
usual_options =
    record {
      trim_blocks = false;
      lstrip_blocks = false;
      keep_trailing_newline = false;
      autoescape = true;
      strict = false;
    }
