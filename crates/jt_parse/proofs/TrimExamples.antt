-- Examples of texts that are trimmed.
use Rattle.std.proofs.Common.{◌≡◌, Bool, true, false, [], codes, refl}
use Rattle.jt_scan.specs.declared.options.Options.{Options}
use Rattle.jt_scan.specs.declared.segment.Mark.TheVariants as m
use Rattle.jt_scan.specs.Cut.{after_space}
use Rattle.jt_parse.specs.Kept.{kept, block_side, variable_side, nothing, ending, ending_starts}

abbrev options : Bool → Bool → Options
options trim strip = record {
  trim_blocks = trim;
  lstrip_blocks = strip;
  keep_trailing_newline = false;
  autoescape = true;
  strict = false;
}

-- An LF and a space are trimmed before `{%-`.
minus_before : kept (options false false) nothing (block_side m.Minus) (codes "a \n ") ≡ codes "a"
unfolding after_space ending ending_starts
minus_before = refl

-- An LF after a block tag and the spaces of the last line before another one are trimmed.
both_options : kept (options true true) (block_side m.Absent) (block_side m.Absent) (codes "\n  x\n  ") ≡ codes "  x\n"
unfolding after_space ending ending_starts
both_options = refl

-- Two spaces at the start of the source are trimmed, but not two spaces after a tag.
first_line : kept (options false true) nothing (block_side m.Absent) (codes "  ") ≡ []
unfolding after_space ending ending_starts
first_line = refl

same_line : kept (options false true) (block_side m.Absent) (block_side m.Absent) (codes "  ") ≡ codes "  "
unfolding after_space ending ending_starts
same_line = refl

-- The trimmed parts meet.
meeting : kept (options true true) (block_side m.Absent) (block_side m.Absent) (codes "\n  ") ≡ []
unfolding after_space ending ending_starts
meeting = refl

-- A `+` turns both options off, and no option applies to variable tags.
plus : kept (options true true) (block_side m.Plus) (block_side m.Plus) (codes "\n x\n ") ≡ codes "\n x\n "
unfolding after_space ending ending_starts
plus = refl

variables : kept (options true true) (variable_side m.Absent) (variable_side m.Absent) (codes "\n x\n ")
    ≡ codes "\n x\n "
unfolding after_space ending ending_starts
variables = refl
