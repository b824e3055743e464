use Rattle.std.proofs.Common.{◌≡◌, ◌++◌, flat_map, string_bytes, take}
use Rattle.jt_host.specs.Marks.{caret}
use Rattle.jt_host.proofs.marks.push_carets.Given as goal

abbrev pub invariant-loop-byte : goal.invariant-loop-byte
invariant-loop-byte l = string_bytes l.made ≡ string_bytes l.fn.made ++ flat_map caret (take l.byte-index l.name)
