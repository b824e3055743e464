use Rattle.std.proofs.Common.{◌≡◌, ◌++◌, flat_map, string_bytes, take}
use Rattle.jt_host.specs.Marks.{pad}
use Rattle.jt_host.proofs.marks.push_pads.Given as goal

abbrev pub invariant-loop-byte : goal.invariant-loop-byte
invariant-loop-byte l = string_bytes l.made ≡ string_bytes l.fn.made ++ flat_map pad (take l.byte-index l.before)
