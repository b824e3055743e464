use Rattle.std.proofs.Common.{◌≡◌, string_bytes, take}
use Rattle.std.specs.Str.{encode_utf8_all}
use Rattle.jt_filters.proofs.texts.turned.Given as goal

abbrev pub invariant-loop-c : goal.invariant-loop-c
invariant-loop-c l = string_bytes l.turned ≡ encode_utf8_all (take l.c-index l.c-items)
