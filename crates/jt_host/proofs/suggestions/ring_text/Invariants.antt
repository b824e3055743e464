use Rattle.std.proofs.Common.{◌≡◌, string_bytes, take}
use Rattle.jt_host.specs.Suggestions.{ring_text}
use Rattle.jt_host.proofs.suggestions.ring_text.Given as goal

abbrev pub invariant-loop-name : goal.invariant-loop-name
invariant-loop-name l = string_bytes l.text ≡ ring_text (take l.name-index l.names)
