use Rattle.std.proofs.Common.{◌≡◌, drop}
use Rattle.jt_parse.specs.Positions.{is_blank_text}
use Rattle.jt_parse.proofs.positions.is_blank_text.Given as goal

abbrev pub invariant-loop-b : goal.invariant-loop-b
invariant-loop-b l = is_blank_text l.text ≡ is_blank_text (drop l.b-index l.text)
