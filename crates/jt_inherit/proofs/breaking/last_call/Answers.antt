use Rattle.jt_inherit.proofs.Vocabulary.{arith, rules, append_assoc}
use Rattle.jt_inherit.proofs.TagPlaces.{call_found, call_none}
use Rattle.jt_inherit.proofs.breaking.last_call.Goals as goal

pub returns-in-Some-super_line : goal.returns-in-Some-super_line
returns-in-Some-super_line c = search (arith, rules, call_found, append_assoc)

pub returns-then-not-is_required : goal.returns-then-not-is_required
returns-then-not-is_required c = search (arith, rules, call_none, append_assoc)
