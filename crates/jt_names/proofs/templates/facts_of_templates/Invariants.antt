use Rattle.jt_names.proofs.templates.facts_of_templates.Given as goal
use Rattle.jt_names.proofs.{TemplateFacts, IsKnownTemplate, ◌≡◌, ◌<◌, ℕ, length, get_or}

abbrev pub invariant-loop-index : goal.invariant-loop-index
invariant-loop-index l = record {
  all : length l.found.items ≡ l.index;
  each : (i : ℕ) (f : TemplateFacts) → i < length l.found.items → f ≡ get_or l.found.items i f
      → IsKnownTemplate l.chain i f;
}
