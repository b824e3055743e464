use Rattle.std.proofs.Common.{◌∙◌, ◌++◌, ap, inr, string_bytes}
use Rattle.jt_host.proofs.explaining_runs.explained_run.Goals as goal

pub returns : goal.returns
returns c = inr (record {
  ending = c.in-Ok.outcome;
  runs = c.in-Ok.ensures.rendered;
  notes = string_bytes c.in_ok-notes.notes;
  noted = c.in_ok-notes.ensures;
  printed = (rw c.deref.ensures at c.in_ok-with_notes.ensures)
      ∙ ap (λ t. t ++ string_bytes c.in_ok-notes.notes) c.in_ok-text.ensures;
})
