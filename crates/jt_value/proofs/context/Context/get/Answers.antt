use Rattle.std.proofs.Common.{ℕ, ap, ◌∙◌}
use Rattle.jt_value.specs.Entries.{entry_of}
use Rattle.jt_value.specs.Pairs.{Pairs, look}
use Rattle.jt_value.specs.View.{entries_view}
use Rattle.jt_value.proofs.ContextLookup.{look-entries}
use Rattle.jt_value.proofs.context.Context.get.Goals as goal

pub returns-clause-value : goal.returns-clause-value
returns-clause-value c =
    let name = c.args.name.now in
    c.get.ensures ∙ ap (λ es. entry_of name (entries_view es)) c.deref.ensures.value
    ∙ look-entries name c.self.inside.entries.items ∙ ap (λ (t : Pairs × ℕ). look name t.0) c.self.view_is
