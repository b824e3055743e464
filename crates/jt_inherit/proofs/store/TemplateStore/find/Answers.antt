use Rattle.jt_inherit.proofs.Vocabulary.{◌∙◌}
use Rattle.jt_inherit.proofs.NumberTables.{file_found}
use Rattle.jt_inherit.proofs.store.TemplateStore.find.Goals as goal

pub returns : goal.returns
returns c =
    let s = c.args.self.now in
    file_found c.args.name.now s.files.items s.indices c.copied.result s.indexed
    (c.copied.ensures ∙ c.get.ensures.value)
