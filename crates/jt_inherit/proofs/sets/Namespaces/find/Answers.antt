use Rattle.jt_inherit.proofs.Vocabulary.{◌∙◌, ap, string_bytes, get_by_text, key_view}
use Rattle.jt_inherit.proofs.NumberTables.{namespace_found}
use Rattle.jt_inherit.proofs.sets.Namespaces.find.Goals as goal

pub returns : goal.returns
returns c =
    let k = c.args.namespace.now in
    namespace_found (key_view k) c.args.self.now.items.items c.copied.result
    (c.copied.ensures ∙ c.get.ensures.value ∙ ap (get_by_text c.numbers.result.now) c.as_str.ensures.value
    ∙ c.numbers.ensures (string_bytes k.name))
