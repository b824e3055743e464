use Rattle.jt_inherit.proofs.Vocabulary as words
use words.{Some, inl, ap, ◌∙◌, string_bytes, Text, names, of_texts, indexed_among, its_files}
use Rattle.jt_inherit.proofs.including.read_need.Goals as goal

pub returns-in-Ok-clause-met : goal.returns-in-Ok-clause-met
returns-in-Ok-clause-met g c =
    inl (indexed_among of_texts (names (its_files c.read.new.self)) c.in-Ok._index
    (string_bytes c.args.need.now.namespace.name) (c.in-Ok.ensures.index ∙ ap (λ (x : Text). Some x) c.deref.ensures))
