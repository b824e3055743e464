use Rattle.jt_inherit.proofs.Vocabulary.{rules}
use Rattle.jt_inherit.proofs.ValidNames.{named}
use Rattle.jt_inherit.proofs.names.is_name.Goals as goal

pub returns-then-has_name_bytes : goal.returns-then-has_name_bytes
returns-then-has_name_bytes c =
    named c.args.name.now c.has_parts.result (search rules) (search rules) c.has_parts.ensures
