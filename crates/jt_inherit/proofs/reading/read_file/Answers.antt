use Rattle.jt_inherit.proofs.Vocabulary.{string_bytes, sym, ap, ◌∙◌, body_of}
use Rattle.jt_inherit.proofs.SourceErrors.{only_read}
use Rattle.jt_inherit.proofs.reading.read_file.Goals as goal

pub returns-clause-only : goal.returns-clause-only
returns-clause-only g c =
    let given = g.L.Library.sources c.args.library.now in
    let p = c.in_ok-new.field-0 in
    let text = c.in-Some.source.now in
    only_read given c.args.options (string_bytes p.name) text (body_of p.template)
    (rw c.in_ok-new.ensures.name (ap given c.in_ok-name.ensures.ok
    ∙ sym c.in-Some.ensures))
    (rw c.in_ok-new.ensures.template c.in_ok-template.ensures.only)
