use Rattle.jt_inherit.proofs.Vocabulary as words
use words.{arith, string_bytes, length-map, passed_on, key_view, namespaces_view}
use Rattle.jt_inherit.proofs.DiscoveryInvariant.{next_there, next_new, put_fault}
use Rattle.jt_inherit.proofs.including.number_of.Goals as goal

pub returns-in-Some-clause-next : goal.returns-in-Some-clause-next
returns-in-Some-clause-next c =
    next_there (namespaces_view c.args.namespaces.now) (key_view c.args.namespace.now) c.in-Some.number c.requires.once
    c.requires.few c.in-Some.ensures

pub returns-in_err-put_new-clause-refused : goal.returns-in_err-put_new-clause-refused
returns-in_err-put_new-clause-refused c =
    passed_on _ c.from_residual.result c.from_residual.ensures.1
    (put_fault (namespaces_view c.args.namespaces.now) (key_view c.args.namespace.now)
    (string_bytes c.args.namespace.now.name) c.in_err-put_new.field-0.0
    c.requires.once c.in_default.ensures c.in_err-put_new.ensures.refused)

pub returns-clause-next : goal.returns-clause-next
returns-clause-next c = grind (arith, namespaces_view, length-map, key_view, next_new)
