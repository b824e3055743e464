use Rattle.jt_inherit.proofs.Vocabulary as words
use words.{◌≡◌, refl, sym, ap, ◌∙◌, graph_of, namespace_at, leads_to, found_namespaces, test_of}
use Rattle.jt_inherit.proofs.ChainComplete.{way_at}
use Rattle.jt_inherit.proofs.discovery.leading_tag.Goals as goal

pub returns : goal.returns
returns c =
    let f = c.args.found.now in
    let is = c.deref-2.result.now in
    let ways = graph_of f.extends_paths.items in
    let here = way_at f.extends_paths.items f.extends_paths.items c.args.from c.index.result.now is refl
    c.requires.from c.index.ensures c.deref-2.ensures.value in
    let test = test_of c.wanted_for-wanted.result in
    let wanted : test ≡ leads_to (namespace_at (found_namespaces f) c.args.to) =
    c.wanted_for-wanted.ensures
    ∙ ap leads_to (sym (rw c.get.ensures)) in
    let r = c.first_at.result in
    rw (← wanted) (rw here.1 (rw c.deref.ensures.value at c.first_at.ensures))
