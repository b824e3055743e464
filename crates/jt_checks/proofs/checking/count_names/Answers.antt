use Rattle.jt_checks.proofs.checking.count_names.Goals as goal
use Rattle.jt_checks.proofs.{name_of_namespace, arith, rules, drop_all, length-map}

pub returns : goal.returns
returns c =
    let chain = c.args.scope.now.facts.now.chain.now in
    let is = name_of_namespace chain.namespaces.items c.args.scope.now.namespace c.index.result.now
    c.args.scope.now.stands c.index.ensures in
    search (arith, rules, drop_all, length-map, is)
