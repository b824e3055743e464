use Rattle.jt_chains.proofs.TemplatesByIndex.{namespace_indices}
use Rattle.jt_inherit.proofs.ChainsChecked.{own_templates}
use Rattle.jt_inherit.proofs.rules.indices_of.Goals as goal

pub returns-clause-indices : goal.returns-clause-indices
returns-clause-indices c =
    namespace_indices c.args.chain.now c.args.namespace c.index.result.now c.deref.result.now c.deref.ensures.value
    c.requires c.index.ensures

pub returns-clause-own : goal.returns-clause-own
returns-clause-own c =
    own_templates c.args.chain.now c.args.namespace c.index.result.now c.deref.result.now c.deref.ensures.value
    c.requires c.index.ensures
