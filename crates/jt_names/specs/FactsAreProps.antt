-- Two proofs that facts are those of a chain are equal, so that a type can keep that they are.
use Rattle.std.specs.Prelude.{ℕ, List}
use Rattle.std.specs.Coded.{Coded, Coded-set, codes}
use Rattle.jt_chains.specs.declared.chain.Chain.{Chain}
use Rattle.jt_names.specs.TreeCode as trees
use Rattle.jt_uses.specs.Uses.{Site, Use}
use Rattle.jt_names.specs.FactsOfChains.{AllKnown, IsKnown}
use Rattle.jt_names.specs.FactsOfTemplates.{IsKnownTemplate}
use Rattle.jt_names.specs.declared.facts.NamespaceFacts.{NamespaceFacts}
use Rattle.jt_names.specs.declared.templates.TemplateFacts.{TemplateFacts}

coded_use : Coded Use
coded_use =
    hlevel (codes, trees.coded_expr, trees.coded_exprs, trees.coded_pairs, trees.coded_parameter, trees.coded_body)

coded_site : Coded Site
coded_site = hlevel (codes, coded_use)

template_prop : (c : Chain) (i : ℕ) (f : TemplateFacts) → IsProp (IsKnownTemplate c i f)
template_prop c i f = hlevel (codes, Coded-set, coded_site, trees.coded_macro, trees.coded_block)

namespace_prop : (c : Chain) (i : ℕ) (f : NamespaceFacts) → IsProp (IsKnown c i f)
namespace_prop c i f = hlevel (codes, Coded-set, trees.coded_macro, trees.coded_block, trees.coded_definition)

pub is_prop : (c : Chain) (ts : List TemplateFacts) (fs : List NamespaceFacts) → IsProp (AllKnown c ts fs)
is_prop c ts fs = hlevel (codes, Coded-set, template_prop, namespace_prop)
