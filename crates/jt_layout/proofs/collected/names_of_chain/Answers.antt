use Rattle.jt_layout.proofs.collected.names_of_chain.Goals as goal
use Rattle.jt_names.proofs.FactsByIndex.{known_at}
use Rattle.std.proofs.lemmas.Result.{IfOk-weaker}
use Rattle.std.proofs.lemmas.List.{drop_all}
use Rattle.jt_layout.proofs.{texts, Global, Vec, ap, ◌∙◌, ◌≡◌, arith, rules, Bor, Text, namespace_in, its_cenv}
use Rattle.jt_layout.proofs.{all_stored, inserted_both, drop_more}

pub index-known-requires : goal.index-known-requires
index-known-requires c = omega (arith, c.requires.stands, c.args.facts.now.known.all)

pub loop-chain-preserved : goal.loop-chain-preserved
loop-chain-preserved c = search (arith, rules, inserted_both, drop_more)

pub returns : goal.returns
returns c =
    let chain = c.args.facts.now.chain.now in
    let known =
    known_at c.args.facts.now c.args.namespace c.index-known.result.now c.requires.stands c.index-known.ensures in
    IfOk-weaker c.list_of.result (λ (v : Vec (Bor Text) Global). v.items ≡ c.loop-chain.names.keys) _
    (λ v p. all_stored (its_cenv chain) _ (namespace_in chain c.args.namespace) c.args.behind.now c.requires.behind
    (texts c.deref-chain-items.result.now) _
    (ap texts c.deref-chain-items.ensures.value ∙ known.all_includes)
    (search (arith, rules, drop_all, c.new-names.ensures.empty, known.names, c.deref.ensures.value)))
    c.list_of.ensures
