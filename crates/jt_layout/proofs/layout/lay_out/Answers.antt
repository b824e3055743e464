use Rattle.jt_semantics.specs.Layout as layout
use Rattle.jt_layout.proofs.layout.lay_out.Goals as goal
use Rattle.jt_names.proofs.EachItem.{each_pushed}
use Rattle.std.proofs.lemmas.List.{at_drop_all}
use Rattle.jt_layout.proofs.{ap, drop, length, sym, ◌<◌, ◌∙◌, a_chain, listed, same_namespace, arith, rules}
use Rattle.jt_layout.proofs.{string_bytes, length-map, flat_map, name_of_namespace, namespace_view, namespace_in}
use Rattle.jt_layout.proofs.{IsLaidAt, names_at, its_cenv, its_order, left_turn, listed_left, names_handed}
use Rattle.jt_layout.proofs.{is_namespace, ◌≡◌}

pub lay_chain-requires : goal.lay_chain-requires
lay_chain-requires c =
    let a = c.args.facts.now.chain.now in
    let l = c.loop-namespace in
    let lt : l.namespace < length a.namespaces.items = omega (arith, a.namespaces.ok.0) in
    let k = c.index.result.now in
    let is = name_of_namespace a.namespaces.items l.namespace k lt c.index.ensures in
    record {
      stands = lt;
      named = c.take_names-names.ensures.taken
          ∙ names_handed (its_cenv a) (its_order a) k.is_library (string_bytes k.name) (namespace_in a l.namespace)
          (names_at l.collected) is
          (λ x u. l.invariant.left x
          (ap (λ h. listed h (drop l.namespace (its_order a))) (sym u) ∙ listed_left a l.namespace lt));
      front = l.invariant.stands;
    }

pub loop-namespace-init : goal.loop-namespace-init
loop-namespace-init c = search (arith, rules)

pub loop-namespace-preserved : goal.loop-namespace-preserved
loop-namespace-preserved c =
    let a = c.args.facts.now.chain.now in
    let l = c.loop-namespace in
    let lt : l.namespace < length a.namespaces.items = omega (arith, a.namespaces.ok.0) in
    let is = name_of_namespace a.namespaces.items l.namespace c.index.result.now lt c.index.ensures in
    let pushed = each_pushed (IsLaidAt a) l.namespaces.items c.in_ok-laid.laid l.namespace
    c.in_ok-push.ensures.items l.invariant.all l.invariant.each c.in_ok-laid.ensures.namespace_layout in
    record {
      stands = c.in_ok-laid.ensures.behind;
      left = λ x u.
          let other = left_turn a l.namespace lt (a_chain x) u in
          c.take_names-names.ensures.others x (ap (λ h. same_namespace h (a_chain x)) (sym is) ∙ other.0)
          ∙ l.invariant.left x other.1;
      all = pushed.0;
      each = pushed.1;
    }

pub returns-clause-namespace_layout : goal.returns-clause-namespace_layout
returns-clause-namespace_layout c =
    let a = c.args.facts.now.chain.now in
    let l = c.loop-namespace in
    let all : length a.namespaces.items ≡ l.namespace = omega (arith, a.namespaces.ok.0) in
    let units : l.front.unit ≡ length (layout.keys (its_cenv a) (its_order a)) =
    omega (
      arith,
      l.invariant.stands.all,
      at_drop_all (λ hs. length (flat_map (layout.chain_keys (its_cenv a)) hs)) (its_order a) l.namespace (omega (
        arith,
        length-map a.namespaces.items namespace_view,
      )),
    ) in
    grind (arith, length-map, is_namespace)
