use Rattle.jt_inherit.proofs.Vocabulary.{◌≡◌, ◌≤◌, map, subst, sym, ap, ◌∙◌, rules, tests, texts, repeated, map-map}
use Rattle.jt_inherit.proofs.Vocabulary.{IsNameOf, times}
use Rattle.jt_inherit.proofs.Vocabulary.{YieldsList-from_map_by, YieldsList-from_slice}
use Rattle.std.proofs.lemmas.Iterator.Consumers.{map_from_collect}
use Rattle.std.proofs.lemmas.Result.{IfOk-weaker}
use Rattle.std.specs.Prelude.{IfOk}
use Rattle.jt_chains.specs.Named.{named_view}
use Rattle.jt_inherit.proofs.rules.repeated_definition.Goals as goal

pub returns : goal.returns
returns c =
    let told : IfOk c.collect.result (λ v. texts v.items ≡ map (λ b. b.name.now) c.args.defined.now) =
    map_from_collect _ c.collect.ensures.ran (YieldsList-from_map_by _ (λ r. r.now) (λ b. b.name.now)
    (YieldsList-from_slice c.args.defined.now cc) c.map.ensures.closure (λ x r q k. search (rules, tests))) in
    let seen = (rw c.in_ok-names.was at told) in
    IfOk-weaker c.repeated.result _ _
    (λ found e ts h. subst (λ l. IsNameOf (repeated l) (λ x. 2 ≤ times x l) found)
    (ap texts c.deref.ensures.value ∙ seen ∙ sym (map-map (λ g. g.0) (named_view ts h) c.args.defined.now)) e)
    c.repeated.ensures
