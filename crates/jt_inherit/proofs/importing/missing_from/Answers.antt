use Rattle.jt_inherit.proofs.Vocabulary.{◌≡◌, true, ap, sym, subst, ◌∙◌, Text, ForSome, given_view, binds_macro, map_at}
use Rattle.jt_inherit.proofs.Vocabulary.{string_bytes, or_left, lacks, String, Global}
use Rattle.jt_chains.specs.Rules.{lacks_one}
use Rattle.jt_chains.specs.View.{its_sources}
use Rattle.jt_uses.specs.Uses.{macros_bound}
use Rattle.jt_inherit.proofs.BodyRules.{from_here}
use Rattle.jt_inherit.proofs.RulesHaveTags.{bound_at}
use Rattle.jt_inherit.proofs.importing.missing_from.Goals as goal

pub returns-then-lacks_macro : goal.returns-then-lacks_macro
returns-then-lacks_macro c =
    let s = its_sources c.args.chain.now in
    let n = c.args.library.now in
    let xs = c.args.macros.now in
    let k = c.loop-name.name-index in
    let x = c.loop-name-item.result in
    let lt = c.loop-name-test.true in
    let given : String Global × String Global → Text × Text = λ y. (string_bytes y.0, string_bytes y.1) in
    let called : c.as_str.result.now ≡ string_bytes x.0 = c.as_str.ensures.value in
    let told : lacks s n (string_bytes x.0) ≡ true =
    let found = c.lacks_macro.ensures in
    let yes = c.if-lacks_macro.true in
    let name = c.deref.ensures in
    cc in (
      c.loop-name.invariant
          ∙ (ap (λ l. lacks_one s n (given_view l)) (from_here xs k x lt c.loop-name-item.is) ∙ or_left _ _ told),
      subst (λ y. lacks s n y ≡ true) (sym called) told,
      λ p.
          subst (λ y. ForSome (λ t. binds_macro n y t.made ≡ true) (macros_bound n (given_view xs) p)) (sym called)
          (bound_at n (given_view xs) k (given x) p (map_at given xs k x lt c.loop-name-item.is)),
    )
