use Rattle.jt_inherit.proofs.Vocabulary.{◌≡◌, ◌-◌, not, sym, ap, ◌∙◌, arith, rules, drop, subst, blocks_view, is_some}
use Rattle.jt_inherit.proofs.Vocabulary.{both_ways, bytes_eq, false}
use Rattle.jt_inherit.proofs.BodyRules.{HaveNext, all_next, has_given, given_goes, given_put, given_kept, next_found}
use Rattle.jt_inherit.proofs.BodyRules.{next_goes, next_lacks}
use Rattle.jt_names.specs.Names.{value_in}
use goal.{else-is_none-via-then-is_none+else-calls_super, else-is_none-via-else-is_none}
use Rattle.jt_inherit.proofs.rules.lacking_next.Goals as goal

pub returns-then-calls_super : goal.returns-then-calls_super
returns-then-calls_super c =
    λ ts.
    let l = c.loop-left in
    let x = c.index-blocks-left.result in
    let lt = c.loop-left-test.true in
    let within = l.invariant.within in
    let none : has_given x.name.now (blocks_view ts (drop l.left c.args.blocks.now)) ≡ false =
    sym (l.invariant.noted ts x.name.now) ∙ ap is_some (sym c.index_of.ensures) ∙ c.is_none.ensures
    ∙ ap not c.if-is_none.true in
    let calls = sym c.calls_super.ensures ∙ c.if-calls_super.true in (
      next_found ts c.args.blocks.now l.left _ x (omega arith) c.index-blocks-left.is (omega arith) none calls,
      next_lacks ts c.args.blocks.now l.left _ x (omega arith) c.index-blocks-left.is (omega arith) none calls,
    )

pub loop-left-preserved-in-Continue-1 : goal.loop-left-preserved-in-Continue-1
loop-left-preserved-in-Continue-1 c =
    let l = c.loop-left in
    let x = c.index-blocks-left.result in
    let lt = c.loop-left-test.true in
    let within = l.invariant.within in
    record {
      within = omega arith;
      noted = λ ts y.
          given_goes ts c.args.blocks.now l.left _ x (omega arith) c.index-blocks-left.is (omega arith) _ _ y
          (l.invariant.noted ts y)
          (given_put (value_in l.given.indices y) (value_in c.put.new.self.indices y) (bytes_eq x.name.now y) x.required
          (l.left - 1) (c.in_ok-put.ensures y) (search (arith, rules)));
      next = λ ts.
          next_goes ts c.args.blocks.now l.left _ x (omega arith) c.index-blocks-left.is (omega arith)
          (λ n. elim c.else-is_none.branch [
            | else-is_none-via-then-is_none+else-calls_super w ↦ sym w.calls_super.ensures ∙ w.if-calls_super.false
            | else-is_none-via-else-is_none w ↦ absurd (both_ways _ n (sym (l.invariant.noted ts x.name.now)
                ∙ ap is_some (sym c.index_of.ensures) ∙ c.is_none.ensures ∙ ap not w.if-is_none.false))
          ])
          (l.invariant.next ts);
    }

pub loop-left-preserved : goal.loop-left-preserved
loop-left-preserved c =
    let l = c.loop-left in
    let x = c.index-blocks-left.result in
    let lt = c.loop-left-test.true in
    let within = l.invariant.within in
    record {
      within = omega arith;
      noted = λ ts y.
          given_goes ts c.args.blocks.now l.left _ x (omega arith) c.index-blocks-left.is (omega arith) _ _ y
          (l.invariant.noted ts y) (given_kept _ (bytes_eq x.name.now y) x.required (search (arith, rules)));
      next = λ ts.
          next_goes ts c.args.blocks.now l.left _ x (omega arith) c.index-blocks-left.is (omega arith)
          (λ n. elim c.else-is_none.branch [
            | else-is_none-via-then-is_none+else-calls_super w ↦ sym w.calls_super.ensures ∙ w.if-calls_super.false
            | else-is_none-via-else-is_none w ↦ absurd (both_ways _ n (sym (l.invariant.noted ts x.name.now)
                ∙ ap is_some (sym c.index_of.ensures) ∙ c.is_none.ensures ∙ ap not w.if-is_none.false))
          ])
          (l.invariant.next ts);
    }

pub returns : goal.returns
returns c =
    λ ts.
    let l = c.loop-left in
    let le = c.loop-left-test.false in
    let none : l.left ≡ 0 = omega arith in
    all_next (blocks_view ts c.args.blocks.now)
    (subst (λ k. HaveNext (blocks_view ts (drop k c.args.blocks.now))) none (l.invariant.next ts))
