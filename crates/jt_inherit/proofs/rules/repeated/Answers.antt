use Rattle.jt_inherit.proofs.Vocabulary.{[], get_or, sym, ◌∙◌, get_or_default, Bor, Text, not-true, not-false, ◌≡◌}
use Rattle.jt_inherit.proofs.Vocabulary.{Some, texts}
use Rattle.jt_names.specs.Names.{first_of}
use Rattle.jt_inherit.proofs.BodyRules.{repeat_counted, repeat_found, repeat_goes, index_is, index_not}
use Rattle.jt_inherit.proofs.rules.repeated.Goals as goal

pub returns-then-ne : goal.returns-then-ne
returns-then-ne c =
    let xs = c.args.names.now in
    let i = c.loop-index.index in
    let none : Bor Text = record { ref_ptr = (0, 0); now = [] } in
    let x = get_or xs i none in
    let at = get_or_default xs i none x c.loop-index-test.true in
    let again : first_of x.now 0 (texts xs) ≡ Some i → ⊥ =
    λ e. index_not _ _ (not-true _ (sym c.if-ne.ensures)) (c.index_of.ensures ∙ c.in_ok-firsts.ensures x.now ∙ e) in (
      repeat_found xs i x c.loop-index-test.true at (λ (r : Bor Text). r.now) again,
      repeat_counted xs i x c.loop-index-test.true at (λ (r : Bor Text). r.now) again,
    )

pub loop-index-preserved : goal.loop-index-preserved
loop-index-preserved c =
    let xs = c.args.names.now in
    let i = c.loop-index.index in
    let none : Bor Text = record { ref_ptr = (0, 0); now = [] } in
    let x = get_or xs i none in
    repeat_goes xs i x c.loop-index-test.true (get_or_default xs i none x c.loop-index-test.true)
    (λ (r : Bor Text). r.now)
    (sym (c.in_ok-firsts.ensures x.now) ∙ sym c.index_of.ensures ∙ index_is _ _ (not-false _ (sym c.if-ne.ensures)))
    c.loop-index.invariant
