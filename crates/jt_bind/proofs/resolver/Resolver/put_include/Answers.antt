use Rattle.jt_ast.specs.Statements as trees
use Rattle.jt_bind.proofs
use proofs.{none, refl, [], is_ignored, passes_context, first_slot, names, a_chain, texts, cenv_in, order_in}
use proofs.{templates_of, stmt_of, sym, ap, ◌∙◌, IfOk-weaker, emits_of, emits_both, run_emitted, no_row, absent_names}
use proofs.{absent_unit, include_shown, include_missing}
use Rattle.jt_bind.proofs.resolver.Resolver.put_include.Goals as goal

pub returns-in_default : goal.returns-in_default
returns-in_default c =
    let r = c.args.self.now in
    let cenv = cenv_in r.tables.now in
    let order = order_in r.tables.now in
    let x = c.args.name.now in
    let absent = rw c.in_default.is at c.chain_index.ensures in
    IfOk-weaker c.put_run.result _ _ (λ u h p. emits_of (templates_of r) _ _ _ _ _ _
    (include_shown r c.args.line x (is_ignored c.args.missing) (passes_context c.args.names)
    (first_slot cenv order (a_chain x)) [] c.units.result (sym c.is_missing.ensures ∙ c.if-is_missing.false) refl
    (sym (absent_names cenv order (a_chain x) absent)) (c.units.ensures ∙ sym (absent_unit cenv order x absent)))
    (run_emitted (templates_of r) _ none _ _ _ p p (no_row _ c.new.ensures.items p) h)) c.put_run.ensures

pub returns : goal.returns
returns c =
    let r = c.args.self.now in
    let cenv = cenv_in r.tables.now in
    let order = order_in r.tables.now in
    let x = c.args.name.now in
    let chain = c.at-there.result.now in
    let is = (rw c.in-Some.is at c.chain_index.ensures).1 in
    let laid = c.at-there.ensures in
    IfOk-weaker c.put_run-2.result _ _ (λ u h p. emits_of (templates_of r) _ _ _ _ _ _
    (include_shown r c.args.line x (is_ignored c.args.missing) c.passes_context.result chain.first_slot
    (texts chain.names.items) chain.unit (sym c.is_missing.ensures ∙ c.if-is_missing.false)
    (laid.from ∙ ap (first_slot cenv order) is) (laid.named ∙ ap (names cenv order) is) (laid.chain_unit x is)
    ∙ ap (λ seen. stmt_of r (trees.include c.args.line x (is_ignored c.args.missing) seen)) c.passes_context.ensures)
    (emits_both (templates_of r) _ _ _ _ _ _ _ _ (rw c.deref.ensures.value at (c.in_ok-put_values.ensures p))
    (run_emitted (templates_of r) _ none _ _ _ p p (no_row _ c.new-2.ensures.items p) h)))
    c.put_run-2.ensures

pub returns-then-is_missing : goal.returns-then-is_missing
returns-then-is_missing c =
    let r = c.args.self.now in
    let x = c.args.name.now in
    IfOk-weaker c.put_missing.result _ _ (λ u h p. emits_of (templates_of r) _ _ _ _ _ _
    (include_missing r c.args.line x c.is_ignored.result (passes_context c.args.names)
    (sym c.is_missing.ensures ∙ c.if-is_missing.true)
    ∙ ap (λ ignored. stmt_of r (trees.include c.args.line x ignored (passes_context c.args.names)))
    c.is_ignored.ensures) (h p)) c.put_missing.ensures
