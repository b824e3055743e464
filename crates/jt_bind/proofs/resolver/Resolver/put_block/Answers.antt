use Rattle.jt_bind.proofs
use proofs.{absent, if◌then◌else◌, Table, numbered_of, first_body, cenv_in, order_in, namespace_in, globals_in, senv_of}
use proofs.{table_of, templates_of, sym, ◌∙◌, IfOk-weaker, emits_of, run_emitted, block_run, block_absent}
use Rattle.jt_bind.proofs.resolver.Resolver.put_block.Goals as goal

pub returns : goal.returns
returns c =
    let r = c.args.self.now in
    let s = r.tables.now in
    let name = c.args.name.now in
    let table : Table = if c.args.scoped then table_of r else globals_in s in
    IfOk-weaker c.put_run.result _ _ (λ u h line required body p. emits_of (templates_of r) _ _ _ _ _ _
    (block_run (cenv_in s) (order_in s) (senv_of r) (first_body (numbered_of (cenv_in s) (namespace_in s) name)) name
    table c.in-Some.unit (sym c.in-Some.is ∙ c.in_ok-unit.ensures))
    (run_emitted (templates_of r) _ _ _ _ _ p p (rw (c.seen_by.ensures s) at (c.in_ok-row.ensures p)) h))
    c.put_run.ensures

pub returns-in_default : goal.returns-in_default
returns-in_default c =
    let r = c.args.self.now in
    let s = r.tables.now in
    let name = c.args.name.now in
    let table : Table = if c.args.scoped then table_of r else globals_in s in
    IfOk-weaker c.put_print.result _ _ (λ u h line required body p. emits_of (templates_of r) _ _ _ _ _ _
    (block_absent (cenv_in s) (order_in s) (senv_of r) (first_body (numbered_of (cenv_in s) (namespace_in s) name)) name
    table (sym c.in_default.is ∙ c.in_ok-unit.ensures))
    (h absent p p (c.absent.ensures p))) c.put_print.ensures
