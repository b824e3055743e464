use Rattle.jt_bind.proofs
use proofs.{first_body, reads, parameters_in, numbered_of, cenv_in, order_in, namespace_in, globals_in, sym, ◌∙◌, arith}
use proofs.{rules, body_called, none_called, invoked_placed}
use Rattle.jt_bind.proofs.resolver.Resolver.block_called.Goals as goal

pub returns : goal.returns
returns c = search (arith, rules, body_called, invoked_placed)

pub returns-in_default : goal.returns-in_default
returns-in_default c = λ p.
    let s = c.args.self.now.tables.now in
    let es =
    reads (globals_in s) (parameters_in s c.args.name.now) in
    rw (← none_called (cenv_in s) (order_in s) (namespace_in s) c.args.self.now.senv.escaping
    (first_body (numbered_of (cenv_in s) (namespace_in s) c.args.name.now)) es
    (sym c.in_default.is ∙ c.in_ok-unit.ensures))
    (c.absent.ensures p)
