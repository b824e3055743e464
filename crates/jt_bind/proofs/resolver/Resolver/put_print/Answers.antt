use Rattle.jt_bind.proofs
use proofs.slots
use proofs.{expr_view, IfOk-weaker, print_emitted, required_placed}
use Rattle.jt_bind.proofs.resolver.Resolver.put_print.Goals as goal

pub returns : goal.returns
returns c =
    IfOk-weaker c.put_filtered.result _ _ (λ u h. λ k p q g.
    let required = c.args.required in
    print_emitted c.args.self.now c.args.line (slots.required_if required k)
    (record { value = c.args.shown; filters = c.new.result; required = required }) _ _ p q
    (rw c.new.ensures.items (required_placed required k (expr_view c.args.shown) p q g)) h) c.put_filtered.ensures
