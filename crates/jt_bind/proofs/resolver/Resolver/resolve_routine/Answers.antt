use Rattle.jt_bind.proofs
use proofs.{body_view, Bor, Text, texts, inside_of, templates_of, scoped_of, sym, ◌∙◌, length-map, locals_same}
use proofs.{routine_made}
use Rattle.jt_bind.proofs.resolver.Resolver.resolve_routine.Goals as goal

pub returns : goal.returns
returns c =
    let r = c.args.self.now in
    let T = templates_of r in
    let names = c.args.parameters in
    let whole = scoped_of r (body_view c.args.body.now) (inside_of r (texts names.items)) in
    let body = c.resolve_within.new.done in
    let emitted = rw c.new-done.ensures.items at c.in_ok-resolve_within.ensures in
    let count = c.len-count.ensures ∙ names.ok.0 ∙ sym (length-map names.items (λ (k : Bor Text). k.now)) in
    let locals = locals_same T whole body.items _ _ c.in_ok-body_locals.field-0 emitted
    (rw (← c.deref.ensures.value) (c.in_ok-body_locals.ensures T)) in
    routine_made T _ _ whole body _ _ _ _ emitted count (rw (c.max-locals.ensures, count, locals))
