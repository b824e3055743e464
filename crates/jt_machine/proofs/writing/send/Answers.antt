use Rattle.jt_machine.proofs.Vocabulary.{prefixed, config_view, outer_view, on_ok_weaker, slice_set, string_bytes}
use Rattle.std.proofs.Common.{◌∷◌, List, ℕ, ap, subst, sym, ◌∙◌}
use Rattle.jt_machine.specs.Sinks.{HasPut}
use Rattle.jt_machine.proofs.DrainedOutput.{outer_is, outer_emptied, with_buffers}
use Rattle.jt_machine.proofs.writing.send.Goals as goal

pub returns-in-Some-clause-put : goal.returns-in-Some-clause-put
returns-in-Some-clause-put g c =
    let e = outer_is (string_bytes c.args.state.now.buffer) c.args.state.now.outer.items c.in-Some.outermost.now
    c.in-Some.ensures.item.3.0 c.in-Some.ensures.value in
    subst
    (λ (bytes : List ℕ). HasPut c.drain.result bytes (g.W.Sink.taken c.args.sink.now) (g.W.Sink.taken c.drain.new.sink))
    (sym e) c.drain.ensures.put

pub returns-in-Some-clause-emptied : goal.returns-in-Some-clause-emptied
returns-in-Some-clause-emptied g c =
    let b = string_bytes c.args.state.now.buffer in
    let items = c.args.state.now.outer.items in
    let s = c.in-Some.outermost.now in
    let e = outer_is b items s c.in-Some.ensures.item.3.0 c.in-Some.ensures.value in
    on_ok_weaker c.drain.result
    (λ z. ap (with_buffers (config_view c.args.state.now))
    (ap (λ (w : List ℕ). prefixed w (b ∷ outer_view (slice_set items 0 c.drain.new.buffer))) e
    ∙ outer_emptied b items s c.drain.new.buffer c.in-Some.ensures.item.3.0 c.in-Some.ensures.value z))
    c.drain.ensures.emptied
