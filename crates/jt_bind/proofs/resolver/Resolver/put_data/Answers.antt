use Rattle.jt_value.specs.Tree as tree
use Rattle.jt_bind.proofs.{view, values, templates_of, sym, ◌∙◌, length-map, data_emitted, map-append}
use Rattle.jt_bind.proofs.resolver.Resolver.put_data.Goals as goal

pub returns : goal.returns
returns c =
    data_emitted (templates_of c.args.self.now) (tree.text c.args.text.now) c.len-index.result c.args.done.now.items
    c.push-2.new.self.items (values c.args.pool.now) (values c.push.new.self)
    (c.len-index.ensures ∙ c.args.pool.now.ok.0 ∙ sym (length-map c.args.pool.now.items view))
    (rw (c.in_ok-push.ensures.items, map-append, c.in_ok-text.ensures)) c.in_ok-push-2.ensures.items
