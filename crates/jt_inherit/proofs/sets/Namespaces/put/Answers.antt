use Rattle.jt_inherit.proofs.Vocabulary.{false, true, Some, string_bytes, ◌∙◌, arith, btree_map_updates_text}
use Rattle.jt_inherit.proofs.NumberTables.{namespace_put, pushed}
use Rattle.jt_inherit.proofs.sets.Namespaces.put.Goals as goal

pub invariant_of-self-then-namespace : goal.invariant_of-self-then-namespace
invariant_of-self-then-namespace c =
    let s = c.args.self.now in
    let all = pushed c.push.result c.reserve.new.self.items s.items.items c.push.new.self.items c.args.namespace
    c.push.ensures.items (c.push.ensures.succeeds (omega (arith, c.in_ok-reserve.ensures.ok)))
    c.in_ok-reserve.ensures.items in
    let put = namespace_put true s.items.items _ c.args.namespace s.libraries c.insert.new.self s.chains _
    c.len-number.result s.libraries_numbered s.chains_numbered c.if-namespace.true c.requires all
    (c.in_ok-name.ensures.ok ∙ c.deref.ensures) (omega (arith, c.len-number.ensures, s.items.ok.0))
    (btree_map_updates_text (string_bytes c.in_ok-name.name) s.libraries c.insert.new.self (Some c.len-number.result)
    c.in_ok-insert.ensures.updates) in
    record { chains_numbered = put.1; libraries_numbered = put.0 }

pub invariant_of-self-2 : goal.invariant_of-self-2
invariant_of-self-2 c =
    let s = c.args.self.now in
    let all = pushed c.push-2.result c.reserve.new.self.items s.items.items c.push-2.new.self.items c.args.namespace
    c.push-2.ensures.items (c.push-2.ensures.succeeds (omega (arith, c.in_ok-reserve.ensures.ok)))
    c.in_ok-reserve.ensures.items in
    let put = namespace_put false s.items.items _ c.args.namespace s.chains c.insert-2.new.self s.libraries _
    c.len-number.result s.chains_numbered s.libraries_numbered c.if-namespace.false c.requires all
    (c.in_ok-name.ensures.ok ∙ c.deref.ensures) (omega (arith, c.len-number.ensures, s.items.ok.0))
    (btree_map_updates_text (string_bytes c.in_ok-name.name) s.chains c.insert-2.new.self (Some c.len-number.result)
    c.in_ok-insert-2.ensures.updates) in
    record { chains_numbered = put.0; libraries_numbered = put.1 }
