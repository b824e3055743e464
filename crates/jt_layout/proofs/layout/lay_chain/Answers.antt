use Rattle.jt_semantics.specs.Layout as layout
use Rattle.jt_layout.proofs.layout.lay_chain.Goals as goal
use Rattle.jt_names.proofs.FactsByIndex.{known_at}
use Rattle.jt_layout.proofs.{macros, ap, length, sym, ◌+◌, ◌∙◌, ◌≡◌, all_bodies}
use Rattle.jt_layout.proofs.{its_templates, arith, rules, length-map}
use Rattle.jt_layout.proofs.{name_of_namespace, block_view, macro_view, namespace_in, nexts, its_cenv}
use Rattle.jt_layout.proofs.{its_order, first_bodies, in_slots, length-counted, length-nexts, next_at, body_units}
use Rattle.jt_layout.proofs.{chain_unit, first_here, entries, front_turn, is_called, known_here, new_here}
use Rattle.jt_layout.proofs.{scoped_laid}
use Rattle.jt_layout.proofs.{slot_here}

pub index-known-requires : goal.index-known-requires
index-known-requires c = omega (arith, c.requires.stands, c.args.facts.now.known.all)

pub returns : goal.returns
returns c =
    let a = c.args.facts.now.chain.now in
    let i = c.args.namespace in
    let f = c.args.front in
    let ts = its_templates a in
    let known = c.index-known.result.now in
    let W = its_cenv a in
    let O = its_order a in
    let h = namespace_in a i in
    let lt = c.requires.stands in
    let facts = known_at c.args.facts.now i known lt c.index-known.ensures in
    let s = first_here a i lt f c.requires.front in
    let macro_count : length known.macros.items ≡ length (macros W.sources h) =
    omega (arith, length-map known.macros.items (macro_view ts), ap length facts.all_macros) in
    let body_count : length known.blocks.items ≡ length (all_bodies W.sources W.escaping h) =
    omega (arith, length-map known.blocks.items (block_view ts), ap length facts.all_blocks) in
    let defaults = rw c.deref-4.ensures.value at c.in_ok-defaults.ensures.indexed ts in
    let k = c.index-itself.result.now in
    let is = name_of_namespace a.namespaces.items i k lt c.index-itself.ensures in
    let macro_unit : c.in_ok-macro_unit.macro_unit ≡ f.unit + length (layout.entry_keys W h) =
    omega
    (arith, c.in_ok-macro_unit.ensures, c.from.ensures, entries W k, ap (λ z. length (layout.entry_keys W z)) is) in
    let unit : c.in_ok-body_unit.body_unit
    ≡ f.unit + (length (layout.entry_keys W h) + length (macros W.sources h)) =
    omega (arith, c.in_ok-body_unit.ensures, c.len.ensures, known.macros.ok.0, macro_count) in
    let nexts_are : c.in_ok-next_bodies.next_bodies.items ≡ nexts (layout.numbered_bodies W h) =
    rw (c.deref-5.ensures.value, facts.all_blocks) at (c.in_ok-next_bodies.ensures ts) in
    record {
      namespace_layout = record {
        kind = search (arith, rules, is);
        named = c.requires.named;
        in_slots =
            λ x. search (arith, rules, in_slots, slot_here s, c.in_ok-slots.ensures x, c.deref.ensures.value);
        from = sym (slot_here s);
        chain_unit = chain_unit s;
        all_macros = facts.all_macros;
        by_names =
            λ x. is_called s ts _ facts.all_macros defaults macro_unit x _
            (rw (c.deref-3.ensures.value, c.in_ok-macros.ensures, c.deref-2.ensures.value)
            at (c.in_ok-called.ensures x));
        all_given = facts.all_given;
        all_blocks = facts.all_blocks;
        body_units = λ k under. body_units s ts known.blocks.items facts.all_blocks _ k unit under;
        firsts = λ x. facts.first_bodies x ∙ first_bodies x 0 (all_bodies W.sources W.escaping h);
        nexts =
            λ k n e b cs d. next_at (layout.numbered_bodies W h) k n (rw nexts_are at e) (k, b) cs d;
        all_next = search (arith, rules, nexts_are, length-nexts, length-counted, body_count);
        scoped = λ x. scoped_laid s (known_here a i lt) x _ _
            (rw (c.deref-6.ensures.value, facts.all_blocks) at (c.in_ok-scoped.ensures ts x))
            facts.scope_names;
      };
      behind =
          front_turn s (new_here a i lt) _
          (omega (
            arith,
            c.in_ok-checked_sum.ensures,
            c.len-2.ensures,
            c.args.names.ok.0,
            length-map c.args.names.items (λ k. k.now),
            ap length c.requires.named,
          ))
          (omega (arith, unit, c.in_ok-checked_sum-2.ensures, c.len-3.ensures, known.blocks.ok.0, body_count))
          (rw (c.deref-4.ensures.value, facts.all_macros) at (c.in_ok-defaults.ensures.ended ts));
    }
