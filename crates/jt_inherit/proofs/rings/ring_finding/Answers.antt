use Rattle.jt_inherit.proofs.Vocabulary as words
use words.{◌∙◌, ℕ, map, refl, ap, arith, rules, Vec, Global, length-map, graph_of, found_namespaces, found_paths}
use words.{name_at, found_templates, leading_at, namespace_at}
use Rattle.jt_inherit.proofs.FindingsHold.{last_item, ring_within}
use Rattle.jt_inherit.proofs.rings.ring_finding.Goals as goal

pub leading_tag-requires-clause-from : goal.leading_tag-requires-clause-from
leading_tag-requires-clause-from c =
    let r = c.args.ring.now in
    omega (
      arith,
      (ring_within (graph_of c.args.found.now.next.items) r.first r.others.items r.first c.requires.ring).2,
      last_item r.first r.others.items,
      c.last_of-last.ensures,
      length-map c.args.found.now.next.items (λ (v : Vec ℕ Global). v.items),
      c.requires.all.next,
      c.requires.all.paths,
    )

pub leading_tag-requires-clause-to : goal.leading_tag-requires-clause-to
leading_tag-requires-clause-to c = search (arith, rules, length-map, ring_within)

pub name_of-requires : goal.name_of-requires
name_of-requires c = search (arith, rules, length-map, ring_within)

pub names_of-requires : goal.names_of-requires
names_of-requires c =
    let f = c.args.found.now in
    let r = c.args.ring.now in
    rw c.deref.ensures.value
    (rw (← (length-map f.next.items (λ (v : Vec ℕ Global). v.items) ∙ c.requires.all.next))
    (ring_within (graph_of f.next.items) r.first r.others.items r.first c.requires.ring).1)

pub returns : goal.returns
returns c =
    let f = c.args.found.now in
    record {
      error = refl;
      place =
          c.in_ok-place.ensures
          ∙ ap
          (leading_at (found_templates f) (found_paths f) (namespace_at (found_namespaces f) c.args.ring.now.first))
          c.last_of-last.ensures;
      subject = (
        _,
        _,
        refl,
        c.in_ok-name.ensures,
        c.in_ok-rest.ensures ∙ ap (map (name_at (found_namespaces f))) c.deref.ensures.value,
      );
    }
