use Rattle.jt_layout.proofs.collected.take_names.Goals as goal
use Rattle.std.proofs.lemmas.Map.Text.{btree_map_updates_str}
use Rattle.jt_layout.proofs.{None, arith, rules, string_bytes}

pub returns-in-Some-clause-others : goal.returns-in-Some-clause-others
returns-in-Some-clause-others c =
    search (
      arith,
      rules,
      btree_map_updates_str c.as_str.result.now c.args.collected.now c.remove.new.self None c.remove.ensures.updates,
      string_bytes c.args.namespace.now.name,
    )
