use Rattle.jt_names.proofs.index.set_entry.Goals as goal
use Rattle.std.proofs.lemmas.Map.Text.{btree_map_updates_str}

pub returns : goal.returns
returns g c = λ x.
    btree_map_updates_str c.args.name.now c.args.map.now c.insert.new.self _ c.in_ok-insert.ensures.updates x
