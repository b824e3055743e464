use Rattle.jt_chains.proofs.files.put.Goals as goal
use Rattle.std.specs.Str.{bytes_eq}
use Rattle.std.proofs.lemmas.Map.Text.{btree_map_updates_text}
use Rattle.jt_chains.proofs.{if◌then◌else◌, string_bytes, ap, ◌∙◌, Some, get_by_text}

pub returns : goal.returns
returns c = λ x.
    let key = c.in_ok-from_str.field-0 in
    btree_map_updates_text (string_bytes key) c.args.table.now c.insert.new.self (Some c.args.index)
    c.in_ok-insert.ensures.updates x
    ∙ ap (λ b. if bytes_eq b x then Some c.args.index else get_by_text c.args.table.now x) c.in_ok-from_str.ensures.ok
