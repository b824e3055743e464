use Rattle.std.proofs.Common.{◌-◌, Some, string_bytes, sym, ap, ◌∙◌, arith}
use Rattle.std.proofs.lemmas.Map.Text.{btree_map_updates_text}
use Rattle.jt_value.proofs.KeyIndices.{kept_more}
use Rattle.jt_value.proofs.Lists.{Pair}
use Rattle.jt_value.proofs.key_search.first_indices.Goals as goal

pub loop-left-preserved : goal.loop-left-preserved
loop-left-preserved c =
    let i = c.loop-left.left - 1 in
    let name = string_bytes c.in_ok-name.name in
    let old = c.loop-left.indices in
    let new = c.insert.new.self in
    record {
      left = omega (arith, c.loop-left.invariant.left);
      kept =
          kept_more c.args.entries.now i c.loop-left.left c.index-entries-left.result name old new (omega arith)
          (omega (arith, c.loop-left.invariant.left)) c.index-entries-left.is
          (c.in_ok-name.ensures.ok ∙ c.as_str.ensures ∙ ap (λ (e : Pair). e.0) (sym c.index-entries-left.is))
          c.loop-left.invariant.kept
          (btree_map_updates_text name old new (Some i) c.in_ok-_behind.ensures.updates);
    }
