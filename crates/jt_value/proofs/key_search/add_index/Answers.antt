use Rattle.std.proofs.Common.{Some, length, string_bytes, refl, ap, ◌∙◌}
use Rattle.std.specs.Prelude.{List, ℕ}
use Rattle.std.specs.Str.{bytes_eq}
use Rattle.std.specs.Map.{update}
use Rattle.std.specs.BTreeMap.{get_by_text}
use Rattle.std.proofs.lemmas.Map.Text.{btree_map_updates_text}
use Rattle.jt_value.proofs.MoreKeys.{kept_one_more}
use Rattle.jt_value.proofs.key_search.add_index.Goals as goal

pub returns-clause-ok : goal.returns-clause-ok
returns-clause-ok c = λ k value.
    let old = c.args.indices.now in
    let new = c.insert.new.self in
    let i = length c.args.entries.now in
    kept_one_more c.args.entries.now c.args.key.now value i old new refl c.requires.new c.requires.finds
    (λ n. btree_map_updates_text (string_bytes c.in_ok-name.name) old new (Some i) c.in_ok-_earlier.ensures.updates n
    ∙ ap (λ (m : List ℕ). update bytes_eq (get_by_text old) m (Some i) n) c.in_ok-name.ensures.ok)
    k
