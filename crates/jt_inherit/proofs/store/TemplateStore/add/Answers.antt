use Rattle.jt_inherit.proofs.Vocabulary as words
use words.{◌≡◌, ◌++◌, ◌∷◌, [], Some, List, string_bytes, ap, ◌∙◌, arith, btree_map_updates_text, names, files_view}
use words.{repeated, once_more, of_texts, file_view, map_push, Template}
use Rattle.jt_inherit.proofs.NumberTables.{file_put, pushed}
use Rattle.jt_inherit.proofs.store.TemplateStore.add.Goals as goal

pub invariant_of-self-2 : goal.invariant_of-self-2
invariant_of-self-2 c =
    let s = c.args.self.now in
    let ps = s.files.items in
    let p = c.args.file in
    let all : c.push.new.self.items ≡ ps ++ p ∷ [] = pushed c.push.result c.reserve.new.self.items ps
    c.push.new.self.items p c.push.ensures.items
    (c.push.ensures.succeeds (omega (arith, c.in_ok-reserve.ensures.ok))) c.in_ok-reserve.ensures.items in
    record {
      once =
          rw all (ap (λ (ts : List Template). repeated
          (names ts)) (map_push file_view ps p)
          ∙ ap repeated (map_push (λ (t : Template). t.name) (files_view ps) (file_view p))
          ∙ once_more of_texts (string_bytes p.name) (names (files_view ps)) s.once c.requires);
      indexed =
          file_put ps _ p s.indices c.insert.new.self _ c.len-index.result s.indexed c.requires all
          (c.in_ok-name.ensures.ok ∙ c.deref.ensures) (omega (arith, c.len-index.ensures, s.files.ok.0))
          (btree_map_updates_text (string_bytes c.in_ok-name.name) s.indices c.insert.new.self (Some c.len-index.result)
          c.in_ok-insert.ensures.updates);
    }
