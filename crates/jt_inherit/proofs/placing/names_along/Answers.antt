use Rattle.jt_inherit.proofs.Vocabulary as words
use words.{◌+◌, ◌++◌, ◌∷◌, [], List, String, Global, drop, map, string_bytes, sym, ap, ◌∙◌, append_assoc, Text}
use words.{templates_at, Template, files_view, map_push, names}
use Rattle.jt_inherit.proofs.PathsGrow.{templates_turn, templates_past}
use Rattle.jt_inherit.proofs.placing.names_along.Goals as goal

pub loop-index-preserved-in_default : goal.loop-index-preserved-in_default
loop-index-preserved-in_default c =
    let l = c.loop-index in
    rw (← (templates_past c.args.store.now.files.items c.args.indices.now l.index-index c.loop-index-test.true
    (rw c.deref.ensures.value at c.in_default.ensures.lookup.3))) l.invariant

pub loop-index-preserved : goal.loop-index-preserved
loop-index-preserved c =
    let l = c.loop-index in
    let ps = c.args.store.now.files.items in
    let is = c.args.indices.now in
    let k = l.index-index in
    let old = map string_bytes l.names.items in
    let s = c.in_ok-from_str.field-0 in
    let rest = names (templates_at (files_view ps) (drop (k + 1) is)) in
    let found = c.in-Some.ensures.lookup.3 in
    let here = templates_turn ps is k c.in-Some.file.now c.loop-index-test.true (rw c.deref.ensures.value at found.0)
    (rw c.deref.ensures.value at (found.1 c.in-Some.file.now)) in
    rw c.in_ok-push.ensures.items
    (ap (λ (z : List Text). z ++ rest) (map_push (λ (z : String Global). string_bytes z) l.names.items s)
    ∙ append_assoc old (string_bytes s ∷ []) rest
    ∙ ap (λ (n : Text). old ++ n ∷ rest) (c.in_ok-from_str.ensures.ok ∙ c.deref-in-loop-index.ensures)
    ∙ ap (λ (us : List Template). old ++ names us) (sym here) ∙ l.invariant)
