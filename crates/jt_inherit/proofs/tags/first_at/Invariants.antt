use Rattle.jt_inherit.proofs.Vocabulary.{◌≡◌, drop, all_uses, test_of, tags, place_in, files_view, templates_at}
use Rattle.jt_inherit.proofs.tags.first_at.Given as goal

abbrev pub invariant-loop-index : goal.invariant-loop-index
invariant-loop-index l =
    place_in 0 (tags (test_of l.wanted) (all_uses (templates_at (files_view l.files) l.indices)))
    ≡ place_in 0
    (tags (test_of l.wanted) (all_uses (templates_at (files_view l.files) (drop l.index-index l.indices))))
