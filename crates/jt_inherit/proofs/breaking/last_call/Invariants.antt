use Rattle.jt_inherit.proofs.Vocabulary.{◌≡◌, ◌++◌, true, List, length, AllByRecursion, is_required, tags_view}
use Rattle.jt_inherit.proofs.Vocabulary.{FoundTag, false, lacks_call}
use Rattle.jt_inherit.proofs.breaking.last_call.Given as goal

abbrev pub decreases-loop-block : goal.decreases-loop-block
decreases-loop-block l = length l.blocks.items

abbrev pub invariant-loop-block : goal.invariant-loop-block
invariant-loop-block l =
    (behind : List FoundTag)
    × (l.initial.blocks.items ≡ l.blocks.items ++ behind)
    × AllByRecursion (λ s. is_required s.1.made ≡ true) (tags_view behind)
    × (lacks_call (tags_view behind) ≡ false)
