use Rattle.jt_inherit.proofs.Vocabulary.{◌≡◌, ◌++◌, drop, with_name, test_of, tags, tags_view}
use Rattle.jt_uses.specs.UseView.{sites_view}
use Rattle.jt_inherit.proofs.tags.tags_among.Given as goal

abbrev pub invariant-loop-site : goal.invariant-loop-site
invariant-loop-site l =
    tags_view l.found.items ++ tags (test_of l.wanted) (with_name l.template (sites_view (drop l.site-index l.uses)))
    ≡ tags (test_of l.wanted) (with_name l.template (sites_view l.uses))
