use Rattle.jt_notes.proofs.names.add_bound.Given as goal
use Rattle.std.proofs.Common.{◌≡◌, ◌++◌, drop}
use Rattle.std.specs.List.{filter_map}
use Rattle.jt_ast.specs.StatementView.{body_view}
use Rattle.jt_ast.specs.Texts.{texts}
use Rattle.jt_uses.specs.UseView.{sites_view}
use Rattle.jt_notes.specs.Notes.{bound_in, name_bound}

abbrev pub invariant-loop-site : goal.invariant-loop-site
invariant-loop-site l =
    texts l.found.items ++ filter_map (λ site. name_bound site.made) (sites_view (drop l.site-index l.site-items))
    ≡ texts l.initial.found.items ++ bound_in (body_view l.body)
