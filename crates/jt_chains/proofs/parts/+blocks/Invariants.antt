use Rattle.jt_chains.proofs.parts.+blocks.Given as goal
use Rattle.jt_chains.specs.Chain.{blocks_in, blocks_under}
use Rattle.jt_chains.proofs.{◌≡◌, ◌++◌, List, drop, body_view, branches_view, Template, blocks_view, name_at}

abbrev pub invariant-add_blocks-loop-statement : goal.invariant-add_blocks-loop-statement
invariant-add_blocks-loop-statement l = (ts : List Template) →
    blocks_view ts l.found.items
    ++ blocks_in (name_at ts l.site.template) (body_view (drop l.statement-index l.body)) l.site.escaping
    ≡ blocks_view ts l.initial.found.items ++ blocks_in (name_at ts l.site.template) (body_view l.body) l.site.escaping

abbrev pub invariant-add_statement-loop-body : goal.invariant-add_statement-loop-body
invariant-add_statement-loop-body l = (ts : List Template) →
    blocks_view ts l.found.items
    ++ blocks_under (name_at ts l.site.template) (branches_view (drop l.body-index l.body-items)) l.site.escaping
    ≡ blocks_view ts l.initial.found.items
    ++ blocks_under (name_at ts l.site.template) (branches_view l.body-items) l.site.escaping
