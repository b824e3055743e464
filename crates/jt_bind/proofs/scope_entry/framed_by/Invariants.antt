use Rattle.jt_bind.proofs.{◌≡◌, map, take}
use Rattle.jt_bind.proofs.scope_entry.framed_by.Given as goal

abbrev pub invariant-loop-name_scope : goal.invariant-loop-name_scope
invariant-loop-name_scope l =
    map (λ f. f.value) l.name_scopes.items ≡ map (λ f. f.value) (take l.name_scope-index l.name_scope-items)
