use Rattle.jt_bind.proofs.{◌≡◌, None, drop, Text, value_in, texts, last_among}
use Rattle.jt_bind.proofs.name_scope.NameScope.new.Given as goal

abbrev pub invariant-loop-name : goal.invariant-loop-name
invariant-loop-name l =
    (x : Text) → last_among x (texts (drop l.name-index l.name-items)) l.local (value_in l.index.indices x)
    ≡ last_among x (texts l.name-items) l.fn.first None
