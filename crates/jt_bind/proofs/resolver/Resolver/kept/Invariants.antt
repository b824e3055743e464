use Rattle.jt_bind.proofs.{◌≡◌, drop, pairs_view, keywords, slot_in, locals_from}
use Rattle.jt_bind.proofs.resolver.Resolver.kept.Given as goal

abbrev pub invariant-loop-key : goal.invariant-loop-key
invariant-loop-key l =
    slot_in l.name (locals_from l.local (keywords (pairs_view (drop l.key-index l.pairs))))
    ≡ slot_in l.name (locals_from l.self.senv.free (keywords (pairs_view l.pairs)))
