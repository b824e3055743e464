use Rattle.jt_bind.proofs.{◌≡◌, ◌≤◌, length, map, take, slot_in, globals_in, framed}
use Rattle.jt_bind.proofs.resolver.Resolver.slot.Given as goal

abbrev pub invariant-loop-left : goal.invariant-loop-left
invariant-loop-left l = record {
  within : l.left ≤ length l.self.senv.name_scopes.now;
  same : slot_in l.name
      (framed (map (λ f. f.value) (take l.left l.self.senv.name_scopes.now)) (globals_in l.self.tables.now))
      ≡ slot_in l.name (framed (map (λ f. f.value) l.self.senv.name_scopes.now) (globals_in l.self.tables.now));
}

abbrev pub decreases-loop-left : goal.decreases-loop-left
decreases-loop-left l = l.left
