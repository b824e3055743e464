use Rattle.jt_verify.proofs.arena.Arena.kind_below.Goals as goal

pub kind_in-requires-clause-arena : goal.kind_in-requires-clause-arena
kind_in-requires-clause-arena c = rw c.as_slice.ensures (c.self.inside.links.items, c.self.invariant)
