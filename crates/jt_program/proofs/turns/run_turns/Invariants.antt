use Rattle.std.proofs.Common.{◌≡◌, ◌++◌}
use Rattle.jt_turns.specs.Worlds.{world_of}
use Rattle.jt_program.specs.Commands.{AreOpen}
use Rattle.jt_program.proofs.turns.run_turns.Given as goal

-- The pairs so far and the remaining ones are all pairs, the pairs so far are open, and the contents
-- of the files stay.
abbrev pub invariant-loop-pair : goal.invariant-loop-pair
invariant-loop-pair g l = (l.initial.pair-iterator.rest.items ≡ l.yielded ++ l.pair-iterator.rest.items)
    × AreOpen (g.F.Files.known (g.F.Files.contents l.fn.files)) l.budget l.yielded (world_of l.sessions)
    × (g.F.Files.contents l.files ≡ g.F.Files.contents l.fn.files)
