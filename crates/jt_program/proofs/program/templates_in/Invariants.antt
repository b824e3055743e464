use Rattle.std.proofs.Common.{◌≡◌, ◌++◌, map, string_bytes}
use Rattle.jt_program.specs.Files.{AreSources}
use Rattle.jt_host.specs.Templates.{source_of}
use Rattle.jt_program.proofs.program.templates_in.Given as goal

-- The names so far and the remaining ones are all names, each name so far has its source, and the
-- contents of the files stay.
abbrev pub invariant-loop-name : goal.invariant-loop-name
invariant-loop-name g l = (l.initial.name-iterator.rest.items ≡ l.yielded ++ l.name-iterator.rest.items)
    × AreSources (g.F.Files.known (g.F.Files.contents l.fn.files)) (string_bytes l.dir)
    (map string_bytes l.yielded) (source_of l.templates)
    × (g.F.Files.contents l.files ≡ g.F.Files.contents l.fn.files)
