use Rattle.std.proofs.Common.{map, string_bytes}
use Rattle.jt_disk.proofs.Names.{AreNamesOf, path_of}
use Rattle.jt_disk.proofs.disk.DiskFiles.list.Given as goal

-- The names so far are those of the paths so far.
abbrev pub invariant-loop-path : goal.invariant-loop-path
invariant-loop-path l = AreNamesOf l.dir (map path_of l.yielded) (map string_bytes l.names.items)
