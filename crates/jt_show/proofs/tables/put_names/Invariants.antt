use Rattle.std.proofs.Common.{◌≡◌, ◌++◌, drop, string_bytes}
use Rattle.std.specs.Prelude.{flat_map}
use Rattle.jt_show.specs.Listing.{name_line}
use Rattle.jt_show.proofs.tables.put_names.Given as goal

-- The output so far and the lines of the names that are left are the whole.
abbrev pub invariant-names : goal.invariant-names
invariant-names g l =
    string_bytes l.out ++ flat_map name_line (drop l.index (g.C.Code.code l.code).names)
    ≡ string_bytes l.initial.out ++ flat_map name_line (g.C.Code.code l.code).names
