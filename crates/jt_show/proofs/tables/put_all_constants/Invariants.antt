use Rattle.std.proofs.Common.{◌≡◌, ◌++◌, drop, string_bytes}
use Rattle.jt_show.specs.Listing.{constant_line, numbered}
use Rattle.jt_show.proofs.tables.put_all_constants.Given as goal

-- The output so far and the lines of the constants that are left are the whole.
abbrev pub invariant-constants : goal.invariant-constants
invariant-constants g l =
    string_bytes l.out ++ numbered constant_line l.index (drop l.index (g.C.Code.code l.code).constants)
    ≡ string_bytes l.initial.out ++ numbered constant_line 0 (g.C.Code.code l.code).constants
