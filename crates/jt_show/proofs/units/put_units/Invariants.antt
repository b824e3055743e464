use Rattle.std.proofs.Common.{◌≡◌, ◌++◌, drop, string_bytes, take}
use Rattle.std.specs.List.{list_all}
use Rattle.jt_show.specs.Listing.{found_text, is_accepted, numbered}
use Rattle.jt_show.proofs.units.put_units.Given as goal

-- The output so far and the units that are left are the whole.
abbrev pub invariant-units : goal.invariant-units
invariant-units g l = record {
  accepted :
      l.accepted ≡ list_all (is_accepted (g.C.Code.code l.code)) (take l.unit (g.C.Code.code l.code).units);
  shown :
      string_bytes l.out
      ++ numbered (found_text (g.C.Code.code l.code)) l.unit (drop l.unit (g.C.Code.code l.code).units)
      ≡ string_bytes l.initial.out
      ++ numbered (found_text (g.C.Code.code l.code)) 0 (g.C.Code.code l.code).units;
}
