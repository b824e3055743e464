use Rattle.std.proofs.Common.{◌≡◌, ◌++◌, string_bytes, string_capacity, ◌-◌, ◌≤◌, take, drop}
use Rattle.std.specs.Str.{IsCharBoundary}
use Rattle.jt_escape.specs.Escaping.{escaped}
use Rattle.jt_escape.specs.internal.Appending.{Extends}
use Rattle.jt_escape.proofs.escaping.append_escaped.Given as goal

abbrev pub invariant-loop-at : goal.invariant-loop-at
invariant-loop-at l = record {
  order : l.written ≤ l.at;
  boundary : IsCharBoundary l.text l.written;
  room : string_capacity l.initial.into ≤ string_capacity l.into;
  grown : Extends (string_bytes l.initial.into) (string_bytes l.into);
  same : string_bytes l.into ++ take (l.at - l.written) (drop l.written l.text)
      ≡ string_bytes l.initial.into ++ escaped (take l.at l.text);
}
