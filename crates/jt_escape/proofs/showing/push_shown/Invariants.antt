use Rattle.std.proofs.Common.{◌≡◌, ◌++◌, ◌≤◌, string_bytes}
use Rattle.std.specs.Str.{IsCharBoundary}
use Rattle.jt_escape.specs.Shown.{shown}
use Rattle.jt_escape.proofs.EscapedTextCorrect.{still_shown}
use Rattle.jt_escape.proofs.showing.push_shown.Given as goal

-- The output so far and the text that is still to be shown are the whole.
abbrev pub invariant-loop-at : goal.invariant-loop-at
invariant-loop-at g l =
    let e = g.E.Escapes in
    record {
      order : l.plain ≤ l.at;
      boundary : IsCharBoundary l.text l.plain;
      same : string_bytes l.into ++ still_shown e.is_special e.escape l.text l.plain l.at
          ≡ string_bytes l.initial.into ++ shown e.is_special e.escape l.text;
    }
