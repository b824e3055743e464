use Rattle.std.proofs.Common.{◌≡◌, ◌≤◌, reverse, length, take}
use Rattle.std.specs.Str.{IsCharBoundary}
use Rattle.jt_filter_semantics.specs.Texts.{trimmed_front}
use Rattle.jt_filters.proofs.texts.trimmed_back.Given as goal

abbrev pub invariant-loop-end : goal.invariant-loop-end
invariant-loop-end l = record {
  inside : l.end ≤ length l.text;
  boundary : IsCharBoundary l.text l.end;
  same : trimmed_front (reverse (take l.end l.text)) ≡ trimmed_front (reverse l.text);
}

abbrev pub decreases-loop-end : goal.decreases-loop-end
decreases-loop-end l = l.end
