use Rattle.std.proofs.Common.{◌≡◌, drop}
use Rattle.std.specs.Str.{IsCharBoundary}
use Rattle.jt_filter_semantics.specs.Texts.{trimmed_front}
use Rattle.jt_filters.proofs.texts.trimmed_front.Given as goal

abbrev pub invariant-loop-byte : goal.invariant-loop-byte
invariant-loop-byte l = record {
  index : l.start ≡ l.byte-index;
  boundary : IsCharBoundary l.text l.start;
  same : trimmed_front (drop l.start l.text) ≡ trimmed_front l.text;
}
