use Rattle.std.proofs.Common.{◌≡◌, ◌+◌, ◌-◌, ◌^◌, ◌≤◌, min, length}
use Rattle.std.specs.Str.{IsUtf8}
use Rattle.jt_filter_semantics.specs.Texts.{replaced_behind}
use Rattle.jt_filters.proofs.replacing.replaced_len.Given as goal

abbrev pub invariant-loop-front : goal.invariant-loop-front
invariant-loop-front l = record {
  utf8 : IsUtf8 l.rest;
  fits : l.size ≤ 2 ^ 64 - 1;
  same : min (l.size + length (replaced_behind 0 l.old l.new l.rest)) (2 ^ 64 - 1)
      ≡ min (length (replaced_behind 0 l.old l.new l.text)) (2 ^ 64 - 1);
}

abbrev pub decreases-loop-front : goal.decreases-loop-front
decreases-loop-front l = length l.rest
