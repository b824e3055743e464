use Rattle.std.proofs.Common.{◌≡◌, ◌++◌, length, string_bytes}
use Rattle.std.specs.Str.{IsUtf8}
use Rattle.jt_filter_semantics.specs.Texts.{replaced_behind}
use Rattle.jt_filters.proofs.replacing.replaced_text.Given as goal

abbrev pub invariant-loop-front : goal.invariant-loop-front
invariant-loop-front l = record {
  utf8 : IsUtf8 l.rest;
  same : string_bytes l.replaced ++ replaced_behind 0 l.old l.new l.rest ≡ replaced_behind 0 l.old l.new l.text;
}

abbrev pub decreases-loop-front : goal.decreases-loop-front
decreases-loop-front l = length l.rest
