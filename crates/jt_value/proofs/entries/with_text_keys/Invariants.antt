use Rattle.std.proofs.Common.{◌≡◌, ◌++◌}
use Rattle.jt_value.specs.View.{text_keyed}
use Rattle.jt_value.proofs.entries.with_text_keys.Given as goal

abbrev pub invariant-loop-key : goal.invariant-loop-key
invariant-loop-key l =
    (l.fn.entries.items ≡ l.yielded ++ l.key-iterator.rest.items) × (l.keyed.items ≡ text_keyed l.yielded)
