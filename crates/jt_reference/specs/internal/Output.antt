-- The greatest length that a text can reach.
use Rattle.std.specs.Prelude.{ℕ, ◌+◌}
use Rattle.std.specs.String.{string_len}
use Rattle.jt_reference.specs.declared.buffers.Buffers.{Buffers}

-- The bytes of the text, and the bytes that may still be emitted.
abbrev pub most : Buffers → ℕ
most b = string_len b.text + b.left
