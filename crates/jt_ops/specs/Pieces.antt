-- The pieces that texts are built from.
use Rattle.std.specs.Prelude.{ℕ, List}
use Rattle.jt_value.specs.Tree.{Tree, text, markup}
use Rattle.jt_escape.specs.Escaping.{escaped}
use Rattle.jt_ops.specs.declared.text.TextKind.{TextKind}
use Rattle.jt_ops.specs.declared.text.TextKind.TheVariants as kind
use Rattle.jt_ops.specs.declared.text.Piece.{Piece}
use Rattle.jt_ops.specs.declared.text.Piece.TheVariants as piece

-- The bytes that a piece writes.
abbrev pub written : Piece → List ℕ
written (piece.Raw t) = t.now
written (piece.Escaped t) = escaped t.now

-- The text of a kind with these bytes.
abbrev pub of_kind : TextKind → List ℕ → Tree
of_kind kind.Plain bytes = text bytes
of_kind kind.Markup bytes = markup bytes
