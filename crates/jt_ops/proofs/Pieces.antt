-- The measures of texts that are built from pieces.
use Rattle.std.proofs.Common.{◌≡◌, ℕ, ◌+◌, true, List, length, refl, arith}
use Rattle.jt_value.specs.Payload.{has_payload}
use Rattle.jt_value.specs.Tree.{size, nesting}
use Rattle.jt_ops.specs.Pieces.{of_kind}
use Rattle.jt_ops.specs.declared.text.TextKind.{TextKind}
use Rattle.jt_ops.specs.declared.text.TextKind.TheVariants as kind

pub kind_size : (k : TextKind) (s : List ℕ) → size (of_kind k s) ≡ length s + 1
kind_size kind.Plain s = omega arith
kind_size kind.Markup s = omega arith

pub kind_nesting : (k : TextKind) (s : List ℕ) → nesting (of_kind k s) ≡ 0
kind_nesting kind.Plain s = refl
kind_nesting kind.Markup s = refl

pub kind_payload : (k : TextKind) (s : List ℕ) → has_payload (of_kind k s) ≡ true
kind_payload kind.Plain s = refl
kind_payload kind.Markup s = refl
