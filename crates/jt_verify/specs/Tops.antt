-- The view of a shape as a list of kinds.
use Rattle.std.specs.Prelude.{List, [], reverse, Option, Some, None}
use Rattle.jt_image.specs.declared.kind.Kind.{Kind}
use Rattle.smallvec.specs.SmallVec.{SmallVec}

-- The entries are stored with the top last.
abbrev pub kinds : Option (SmallVec Kind) → List Kind
kinds None = []
kinds (Some entries) = reverse entries.items
