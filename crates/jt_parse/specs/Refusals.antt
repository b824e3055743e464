-- The meaning of the parser's errors.
use Rattle.std.specs.Prelude.{◌≡◌, ℕ, ◌<◌, ◌≤◌, List, Some}
use Rattle.jt_expr.specs.declared.named.Named.{Named}
use Rattle.jt_expr.specs.declared.named.Named.TheVariants as named
use Rattle.jt_ast.specs.Statements.{Body, body_levels}
use Rattle.jt_parse.specs.Kept.{SourcePiece}
use Rattle.jt_parse.specs.Grammar.{Spelled}
use Rattle.jt_parse.specs.Names.{body_unknown}
use Rattle.jt_parse.specs.declared.error.ParseError.{ParseError}
use Rattle.jt_parse.specs.declared.error.ParseError.TheVariants as e

-- The greatest number of levels of a template.
abbrev pub max_levels : ℕ
max_levels = 100

-- The pieces spell a tree with at most `max_levels` levels. Its first tag with an unknown name is
-- at the line, and the name is that of a filter or a test, as `kind` states.
abbrev pub HoldsUnknown : ℕ → Named → List SourcePiece → Type 0
HoldsUnknown line kind pieces =
    (body : Body) × Spelled body pieces × (body_levels body ≤ max_levels) × (body_unknown body ≡ Some (line, kind))

abbrev pub IsRefusal : ParseError → List SourcePiece → Type 0
-- The pieces spell no tree.
IsRefusal (e.Syntax line) pieces = (body : Body) → Spelled body pieces → ⊥
-- Each tree that the pieces spell has too many levels.
IsRefusal (e.TooDeep line) pieces = (body : Body) → Spelled body pieces → max_levels < body_levels body
IsRefusal (e.UnknownFilter line) pieces = HoldsUnknown line named.Filter pieces
IsRefusal (e.UnknownTest line) pieces = HoldsUnknown line named.Test pieces
-- A growth is refused.
IsRefusal e.NoMemory pieces = Unit {0}
