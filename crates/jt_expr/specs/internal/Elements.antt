-- The elements of a sequence, each with the sign after it. Only private clauses cite this module.
use Rattle.std.specs.Prelude.{ℕ, Option, drop, if◌then◌else◌, Ok}
use Rattle.jt_scan.specs.declared.segment.Sign.TheVariants as s
use Rattle.jt_ast.specs.Expressions.{Text, Expr}
use Rattle.jt_expr.specs.Grammar.{Level, SequenceKind, closer}
use Rattle.jt_expr.specs.Front.{sees}
use Rattle.jt_expr.specs.internal.Reading.{Reader, ◌>>=◌, expect, part}

pub data ListElement : Type 0 where
  -- The closing sign alone.
  shut : ListElement
  -- The last part and the closing sign.
  last : Option Text × Expr → ListElement
  -- A part and a comma.
  further : Option Text × Expr → ListElement

unfoldable pub element : (Level → Reader Expr) → ℕ → SequenceKind → Reader ListElement
element inner n r ts =
    if sees (closer r) ts then Ok (shut, drop 1 ts)
    else (part inner n r ts >>= λ p v.
    if sees s.Comma v then Ok (further p, drop 1 v)
    else (expect (closer r) v >>= λ _ w. Ok (last p, w)))
