-- The methods of Python values that tags call, as far as the language leaves them out.
use Rattle.std.specs.Prelude.{ℕ, ◌==◌, List, [], ◌∷◌, Option, Some, None, if◌then◌else◌}
use Rattle.std.specs.Option.{is_some, option_or}
use Rattle.jt_scan.specs.declared.segment.Segment.{Segment}
use Rattle.jt_scan.specs.declared.segment.SegmentKind.{SegmentKind}
use Rattle.jt_scan.specs.declared.segment.SegmentKind.TheVariants as part
use Rattle.jt_scan.specs.declared.segment.Sign.TheVariants as sign
use Rattle.jt_scan.specs.declared.segment.Token.{Token}
use Rattle.jt_scan.specs.declared.segment.Token.TheVariants as t
use Rattle.jt_hints.specs.LeftOut.{left_out_method}

-- The method that is called at the first token: a dot, its name and `(`.
abbrev pub method_here : List Token → Option (List ℕ)
method_here (t.Sign sign.Dot ∷ t.Name x ∷ t.Sign sign.LeftParen ∷ rest) =
    if is_some (left_out_method x.now) then Some x.now else None
method_here tokens = None

abbrev pub first_method : List Token → Option (List ℕ)
first_method [] = None
first_method (token ∷ behind) = option_or (method_here (token ∷ behind)) (first_method behind)

abbrev pub method_of_part : ℕ → SegmentKind → Option (List ℕ)
method_of_part line (part.Tag tag) = if tag.line == line then first_method tag.tokens.items else None
method_of_part line p = None

abbrev pub method_at : ℕ → Segment → Option (List ℕ)
method_at line segment = method_of_part line segment.part

-- The first method that the tags at the line call.
abbrev pub called_method : ℕ → List Segment → Option (List ℕ)
called_method line [] = None
called_method line (s ∷ ss) = option_or (method_at line s) (called_method line ss)
