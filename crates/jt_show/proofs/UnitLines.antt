-- The line of a unit, the lines of its instructions and the mark behind them are the text of the unit.
use Rattle.std.proofs.Common.{◌≡◌, ◌∙◌, ◌++◌, ℕ, List, Option, Some, None, ap, append_assoc, option_map}
use Rattle.jt_image.specs.Code.{Code, Section}
use Rattle.jt_image.specs.Readers.{header_of}
use Rattle.jt_image.specs.declared.Instruction.{Instruction}
use Rattle.jt_image.specs.declared.UnitHeader.{UnitHeader}
use Rattle.jt_verify.specs.Search.{Found}
use Rattle.jt_show.specs.Marks.{mark_line}
use Rattle.jt_show.specs.Listing.{numbered, point_text, unit_line, unit_text}

pub unit_put : (k : Code) (n : ℕ) (unit : Section) (there : Option Section) (header : UnitHeader)
    (code : List Instruction) (found : Found) (old line points new : List ℕ) → there ≡ Some unit
    → Some header ≡ option_map header_of there → Some code ≡ option_map (λ u. u.code) there
    → line ≡ old ++ unit_line n header → points ≡ line ++ numbered (point_text k n code found) 0 code
    → new ≡ points ++ mark_line found header.instructions None
    → new ≡ old ++ unit_text k n unit found
unit_put k n unit there header code found old line points new is heads codes first rest mark =
    let head : header ≡ header_of unit = cc (ap (option_map header_of) is) in
    let body : code ≡ unit.code = cc (ap (option_map (λ (u : Section). u.code)) is) in
    let text : List ℕ = numbered (point_text k n code found) 0 code in
    let last : List ℕ = mark_line found header.instructions None in
    rw (mark, rest, first) (append_assoc (old ++ unit_line n header) text last
    ∙ append_assoc old (unit_line n header) (text ++ last)
    ∙ ap (λ (l : List ℕ). old ++ l) (rw (head, body)))
