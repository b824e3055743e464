-- The lines of sessions.
use Rattle.std.specs.Prelude.{ℕ, ◌+◌, List, [], ◌∷◌, ◌++◌, length, codes, Option, Some, None}
use Rattle.std.specs.Fmt.{decimal}
use Rattle.jt_value.specs.FaultText.{fault_text}
use Rattle.jt_value.specs.Place.{Place}
use Rattle.jt_value.specs.declared.Fault.{Fault}
use Rattle.jt_image.specs.Config as config
use Rattle.jt_image.specs.Config.{Limit, Outcome}
use Rattle.jt_turns.specs.Shown.{one_line}

abbrev pub limit_name : Limit → List ℕ
limit_name config.fuel = codes "Fuel"
limit_name config.depth = codes "Depth"
limit_name config.output = codes "Output"
limit_name config.size = codes "Size"
limit_name config.nesting = codes "Nesting"

-- The text of a fault, with its place if it has one.
abbrev pub placed_fault : Fault → Option Place → List ℕ
placed_fault fault None = fault_text fault
placed_fault fault (Some place) =
    fault_text fault ++ (codes " in " ++ (place.template ++ (codes " line " ++ decimal place.line)))

-- The line of a session, by its id: a text with the number of its bytes, a fault, or the limit that
-- was spent. The template name of a fault comes from the author of the image, and its line is shown
-- as one line.
abbrev pub session_line : ℕ → Outcome → List ℕ
session_line id (config.text t) =
    decimal id ++ (codes " text " ++ (decimal (length t) ++ (codes ":" ++ (t ++ codes "\n"))))
session_line id (config.fault f place) = one_line (decimal id ++ (codes " fault " ++ placed_fault f place))
session_line id (config.spent limit) = decimal id ++ (codes " spent " ++ (limit_name limit ++ codes "\n"))

-- The lines of sessions in order, from the id of the first one.
abbrev pub session_lines : ℕ → List Outcome → List ℕ
session_lines id [] = []
session_lines id (outcome ∷ outcomes) = session_line id outcome ++ session_lines (id + 1) outcomes
