-- The promises of the host about a letter.
use Rattle.std.specs.Prelude.{◌≡◌, ◌++◌, ℕ, List, Option, Some, None, String, codes, false, string_bytes, true}
use Rattle.std.specs.declared.alloc.Global.{Global}
use Rattle.jt_host.specs.Code.{Code}
use Rattle.jt_host.specs.FaultText.{fault_text}
use Rattle.jt_host.specs.Json.{IsContext}
use Rattle.jt_host.specs.Pairs.{Pairs}
use Rattle.jt_host.specs.Reasons.{placed, spent_name}
use Rattle.jt_host.specs.Run.{Run}
use Rattle.jt_host.specs.View.{budget_view, outcome_view}
use Rattle.jt_host.specs.declared.Budget.{Budget}
use Rattle.jt_host.specs.declared.Options.{Options}
use Rattle.jt_host.specs.declared.Outcome.{Outcome}
use Rattle.jt_host.specs.declared.Outcome.TheVariants as outcome

-- The values that are printed are escaped, and all other options are off.
abbrev pub usual : Options
usual =
    record {
      trim_blocks = false;
      lstrip_blocks = false;
      keep_trailing_newline = false;
      autoescape = true;
      strict = false;
    }

-- A run of the code for the context that the text spells ends with this outcome.
abbrev pub IsWritten : Code → List ℕ → Budget → Outcome → Type 0
IsWritten k json b o = (x : Pairs) × IsContext json x × Run k x (budget_view b) (outcome_view o)

-- The line that reports how a run ended: its text, its fault with its place if it has one, or the
-- number of the budget that was spent. If there was no run, the line states why.
abbrev pub line_of : Option Outcome → List ℕ
line_of (Some (outcome.Text text)) = string_bytes text
line_of (Some (outcome.Fault fault (Some place))) =
    codes "fault " ++ placed (fault_text fault) (string_bytes place.template) place.line
line_of (Some (outcome.Fault fault None)) = codes "fault " ++ fault_text fault
line_of (Some (outcome.Spent spent)) = codes "spent " ++ spent_name spent
line_of None = codes "no context, or no memory"

abbrev pub IsLine : Option Outcome → String Global → Type 0
IsLine outcome line = string_bytes line ≡ line_of outcome
