-- What an explanation prints of a run: the place and the name of a fault, the line of the source and
-- the reason; or the number of the budget that was spent; or `ok` and notes on what is suspicious.
use Rattle.std.specs.Prelude.{◌≡◌, ◌⊎◌, ◌++◌, ℕ, [], codes, Option, Some, None, Result, Ok, Err, String, string_bytes}
use Rattle.std.specs.Fmt.{decimal}
use Rattle.std.specs.declared.alloc.Global.{Global}
use Rattle.jt_scan.specs.declared.Options.{Options}
use Rattle.jt_ast.specs.Expressions.{Text}
use Rattle.jt_value.specs.FaultText.{fault_text}
use Rattle.jt_value.specs.Pairs.{Pairs}
use Rattle.jt_value.specs.declared.Fault.{Fault}
use Rattle.jt_value.specs.declared.Fault.TheVariants as fault
use Rattle.jt_budget.specs.declared.Budget.{Budget}
use Rattle.jt_budget.specs.declared.Spent.{Spent}
use Rattle.jt_budget.specs.declared.Spent.TheVariants as spent
use Rattle.jt_inherit.specs.Chains.{SourceTexts}
use Rattle.jt_codegen.specs.declared.CompileError.{CompileError}
use Rattle.jt_codegen.specs.declared.TagPlace.{TagPlace}
use Rattle.jt_machine.specs.View.{limit_view}
use Rattle.jt_machine.specs.declared.Outcome.{Outcome}
use Rattle.jt_machine.specs.declared.Outcome.TheVariants as outcome
use Rattle.jt_machine.specs.declared.Place.{Place}
use Rattle.jt_turns.specs.Lines.{limit_name}
use Rattle.jt_host.specs.Calls.{HasNotes, IsTold}
use Rattle.jt_host.specs.Explanations.{place_text, source_text}
use Rattle.jt_host.specs.Rendering.{IsRefused as IsUncompiled, IsRendered}
use Rattle.jt_host.specs.declared.call_error.CallError.{CallError}
use Rattle.jt_host.specs.declared.call_error.CallError.TheVariants as error

-- ---- the reasons

abbrev pub fault_sentence : Fault → Text
fault_sentence fault.BadType = codes "an operator, a filter or a test here does not take this kind of value"
fault_sentence fault.Undefined =
    codes "a value is needed here and is undefined: is a name misspelled or not in the context?"
fault_sentence fault.Overflow = codes "a number here is outside of -9223372036854775808 to 9223372036854775807"
fault_sentence fault.ZeroDivide = codes "a number is divided by 0 here"
fault_sentence fault.Unprintable = codes "a list or a map is needed as printed text here: join its items"
fault_sentence fault.NotIterable =
    codes "the items of a number, a truth value or none are asked for here: they have none"
fault_sentence fault.Unpack = codes "a value here has another number of items than there are names for them"
fault_sentence fault.Range = codes "range is called with a step of 0 here"
fault_sentence fault.BadArgument = codes "a filter here does not take an argument of this kind"

abbrev pub spent_sentence : Spent → Text
spent_sentence spent.Fuel = codes "the instructions of the run would cost more than this number"
spent_sentence spent.Depth = codes "more calls of macros, blocks and includes would be open at the same time"
spent_sentence spent.Output = codes "more bytes would be written, with those of texts that are kept"
spent_sentence spent.Size = codes "a value would be larger than this number"
spent_sentence spent.Nesting = codes "lists and maps would be nested deeper in a value than this number"

-- ---- what is printed

-- A number of a budget.
abbrev pub number_of : Budget → Spent → ℕ
number_of b spent.Fuel = b.fuel
number_of b spent.Depth = b.depth
number_of b spent.Output = b.output
number_of b spent.Size = b.size
number_of b spent.Nesting = b.nesting

-- The place of a fault, as that of its tag.
abbrev pub tag_place : Option Place → Option TagPlace
tag_place (Some place) = Some (record { template = place.template; line = place.line })
tag_place None = None

-- The place and the name of a fault, the line of the source, and the reason.
abbrev pub fault_lines : SourceTexts → Options → Fault → Option TagPlace → Text
fault_lines sources options f place =
    place_text place
    ++ (fault_text f
    ++ (codes "\n"
    ++ (source_text sources options place ++ (codes "  " ++ (fault_sentence f ++ codes "\n")))))

-- The name and the number that were spent, and the reason.
abbrev pub spent_lines : Budget → Spent → Text
spent_lines b s =
    codes "spent "
    ++ (limit_name (limit_view s)
    ++ (codes " " ++ (decimal (number_of b s) ++ (codes "\n  " ++ (spent_sentence s ++ codes "\n")))))

-- The lines of a run that ended so.
abbrev pub ending_lines : SourceTexts → Options → Budget → Outcome → Text
ending_lines sources options b (outcome.Text text) = codes "ok\n"
ending_lines sources options b (outcome.Fault f place) = fault_lines sources options f (tag_place place)
ending_lines sources options b (outcome.Spent s) = spent_lines b s

-- ---- what is explained

module _ (sources : SourceTexts) (entry : Text) (options : Options) (context : Pairs) where
  -- A run that ends with a text has the notes on the entry's chain for the context, and another one has none.
  abbrev pub AreEndNotes : Outcome → Text → Type 0
  AreEndNotes (outcome.Text t) text = HasNotes sources entry options (Some context) text
  AreEndNotes (outcome.Fault f place) text = text ≡ []
  AreEndNotes (outcome.Spent s) text = text ≡ []

module _ (sources : SourceTexts) (entry : Text) (options : Options) (context : Pairs) (b : Budget) where
  -- The compiler refuses the entry, and the text is its explanation.
  abbrev pub IsToldOfEntry : Text → Type 0
  IsToldOfEntry text =
      ((e : CompileError) × IsUncompiled sources entry options e) × IsTold sources entry options text

  -- The entry compiles, its run for the context ends so, and the text prints that, and the notes.
  pub record IsToldOfRun (text : Text) : Type 0 where
    pub ending : Outcome
    pub runs : IsRendered sources entry options context b ending
    pub notes : Text
    pub noted : AreEndNotes sources entry options context ending notes
    pub printed : text ≡ ending_lines sources options b ending ++ notes

  -- The result is the text of an explanation; it exists unless memory is refused.
  abbrev pub ExplainsRunTo : Result (String Global) CallError → Type 0
  ExplainsRunTo (Ok text) = IsToldOfEntry (string_bytes text) ⊎ IsToldOfRun (string_bytes text)
  ExplainsRunTo (Err error.NoMemory) = Unit {0}
  ExplainsRunTo (Err other) = ⊥
