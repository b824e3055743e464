-- The results of the calls over bytes.
use Rattle.std.specs.Prelude.{◌≡◌, ◌≢◌, ◌⊎◌, ◌++◌, ℕ, List, [], length, Option, None, Result, Ok, Err, String}
use Rattle.std.specs.Prelude.{string_bytes, Vec}
use Rattle.std.specs.declared.alloc.Global.{Global}
use Rattle.std.specs.Str.{IsUtf8}
use Rattle.jt_scan.specs.declared.Options.{Options}
use Rattle.jt_value.specs.Pairs.{Pairs}
use Rattle.jt_value.specs.ContextView.{pairs_of}
use Rattle.jt_value.specs.declared.Context.{Context}
use Rattle.jt_chains.specs.View.{Seen}
use Rattle.jt_inherit.specs.Chains.{SourceTexts}
use Rattle.jt_inherit.specs.Linked.{IsLinked}
use Rattle.jt_ast.specs.Expressions.{Text}
use Rattle.jt_codegen.specs.Compiled.{IsCompiled}
use Rattle.jt_codegen.specs.Explaining.{IsExplained}
use Rattle.jt_codegen.specs.Needs.{AreNeeds}
use Rattle.jt_codegen.specs.declared.Explained.{Explained}
use Rattle.jt_codegen.specs.declared.Explained.TheVariants as explained
use Rattle.jt_codegen.specs.declared.Needs.{Needs}
use Rattle.jt_image.specs.Code.{Code}
use Rattle.jt_image.specs.Spelling.{spelling}
use Rattle.jt_image.specs.IsCode.{total_len}
use Rattle.jt_image.specs.Reading.{Gives, code_of}
use Rattle.jt_image.specs.Run.{Run}
use Rattle.jt_image.specs.Upgrading.{upgraded, IsNotUpgraded}
use Rattle.jt_image.specs.Typed.{IsTyped}
use Rattle.jt_image.specs.declared.ImageError.{ImageError}
use Rattle.jt_image.specs.declared.ImageError.TheVariants as image_error
use Rattle.jt_budget.specs.declared.Budget.{Budget}
use Rattle.jt_host.specs.declared.clues.Clues.{Clues}
use Rattle.jt_contexts.specs.Json.{IsContext, Holds}
use Rattle.jt_host.specs.Explanations.{told, IsExplanationOf}
use Rattle.jt_host.specs.declared.explanation.Explanation.{Explanation}
use Rattle.jt_host.specs.Clues.{AreCluesFor}
use Rattle.jt_host.specs.NeedsText.{needs_text}
use Rattle.jt_host.specs.Notes.{notes_text}
use Rattle.jt_host.specs.Rendering.{IsRefused as IsUncompiled, IsRendered}
use Rattle.jt_contexts.specs.declared.ContextError.TheVariants as context_error
use Rattle.jt_verify.specs.Refusing.{RefusalHolds}
use Rattle.jt_verify.specs.declared.Refusal.TheVariants as refusals
use Rattle.jt_machine.specs.Growing.{MayWant}
use Rattle.jt_machine.specs.View.{budget_view, outcome_view}
use Rattle.jt_machine.specs.declared.Outcome.{Outcome}
use Rattle.jt_machine.specs.declared.Outcome.TheVariants as outcome
use Rattle.jt_host.specs.declared.call_error.CallError.{CallError}
use Rattle.jt_host.specs.declared.call_error.CallError.TheVariants as error

-- ---- images

-- The bytes are no image, or that of a code that is not typed, and the error states which. Lack of
-- memory is an error of its own, and no fault of the bytes.
abbrev pub IsNoImage : List ℕ → CallError → Type 0
IsNoImage bytes (error.Image fault) =
    (fault ≢ image_error.NoMemory) × Gives (λ (code : Code). code) (Err fault) (code_of bytes)
IsNoImage bytes (error.Code refusal) =
    (refusal ≢ refusals.NoMemory)
    × ((code : Code) × (code_of bytes ≡ Ok code) × (IsTyped code → ⊥) × RefusalHolds code refusal)
IsNoImage bytes error.NoMemory = Unit {0}
IsNoImage bytes e = ⊥

-- The bytes spell the code, and it is typed.
abbrev pub IsImageOf : List ℕ → Code → Type 0
IsImageOf bytes code = (code_of bytes ≡ Ok code) × IsTyped code

-- The result is the code of the bytes, or the error states why it does not exist.
abbrev pub VerifiesTo : List ℕ → Result Code CallError → Type 0
VerifiesTo bytes (Ok code) = IsImageOf bytes code
VerifiesTo bytes (Err e) = IsNoImage bytes e

-- The bytes are an image with these numbers of units and of instructions.
abbrev pub IsCounted : List ℕ → ℕ × ℕ → Type 0
IsCounted bytes counts = (code : Code) × IsImageOf bytes code
    × (counts.0 ≡ length code.units) × (counts.1 ≡ total_len code.units)

-- The result is the numbers of units and instructions, or the error states why there is no image.
abbrev pub ChecksTo : List ℕ → Result (ℕ × ℕ) CallError → Type 0
ChecksTo bytes (Ok counts) = IsCounted bytes counts
ChecksTo bytes (Err e) = IsNoImage bytes e

-- The bytes spell a code, and the bytes `new` spell this code in version 2 and are read as it. Bytes
-- that are too long for an image are read as none, so `new` is not too long.
pub record IsUpgraded (bytes new : List ℕ) : Type 0 where
  pub code : Code
  pub given : code_of bytes ≡ Ok code
  pub spelled : new ≡ spelling (upgraded code)
  pub read : code_of new ≡ Ok (upgraded code)

-- The bytes are no image, or their code is too long in version 2, and the error states which.
abbrev pub IsNoUpgrade : List ℕ → ImageError → Type 0
IsNoUpgrade bytes fault = (fault ≢ image_error.NoMemory)
    × (Gives (λ (code : Code). code) (Err fault) (code_of bytes)
    ⊎ ((code : Code) × (code_of bytes ≡ Ok code) × IsNotUpgraded fault code))

-- The result is the image in version 2, or the error states why it does not exist.
abbrev pub UpgradesTo : List ℕ → Result (Vec ℕ Global) CallError → Type 0
UpgradesTo bytes (Ok image) = IsUpgraded bytes image.items
UpgradesTo bytes (Err (error.Image fault)) = IsNoUpgrade bytes fault
UpgradesTo bytes (Err error.NoMemory) = Unit {0}
UpgradesTo bytes (Err other) = ⊥

-- ---- runs

-- The result is the text with which the run of the code for the context ends, or the error states
-- why it does not exist. Memory may be lacking only for a run that may need some.
abbrev pub RunsTo : Code → Pairs → Budget → Result (String Global) CallError → Type 0
RunsTo code context b (Ok text) =
    Run code context (budget_view b) (outcome_view (outcome.Text text))
RunsTo code context b (Err (error.Fault fault place)) =
    Run code context (budget_view b) (outcome_view (outcome.Fault fault place))
RunsTo code context b (Err (error.Spent spent)) =
    Run code context (budget_view b) (outcome_view (outcome.Spent spent))
RunsTo code context b (Err error.NoMemory) = MayWant code context (budget_view b)
RunsTo code context b (Err other) = ⊥

-- The bytes are an image, and its run for the context ends so.
abbrev pub IsRun : List ℕ → Pairs → Budget → Outcome → Type 0
IsRun bytes context b o =
    (code : Code) × IsImageOf bytes code × Run code context (budget_view b) (outcome_view o)

-- The result is the text of the run, or the error states why it does not exist.
abbrev pub ComesTo : List ℕ → Pairs → Budget → Result (String Global) CallError → Type 0
ComesTo bytes context b (Ok text) = IsRun bytes context b (outcome.Text text)
ComesTo bytes context b (Err (error.Fault fault place)) =
    IsRun bytes context b (outcome.Fault fault place)
ComesTo bytes context b (Err (error.Spent spent)) = IsRun bytes context b (outcome.Spent spent)
ComesTo bytes context b (Err e) = IsNoImage bytes e

-- ---- contexts

-- The bytes spell no context, and the error states why.
abbrev pub IsNoContext : List ℕ → CallError → Type 0
IsNoContext bytes (error.Context flaw) =
    (flaw ≢ context_error.NoMemory)
    × (((IsUtf8 bytes → ⊥) × (flaw ≡ context_error.NotJson)) ⊎ Holds bytes flaw)
IsNoContext bytes error.NoMemory = Unit {0}
IsNoContext bytes e = ⊥

-- The result is the context that the bytes spell, or the error states why it does not exist.
abbrev pub GivesContext : List ℕ → Result Context CallError → Type 0
GivesContext bytes (Ok context) = IsContext bytes (pairs_of context)
GivesContext bytes (Err e) = IsNoContext bytes e

-- ---- templates

-- The error is lack of memory.
abbrev pub IsNoMemory : CallError → Type 0
IsNoMemory error.NoMemory = Unit {0}
IsNoMemory other = ⊥

-- The bytes spell a code to which the entry compiles, and are read as this code.
pub record IsImage (sources : SourceTexts) (entry : Text) (options : Options) (bytes : List ℕ) :
    Type 0 where
  pub code : Code
  pub spelled : bytes ≡ spelling code
  pub read : code_of bytes ≡ Ok code
  pub compiled : IsCompiled sources entry options code

module _ (sources : SourceTexts) (entry : Text) (options : Options) where
  -- The result is the image of the entry, or the error states why it does not exist.
  abbrev pub GivesImage : Result (Vec ℕ Global) CallError → Type 0
  GivesImage (Ok image) = IsImage sources entry options image.items
  GivesImage (Err (error.Template refusal)) = IsUncompiled sources entry options refusal
  GivesImage (Err error.NoMemory) = Unit {0}
  GivesImage (Err other) = ⊥

  -- The result is a code to which the entry compiles, or the error states why it does not exist.
  abbrev pub CompilesTo : Result Code CallError → Type 0
  CompilesTo (Ok code) = IsCompiled sources entry options code
  CompilesTo (Err (error.Template refusal)) = IsUncompiled sources entry options refusal
  CompilesTo (Err error.NoMemory) = Unit {0}
  CompilesTo (Err other) = ⊥

  -- The result is what the entry needs, or the error states why it does not exist.
  abbrev pub GivesNeeds : Result Needs CallError → Type 0
  GivesNeeds (Ok needs) = AreNeeds sources entry options needs
  GivesNeeds (Err (error.Template refusal)) = IsUncompiled sources entry options refusal
  GivesNeeds (Err error.NoMemory) = Unit {0}
  GivesNeeds (Err other) = ⊥

  -- The text lists what the entry needs.
  abbrev pub IsNeedsText : Text → Type 0
  IsNeedsText text = (needs : Needs) × AreNeeds sources entry options needs × (text ≡ needs_text needs)

  -- The result lists what the entry needs, or the error states why that does not exist.
  abbrev pub ListsNeeds : Result (String Global) CallError → Type 0
  ListsNeeds (Ok text) = IsNeedsText (string_bytes text)
  ListsNeeds (Err (error.Template refusal)) = IsUncompiled sources entry options refusal
  ListsNeeds (Err error.NoMemory) = Unit {0}
  ListsNeeds (Err other) = ⊥

  -- The result is the text of the entry's template, or the error states why it does not exist.
  abbrev pub RendersTo : Pairs → Budget → Result (String Global) CallError → Type 0
  RendersTo context b (Ok text) = IsRendered sources entry options context b (outcome.Text text)
  RendersTo context b (Err (error.Fault fault place)) =
      IsRendered sources entry options context b (outcome.Fault fault place)
  RendersTo context b (Err (error.Spent spent)) =
      IsRendered sources entry options context b (outcome.Spent spent)
  RendersTo context b (Err (error.Template refusal)) =
      IsUncompiled sources entry options refusal
  RendersTo context b (Err error.NoMemory) = Unit {0}
  RendersTo context b (Err other) = ⊥

  -- The text has the notes on the entry's chain for a context, or without one those on its blocks.
  abbrev pub HasNotes : Option Pairs → Text → Type 0
  HasNotes context text =
      (chain : Seen) × IsLinked sources entry options chain × (text ≡ notes_text chain context)

  -- An entry that compiles has the notes on its blocks, and another one has none.
  abbrev pub AreNotes : Explained → Text → Type 0
  AreNotes explained.Compiles text = HasNotes None text
  AreNotes (explained.Refused f) text = text ≡ []

  -- The text prints what holds of the entry, and the notes.
  pub record IsTold (text : Text) : Type 0 where
    pub found : Explained
    pub holds : IsExplained sources entry options found
    pub clues : Clues
    pub shown : AreCluesFor sources options found clues
    pub notes : Text
    pub noted : AreNotes found notes
    pub printed : text ≡ told sources options clues found ++ notes

  -- The result is the text of an explanation; it exists unless memory is refused.
  abbrev pub ExplainsTo : Result (String Global) CallError → Type 0
  ExplainsTo (Ok text) = IsTold (string_bytes text)
  ExplainsTo (Err e) = IsNoMemory e

  -- The text and the refusal report what holds of the entry.
  abbrev pub IsExplanation : Explanation → Type 0
  IsExplanation e = (x : Explained) × IsExplained sources entry options x × IsExplanationOf sources options x e

  -- The result is an explanation of the entry; it exists unless memory is refused.
  abbrev pub GivesExplanation : Result Explanation CallError → Type 0
  GivesExplanation (Ok e) = IsExplanation e
  GivesExplanation (Err e) = IsNoMemory e
