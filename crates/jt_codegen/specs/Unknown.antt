-- The names of unknown filters and tests in the source of a template.
use Rattle.std.specs.Prelude.{◌≡◌, ◌⊎◌, ℕ, suc, true, List, [], ◌∷◌, map, Some}
use Rattle.jt_scan.specs.Cut.{Segment, IsCut}
use Rattle.jt_scan.specs.declared.options.Options.{Options}
use Rattle.jt_ids.specs.FilterTable.{named_at}
use Rattle.jt_ids.specs.declared.filter_id.FilterId.{FilterId}
use Rattle.jt_ast.specs.Expressions.{Text, Exprs, no_exprs, expr}
use Rattle.jt_ast.specs.Statements.{Body}
use Rattle.jt_ast.specs.Written.{literal_text, filter_written}
use Rattle.jt_expr.specs.Named.{unknown_filter, unknown_test, argument_unknown}
use Rattle.jt_expr.specs.declared.named.Named.{Named}
use Rattle.jt_parse.specs.Grammar.{Spelled}
use Rattle.jt_parse.specs.Kept.{pieces}
use Rattle.jt_inherit.specs.Chains.{SourceTexts, scanned}
use Rattle.jt_uses.specs.Uses as uses
use Rattle.jt_uses.specs.Uses.{Site, body_uses, outside}

-- One of the arguments, which are counted from `place`, has this text, names a filter or a test, and
-- none of them has the name.
abbrev pub NamedIn : Named → FilterId → ℕ → Exprs → Text → Type 0
NamedIn wanted filter place no_exprs x = ⊥
NamedIn wanted filter place (expr first rest) x =
    ((literal_text first ≡ Some x) × (argument_unknown wanted (named_at filter place) (Some x) ≡ true))
    ⊎ NamedIn wanted filter (suc place) rest x

-- The use names a filter or a test, and none of them has the name. The use is a filter or a test of
-- this name, or a filter with it as an argument.
abbrev pub NamesUnknown : Named → Text → uses.Use → Type 0
NamesUnknown wanted x (uses.filters y ts ps) =
    ((x ≡ y) × (unknown_filter wanted x ≡ true))
    ⊎ ((filter : FilterId) × (filter_written y ts ps ≡ Some filter) × NamedIn wanted filter 1 ts x)
NamesUnknown wanted x (uses.tests y ts ps) = (x ≡ y) × (unknown_test wanted x ≡ true)
NamesUnknown wanted x u = ⊥

-- The use is at the line, and names this unknown filter or test.
abbrev pub NamesAt : ℕ → Named → Text → Site → Type 0
NamesAt line wanted x s = (s.place.line ≡ line) × NamesUnknown wanted x s.made

-- The first use at the line that names an unknown filter or test names this one.
abbrev pub StandsAt : ℕ → Named → Text → List Site → Type 0
StandsAt line wanted x [] = ⊥
StandsAt line wanted x (s ∷ ss) =
    NamesAt line wanted x s ⊎ (((y : Text) → NamesAt line wanted y s → ⊥) × StandsAt line wanted x ss)

-- The source is cut into segments that spell a tree, whose uses have the property.
pub record HasUses (options : Options) (source : Text) (P : List Site → Type 0) : Type 0 where
  pub segments : List Segment
  pub cut : IsCut segments (scanned options source)
  pub body : Body
  pub spelled : Spelled body (pieces (map (λ s. (options, s)) segments))
  pub holds : P (body_uses body outside)

-- The template has a source. Its first tag at the line that names an unknown filter or test names this one.
pub record HasUnknown (given : SourceTexts) (options : Options) (template : Text) (line : ℕ) (wanted : Named)
    (x : Text) : Type 0 where
  pub source : Text
  pub found : given template ≡ Some source
  pub uses : HasUses options source (StandsAt line wanted x)
