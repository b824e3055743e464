-- The law of dependence: a compiled code depends on the sources alone that the entry's chain requests.
use Rattle.std.specs.Prelude.{◌≡◌}
use Rattle.jt_scan.specs.declared.options.Options.{Options}
use Rattle.jt_image.specs.Code.{Code}
use Rattle.jt_ast.specs.Expressions.{Text}
use Rattle.jt_chains.specs.Chain.{a_chain}
use Rattle.jt_chains.specs.Rules.{Asks}
use Rattle.jt_chains.specs.View.{Seen, sources_of}
use Rattle.jt_inherit.specs.Chains.{SourceTexts}
use Rattle.jt_codegen.specs.Compiled.{IsCompiled}

-- The chain requests the name, even if only where it may be missing.
abbrev pub ChainAsks : Seen → Text → Text → Type 0
ChainAsks chain entry name = Asks (sources_of chain) chain.escaping (a_chain entry) name

-- Both libraries give the same source, or none, to each name that the chain requests.
abbrev pub SameSources : Seen → Text → SourceTexts → SourceTexts → Type 0
SameSources chain entry given other = (name : Text) → ChainAsks chain entry name → given name ≡ other name

-- A code to which the entry compiles in one library is one to which it compiles in every library
-- that gives the same source, or none, to each name that the entry's chain requests.
abbrev pub CompilesAlike : Type 0
CompilesAlike =
    (given other : SourceTexts) (entry : Text) (options : Options) (code : Code)
    (compiled : IsCompiled given entry options code)
    → SameSources compiled.chain entry given other
    → IsCompiled other entry options code
