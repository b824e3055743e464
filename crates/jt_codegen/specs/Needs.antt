-- What an entry needs: the names of a context that its code reads, and the templates whose sources decide the code.
use Rattle.std.specs.Prelude.{◌≡◌, ◌≢◌, ◌↔◌, true, List, map, filter, flat_map, None, IsTrue, string_bytes, String, Vec}
use Rattle.std.specs.Option.{is_none}
use Rattle.std.specs.declared.alloc.Global.{Global}
use Rattle.jt_scan.specs.declared.options.Options.{Options}
use Rattle.jt_image.specs.Code.{Code}
use Rattle.jt_ast.specs.Expressions.{Text}
use Rattle.jt_ast.specs.Texts.{among}
use Rattle.jt_chains.specs.Chain.{templates}
use Rattle.jt_chains.specs.Includes.{needs_in}
use Rattle.jt_chains.specs.View.{Seen, sources_of}
use Rattle.jt_inherit.specs.Chains.{SourceTexts}
use Rattle.jt_semantics.specs.Ascends.{Ascends}
use Rattle.jt_codegen.specs.Compiled.{IsCompiled}
use Rattle.jt_codegen.specs.Depends.{ChainAsks}
use Rattle.jt_codegen.specs.declared.needs.Needs.{Needs}

-- The texts of a list of owned texts.
abbrev pub texts_in : Vec (String Global) Global → List Text
texts_in names = map string_bytes names.items

-- The includes of the chain, and of all that it reaches, that have no source, once for each tag.
abbrev pub missing_in : Seen → List Text
missing_in chain =
    flat_map (λ namespace.
    filter (λ name. is_none (sources_of chain name))
    (flat_map (λ file. needs_in true file.body) (templates (sources_of chain) namespace))) chain.order

module _ (given : SourceTexts) (entry : Text) (options : Options) where
  -- The entry compiles to a code with these names. Its chain requests these templates, which have
  -- sources, and these missing ones, which have none, and no others. So the entry compiles to the
  -- same code in every library that gives the same sources to the templates, and none to the
  -- missing ones. Each list ascends strictly.
  pub record AreNeeds (needs : Needs) : Type 0 where
    pub code : Code
    pub compiled : IsCompiled given entry options code
    pub names : texts_in needs.names ≡ map (λ name. name.text) code.names
    pub templates : (name : Text) → IsTrue (among name (texts_in needs.templates))
        ↔ (ChainAsks compiled.chain entry name × (given name ≢ None))
    pub missing : (name : Text) → IsTrue (among name (texts_in needs.missing))
        ↔ (ChainAsks compiled.chain entry name × (given name ≡ None))
    pub suffice : (other : SourceTexts)
        → ((name : Text) → IsTrue (among name (texts_in needs.templates)) → other name ≡ given name)
        → ((name : Text) → IsTrue (among name (texts_in needs.missing)) → other name ≡ None)
        → IsCompiled other entry options code
    pub ascend : Ascends (texts_in needs.names) × Ascends (texts_in needs.templates) × Ascends (texts_in needs.missing)
