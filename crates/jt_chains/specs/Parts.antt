-- The views in contracts of the macros of a chain and of the bodies of its blocks.
use Rattle.std.specs.Prelude.{ℕ, List, [], map, slice_get, unwrap_or, option_map}
use Rattle.jt_ast.specs.StatementView.{parameters_view, body_view}
use Rattle.jt_chains.specs.Chain.{Template, MacroBody, BlockBody, Text}
use Rattle.jt_chains.specs.declared.parts.Macro.{Macro}
use Rattle.jt_chains.specs.declared.parts.Block.{Block}

-- The name of the template at an index.
abbrev pub name_at : List Template → ℕ → Text
name_at ts i = unwrap_or (option_map (λ t. t.name) (slice_get ts i)) []

module _ (ts : List Template) where
  abbrev pub macro_view : Macro → MacroBody
  macro_view m =
      record {
        name = m.name.now;
        template = name_at ts m.template;
        parameters = parameters_view m.parameters.now;
        body = body_view m.body.now;
      }

  abbrev pub block_view : Block → BlockBody
  block_view b =
      record {
        template = name_at ts b.template;
        name = b.name.now;
        scoped = b.scoped;
        required = b.required;
        escaping = b.escaping;
        body = body_view b.body.now;
      }

  abbrev pub macros_view : List Macro → List MacroBody
  macros_view = map macro_view

  abbrev pub blocks_view : List Block → List BlockBody
  blocks_view = map block_view
