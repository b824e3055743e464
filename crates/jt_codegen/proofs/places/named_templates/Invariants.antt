use Rattle.std.proofs.Common.{◌≡◌, drop}
use Rattle.jt_ast.specs.Texts.{all_inserted, texts}
use Rattle.jt_image.specs.View.{texts_view}
use Rattle.jt_lower.specs.Emission.{places_view}
use Rattle.jt_lower.specs.SourceLocs.{templates_in, templates_of}
use Rattle.jt_codegen.specs.internal.Naming.{HasLast}
use Rattle.jt_codegen.proofs.places.named_templates.Given as goal

abbrev pub invariant-loop-tag : goal.invariant-loop-tag
invariant-loop-tag l = record {
  rest : all_inserted (templates_in (places_view (texts_view l.templates) (drop l.tag-index l.places)))
      (texts l.named.names.keys)
      ≡ templates_of (places_view (texts_view l.templates) l.places);
  last : HasLast (texts_view l.templates) l.named;
}
