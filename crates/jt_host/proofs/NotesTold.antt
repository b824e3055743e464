-- The notes on what is explained: an entry that compiles has notes, and a refused one has none.
use Rattle.std.proofs.Common.{◌≡◌, ◌∙◌, ◌++◌, [], None, Some, ap, string_bytes}
use Rattle.jt_scan.specs.declared.Options.{Options}
use Rattle.jt_ast.specs.Expressions.{Text}
use Rattle.jt_inherit.specs.Chains.{SourceTexts}
use Rattle.jt_codegen.specs.declared.Explained.{Explained}
use Rattle.jt_codegen.specs.declared.Explained.TheVariants as explained
use Rattle.jt_host.specs.Calls.{AreNotes, HasNotes, IsExplanation, IsTold}
use Rattle.jt_host.specs.Explanations.{IsRefusalOf}
use Rattle.jt_host.specs.declared.explanation.Explanation.{Explanation}
use Rattle.jt_host.specs.declared.explanation.TemplateRefusal.{TemplateRefusal}

pub notes_of_compiled : (sources : SourceTexts) (entry : Text) (options : Options) (x : Explained) (notes : Text)
    → IsRefusalOf x None → HasNotes sources entry options None notes → AreNotes sources entry options x notes
notes_of_compiled sources entry options explained.Compiles notes r h = h
notes_of_compiled sources entry options (explained.Refused f) notes r h = absurd r

pub notes_of_refused : (sources : SourceTexts) (entry : Text) (options : Options) (x : Explained) (notes : Text)
    (r : TemplateRefusal) → IsRefusalOf x (Some r) → notes ≡ [] → AreNotes sources entry options x notes
notes_of_refused sources entry options explained.Compiles notes r is none = absurd is
notes_of_refused sources entry options (explained.Refused f) notes r is none = none

-- The text of an explanation, with the notes after it, prints what holds of the entry.
pub told_with_notes : (sources : SourceTexts) (entry : Text) (options : Options) (e : Explanation) (notes whole : Text)
    → IsExplanation sources entry options e
    → ((x : Explained) → IsRefusalOf x e.refusal → AreNotes sources entry options x notes)
    → whole ≡ string_bytes e.text ++ notes → IsTold sources entry options whole
told_with_notes sources entry options e notes whole is noted same = record {
  found = is.0;
  holds = is.1;
  clues = is.2.clues;
  shown = is.2.shown;
  notes = notes;
  noted = noted is.0 is.2.refusal;
  printed = same ∙ ap (λ t. t ++ notes) is.2.text;
}
