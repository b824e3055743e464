use Rattle.std.proofs.Common.{◌≡◌, ◌∙◌, ◌++◌, [], ◌∷◌, List, String, Global, string_bytes, ap, append_assoc, sym}
use Rattle.std.proofs.lemmas.List.{map-append}
use Rattle.jt_value.specs.View.{text_keyed}
use Rattle.jt_value.specs.declared.text.Text.{Text}
use Rattle.jt_value.specs.declared.value.Value.{Value}
use Rattle.jt_value.proofs.entries.with_text_keys.Goals as goal

pub loop-key-preserved : goal.loop-key-preserved
loop-key-preserved c =
    let done = c.loop-key.yielded in
    let e : String Global × Value = (c.in-Some.key, c.in-Some.value) in
    let left = c.next.new.self.rest.items in
    let all : c.args.entries.items ≡ done ++ e ∷ left =
    c.loop-key.invariant.0 ∙ ap (λ es. done ++ es) c.in-Some.ensures.steps.0 in (
      all ∙ sym (append_assoc done (e ∷ []) left),
      c.in_ok-push.ensures.items
          ∙ ap (λ (es : List (Text × Value)). es ++ (c.in_ok-from_string.field-0, c.in-Some.value) ∷ [])
          c.loop-key.invariant.1
          ∙ ap (λ (k : Text). text_keyed done ++ (k, c.in-Some.value) ∷ []) c.in_ok-from_string.ensures
          ∙ sym (map-append (λ (y : String Global × Value). (string_bytes y.0, y.1)) done (e ∷ [])),
    )
