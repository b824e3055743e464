use Rattle.std.proofs.Common.{◌∙◌, ℕ, Global, List, Vec, ap, string_bytes, subst}
use Rattle.jt_host.specs.Calls.{IsNeedsText}
use Rattle.jt_host.specs.Templates.{source_of}
use Rattle.jt_ffi.proofs.needs.list_from.Goals as goal

pub returns : goal.returns
returns c =
    let text = c.in_ok-listed_needs.field-0 in
    let listed = subst
    (λ (name : List ℕ). IsNeedsText (source_of c.args.templates.now) name c.args.options (string_bytes text))
    c.in-Ok.ensures.cases.0 c.in_ok-listed_needs.ensures in
    let same = ap (λ (v : Vec ℕ Global). v.items) c.into_bytes.ensures.value in
    (c.in-Ok.ensures.cases.1, (listed.0, listed.1, same ∙ listed.2))
