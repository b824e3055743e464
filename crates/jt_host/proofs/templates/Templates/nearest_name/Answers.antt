use Rattle.std.proofs.Common.{◌≡◌, ◌∙◌, ℕ, List, Bor, ap, map, option_map, string_bytes, sym}
use Rattle.jt_host.specs.Templates.{source_of}
use Rattle.jt_host.proofs.TemplateNear.{copy_is_near}
use Rattle.jt_host.proofs.templates.Templates.nearest_name.Goals as goal

pub returns-in-Some-source : goal.returns-in-Some-source
returns-in-Some-source c =
    copy_is_near (source_of c.args.self.now) c.args.name.now c.in-Some.near.now
    (string_bytes c.in_ok-from_str-in-Some-source.field-0) (map (λ x. x.now) c.deref.result.now)
    c.in-Some-source.field-0.now
    (sym c.nearest.ensures ∙ ap (option_map (λ (b : Bor (List ℕ)). b.now)) c.in-Some.is)
    (sym c.source.ensures ∙ ap (option_map (λ (b : Bor (List ℕ)). b.now)) c.in-Some-source.is)
    c.in_ok-from_str-in-Some-source.ensures.ok
