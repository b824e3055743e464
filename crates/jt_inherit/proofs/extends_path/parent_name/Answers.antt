use Rattle.jt_inherit.proofs.Vocabulary as words
use words.{◌∙◌, ℕ, Some, sym, ap, arith, rules, string_bytes, extends_at, Bor, Text, file_view, option_map}
use Rattle.jt_inherit.proofs.TagPlaces.{extends_none, extends_tag}
use Rattle.jt_inherit.proofs.extends_path.parent_name.Goals as goal

pub returns-in_default : goal.returns-in_default
returns-in_default c = search (arith, rules, extends_none)

pub returns : goal.returns
returns c =
    extends_tag (file_view c.args.file.now) (string_bytes c.in_ok-name.name)
    (record { template = c.in_ok-template.template; line = c.in-Some.tag.1 })
    (sym (c.parent_of.ensures ∙ ap extends_at c.body.ensures)
    ∙ ap (option_map (λ (p : Bor Text × ℕ). (p.0.now, p.1))) c.in-Some.is
    ∙ ap (λ (n : Text). Some (n, c.in-Some.tag.1)) (sym c.in_ok-name.ensures.ok))
    (c.in_ok-template.ensures.ok ∙ c.deref.ensures)
