use Rattle.std.proofs.Common.{◌-◌}
use Rattle.jt_image.specs.InPlace.{template_in, HasTemplate}
use Rattle.jt_image.specs.Reading.{all_templates_at, template_at}
use Rattle.jt_image.proofs.TableWalk.{Walks}
use Rattle.jt_image.proofs.trailer.all_templates_at.Given as goal

abbrev pub invariant-templates : goal.invariant-templates
invariant-templates l =
    Walks template_in HasTemplate template_at (all_templates_at l.front) l.bytes (l.count - l.counter) l.templates.items
    l.rest
