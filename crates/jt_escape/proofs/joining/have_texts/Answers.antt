use Rattle.std.proofs.Common.{◌∙◌}
use Rattle.jt_value.specs.View.{view, items_view}
use Rattle.jt_escape.proofs.JoinSteps.{joined_some}
use Rattle.jt_escape.proofs.joining.have_texts.Goals as goal

pub returns-then-is_printable : goal.returns-then-is_printable
returns-then-is_printable c =
    λ escaping. joined_some escaping (items_view c.args.items.now) (view c.args.separator.now) ∙ cc
