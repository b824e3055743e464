-- Definitions for the contracts of private functions: the results of calls and of plans.
use Rattle.std.specs.Prelude.{Result, Ok, Err}
use Rattle.jt_value.specs.declared.fault.Fault.{Fault}
use Rattle.jt_value.specs.Tree.{Tree, text, list}
use Rattle.jt_value.specs.View.{entries_view}
use Rattle.jt_filter_semantics.specs.Filtering.{filtered}
use Rattle.jt_filter_semantics.specs.Listing.{joined_by, pair_items}
use Rattle.jt_filter_semantics.specs.Ordering.{distinct}
use Rattle.jt_filter_semantics.specs.Texts.{replaced_behind}
use Rattle.jt_filters.specs.declared.operand.Operand.{Operand}
use Rattle.jt_filters.specs.declared.planning.Call.{Call}
use Rattle.jt_filters.specs.declared.plans.Plan.{Plan}
use Rattle.jt_filters.specs.declared.plans.Plan.TheVariants as plan
use Rattle.jt_filters.specs.internal.Operands.{tree_of, items_in, inputs}
use Rattle.jt_filters.specs.internal.Ranks.{arranged}
use Rattle.jt_filters.specs.internal.TextChanges.{texted}

-- The result of a call on an input.
abbrev pub called : Call → Operand → Result Tree Fault
called c o = filtered c.filter c.autoescape (inputs o c.arguments.now)

-- The result that a plan is of.
abbrev pub made : Plan → Result Tree Fault
made (plan.Operand o) = Ok (tree_of o)
made (plan.Text o c) = texted c (tree_of o)
made (plan.Replaced r) = Ok (text (replaced_behind 0 r.old.now r.new.now r.text.now))
made (plan.List is a) = Ok (list (arranged a (items_in is)))
made (plan.Pairs es a) = Ok (list (arranged a (pair_items (entries_view es.now))))
made (plan.Unique is) = distinct (items_in is)
made (plan.Joined is s autoescape) = joined_by autoescape (tree_of s) (items_in is)

-- The result of a plan, or the fault.
abbrev pub planned : Result Plan Fault → Result Tree Fault
planned (Ok p) = made p
planned (Err f) = Err f
