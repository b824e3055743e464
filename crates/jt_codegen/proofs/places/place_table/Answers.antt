use Rattle.std.proofs.Common.{List, sym, ap, ◌∙◌, subst, arith, rules}
use Rattle.std.specs.List.{AllByRecursion}
use Rattle.jt_image.specs.View.{texts_view}
use Rattle.jt_ast.specs.Expressions.{Text}
use Rattle.jt_ast.specs.Texts.{texts}
use Rattle.jt_lower.specs.Emission.{places_view}
use Rattle.jt_semantics.proofs.NameCounts.{ascending_ascends}
use Rattle.jt_codegen.specs.internal.Naming.{IsNamed}
use Rattle.jt_codegen.proofs.PlaceTables.{all_named}
use Rattle.jt_codegen.proofs.places.place_table.Goals as goal

pub locs_of-requires-clause-named : goal.locs_of-requires-clause-named
locs_of-requires-clause-named c =
    let qs = places_view (texts_view c.args.templates.now) c.args.places.now in
    subst (λ (ns : List Text). AllByRecursion (IsNamed ns) qs)
    (sym (ap texts c.deref.ensures.value ∙ c.in_ok-named.ensures)) (all_named qs)

pub locs_of-requires-clause-ascend : goal.locs_of-requires-clause-ascend
locs_of-requires-clause-ascend c = search (arith, rules, ascending_ascends)
