use Rattle.std.proofs.lemmas.Option.{get_or_from_slice_get}
use Rattle.jt_bind.proofs
use proofs.{files_in, ◌≡◌, parameters_view, macro_view, namespace_at, Macro, of_namespace, order_in, ap, ◌∙◌}
use Rattle.jt_bind.proofs.tables.Tables.macro_at.Goals as goal

pub returns : goal.returns
returns c =
    let scope = c.args.self.now in
    let x = c.args.name.now in
    let h = namespace_at (order_in scope) c.args.namespace in
    let there = c.at-there.result.now in
    let ts = files_in scope in
    let i = c.in-Some.index in
    let namespace_layout = c.at-there.ensures in
    let at = rw (← c.index_of.ensures, c.in-Some.is) at (namespace_layout.by_names x) in
    let found : c.index-found.result.now ≡ at.code =
    c.index-found.ensures
    ∙ get_or_from_slice_get there.known.now.macros.items i at.code c.index-found.result.now at.found in (
      h,
      macro_view ts at.code,
      (
        record {
          takes = ap (λ (m : Macro). parameters_view m.parameters.now) found;
          runs = c.in_ok-checked_sum.ensures ∙ at.macro_unit;
          defaults =
              c.index.ensures ∙ get_or_from_slice_get there.defaults.items i _ c.index.result.now at.first_default;
        },
        ap (of_namespace h) at.meant,
      ),
    )
