use Rattle.std.proofs.Common.{ℕ, ◌-◌, List, ◌++◌, ap, ◌∙◌, arith}
use Rattle.jt_value.specs.Falls.{sizes-items, sizes-entries}
use Rattle.jt_value.specs.Tree.{items_size, entries_size}
use Rattle.jt_value.specs.View.{view}
use Rattle.jt_value.specs.declared.payload.ValueList.TheDeep.{size-Value}
use Rattle.jt_filters.specs.internal.Codes.{code}
use Rattle.jt_filters.proofs.RowsPut.{row_put}
use Rattle.jt_filters.proofs.codes.+codes.Goals as goal

pub push_list-push_items-requires : goal.push_list-push_items-requires
push_list-push_items-requires t c =
    (omega (arith, sizes-items c.in-Values.values.now, ap items_size c.in-Values.ensures), tt)

pub push_value-rows_of-requires : goal.push_value-rows_of-requires
push_value-rows_of-requires t c = (
  omega (
    arith,
    sizes-entries c.entries.result.now,
    ap entries_size (c.entries.ensures ∙ c.deref-in-Map.ensures),
    ap size-Value c.in-Map.is,
  ),
  tt,
)

pub rows_of-loop-left-preserved : goal.rows_of-loop-left-preserved
rows_of-loop-left-preserved t c =
    let e = c.index-entries-left.result in
    record {
      inside = omega (arith, c.loop-left.invariant.inside);
      same =
          row_put c.args.entries.now c.loop-left.left (c.loop-left.left - 1) e c.loop-left.rows.entries
          c.put_row.new.rows.entries c.as_str.result c.push_value.new.bytes
          (omega (arith, c.loop-left-test.true)) (omega (arith, c.loop-left-test.true, c.loop-left.invariant.inside))
          c.index-entries-left.is
          c.in_ok-put_row.ensures c.as_str.ensures
          (c.in_ok-push_value.ensures ∙ ap (λ (s : List ℕ). s ++ code (view e.1)) c.new-bytes.ensures.items)
          c.loop-left.invariant.same;
    }
