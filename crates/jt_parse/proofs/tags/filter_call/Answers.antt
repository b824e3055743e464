use Rattle.std.proofs.Common.{rules, refl, Ok, Err}
use Rattle.jt_expr.specs.Promises.{Reads, OpensNone}
use Rattle.jt_expr.specs.Cursor.{ahead}
use Rattle.jt_parse.specs.Tags.{IsFilterCall}
use Rattle.jt_parse.specs.internal.Readers.{one_filter_call_levels}
use Rattle.jt_ast.specs.StatementView.{filter_call_view}
use Rattle.jt_parse.proofs.TagParts.{filter_call_unnamed, filter_call_last}
use Rattle.jt_parse.proofs.tags.filter_call.Goals as goal

pub returns-in_err-name : goal.returns-in_err-name
returns-in_err-name c =
    let q =
    filter_call_unnamed c.args.levels (ahead c.args.cursor.now) _ _ (ahead c.target.new.cursor) c.in_err-name.ensures in
    search rules

pub returns-in_err-items : goal.returns-in_err-items
returns-in_err-items c =
    let q : Reads filter_call_view IsFilterCall OpensNone one_filter_call_levels c.args.levels (ahead c.args.cursor.now)
    (Err c.in_err-items.field-0.0) (ahead c.arguments.new.cursor) =
    filter_call_last c.args.levels (ahead c.args.cursor.now) c.in_ok-name.name (ahead c.target.new.cursor)
    c.in_ok-name.ensures (Err c.in_err-items.field-0.0) _ c.in_err-items.ensures.promises _ in
    search rules

pub returns : goal.returns
returns c =
    filter_call_last c.args.levels (ahead c.args.cursor.now) c.in_ok-name.name (ahead c.target.new.cursor)
    c.in_ok-name.ensures (Ok c.in_ok-items.field-0) (ahead c.arguments.new.cursor) c.in_ok-items.ensures.promises
    (record {
      name = c.in_ok-name.name;
      arguments = c.in_ok-items.field-0.items;
      keywords = c.in_ok-items.field-0.pairs;
    }) refl
