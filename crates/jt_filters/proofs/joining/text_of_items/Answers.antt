use Rattle.std.proofs.Common.{◌≡◌, string_bytes, rules}
use Rattle.std.specs.Prelude.{Err}
use Rattle.jt_escape.specs.Joining.{joined_text}
use Rattle.jt_ops.specs.Pieces.{written}
use Rattle.jt_filters.specs.internal.JoinedTexts.{led_text}
use Rattle.jt_filters.specs.internal.Operands.{tree_of, items_in}
use Rattle.jt_filters.proofs.JoinedTexts.{joined_all, joined_led, fails_as}
use Rattle.jt_filters.proofs.joining.text_of_items.Goals as goal

pub returns-in_ok-append_led-in-Some : goal.returns-in_ok-append_led-in-Some
returns-in_ok-append_led-in-Some c =
    joined_led c.args.escaping (tree_of c.args.separator) (tree_of c.in-Some.first) (items_in c.args.items)
    (items_in c.in-Some.behind) (written c.piece_of-between.result) (string_bytes c.new-text.result)
    (string_bytes c.append_piece.new.into) (string_bytes c.append_led.new.into) c.in-Some.ensures.some
    c.piece_of-between.ensures c.new-text.ensures.bytes c.in_ok-append_piece-in-Some.ensures
    c.in_ok-append_led-in-Some.ensures

pub returns-in_err-append_led-in-Some : goal.returns-in_err-append_led-in-Some
returns-in_err-append_led-in-Some c =
    let e = c.in_err-append_led-in-Some.field-0.0 in
    let passed : c.from_residual-in_err-append_led-in-Some.result ≡ Err e = search rules in
    fails_as c.from_residual-in_err-append_led-in-Some.result e
    (joined_text c.args.escaping (items_in c.args.items) (tree_of c.args.separator))
    (led_text c.args.escaping (string_bytes c.append_piece.new.into) (written c.piece_of-between.result)
    (items_in c.in-Some.behind))
    (string_bytes c.append_led.new.into) passed
    (joined_all c.args.escaping (tree_of c.args.separator) (tree_of c.in-Some.first) (items_in c.args.items)
    (items_in c.in-Some.behind) (written c.piece_of-between.result) (string_bytes c.new-text.result)
    (string_bytes c.append_piece.new.into) c.in-Some.ensures.some c.piece_of-between.ensures
    c.new-text.ensures.bytes c.in_ok-append_piece-in-Some.ensures)
    c.in_err-append_led-in-Some.ensures
