use Rattle.std.proofs.Common.{◌≡◌, ◌∙◌, ◌+◌, ◌++◌, ◌-◌, ◌<◌, Err, List, arith, drop, false, get_or, length, length-drop}
use Rattle.std.proofs.Common.{subst, sym, take, true, ℕ}
use Rattle.std.proofs.lemmas.Result.{err_from_is_err_and}
use Rattle.std.proofs.lemmas.List.{take_all}
use Rattle.std.specs.Char.{is_ascii_control}
use Rattle.jt_escape.proofs.EscapedTextCorrect.{none_more, plain_more, special_more, still_shown}
use Rattle.jt_turns.specs.Shown.{escape}
use Rattle.jt_program.specs.Reports.{Puts}
use Rattle.jt_program.proofs.SinkLines.{puts_begun, puts_behind}
use Rattle.jt_program.proofs.reports.put_escaped.Goals as goal
use Rattle.jt_program.proofs.reports.put_escaped.Goals.{then-is_ascii_control+in_ok-put+in_ok-put_escape}
use Rattle.jt_program.proofs.reports.put_escaped.Goals.{else-is_ascii_control}

-- What is still to be shown once all bytes before `at` are written.
abbrev left : List ℕ → ℕ → List ℕ
left text at = still_shown is_ascii_control escape text at at

pub loop-at-init : goal.loop-at-init
loop-at-init g c = record { order = omega arith; within = omega arith; so = λ new f r h. h }

pub loop-at-preserved : goal.loop-at-preserved
loop-at-preserved g c =
    let text = c.args.text.now in
    let plain = c.loop-at.plain in
    let at = c.loop-at.at in
    let old = g.E.Sink.taken c.loop-at.errors in
    let order = c.loop-at.invariant.order in
    let inside = c.loop-at-test.true in
    elim c.if-is_ascii_control.branch [
      | then-is_ascii_control+in_ok-put+in_ok-put_escape w ↦
          let is : is_ascii_control (get_or text at 0) ≡ true =
          sym c.is_ascii_control.ensures.value ∙ w.if-is_ascii_control.true in
          let pending = take (at - plain) (drop plain text) in
          let byte = escape (get_or text at 0) in
          let behind = left text (at + 1) in
          let mid = g.E.Sink.taken w.put.new.errors in
          let last = g.E.Sink.taken w.put_escape.new.errors in
          record {
            order = rw w.plain-is (omega arith);
            within = rw w.plain-is (omega (arith, inside));
            so =
                rw (w.plain-is, w.errors-is) (λ new f r h. c.loop-at.invariant.so new f r
                (subst (λ (l : List ℕ). Puts l old new f r) (sym (special_more is_ascii_control escape text plain at
                inside is))
                (puts_behind pending (byte ++ behind) old mid new f r w.in_ok-put.ensures.1
                (puts_behind byte behind mid last new f r w.in_ok-put_escape.ensures.1 h))));
          }
      | else-is_ascii_control w ↦
          let is : is_ascii_control (get_or text at 0) ≡ false =
          sym c.is_ascii_control.ensures.value ∙ w.if-is_ascii_control.false in
          record {
            order = rw w.plain-is (omega (arith, order));
            within = rw w.plain-is c.loop-at.invariant.within;
            so =
                rw (w.plain-is, w.errors-is) (λ new f r h. c.loop-at.invariant.so new f r
                (subst (λ (l : List ℕ). Puts l old new f r) (sym (plain_more is_ascii_control escape text plain at
                order inside is)) h));
          }
    ]

pub returns-in_err-put : goal.returns-in_err-put
returns-in_err-put g c =
    let p = err_from_is_err_and c.from_residual.result c.from_residual.ensures.1 in
    let text = c.args.text.now in
    let plain = c.loop-at.plain in
    let at = c.loop-at.at in
    let old = g.E.Sink.taken c.loop-at.errors in
    let new = g.E.Sink.taken c.put.new.errors in
    let f = g.E.Sink.failed c.put.new.errors in
    let is : is_ascii_control (get_or text at 0) ≡ true =
    sym c.is_ascii_control.ensures.value ∙ c.if-is_ascii_control.true in
    rw p.1 (c.loop-at.invariant.so new f (Err p.0)
    (subst (λ (l : List ℕ). Puts l old new f (Err p.0)) (sym (special_more is_ascii_control escape text plain at
    c.loop-at-test.true is))
    (puts_begun (take (at - plain) (drop plain text)) (escape (get_or text at 0) ++ left text (at + 1))
    old new f p.0 c.in_err-put.ensures)))

pub returns-in_err-put_escape : goal.returns-in_err-put_escape
returns-in_err-put_escape g c =
    let p = err_from_is_err_and c.from_residual-in_err-put_escape.result c.from_residual-in_err-put_escape.ensures.1 in
    let text = c.args.text.now in
    let plain = c.loop-at.plain in
    let at = c.loop-at.at in
    let old = g.E.Sink.taken c.loop-at.errors in
    let mid = g.E.Sink.taken c.put.new.errors in
    let new = g.E.Sink.taken c.put_escape.new.errors in
    let f = g.E.Sink.failed c.put_escape.new.errors in
    let byte = escape (get_or text at 0) in
    let behind = left text (at + 1) in
    let is : is_ascii_control (get_or text at 0) ≡ true =
    sym c.is_ascii_control.ensures.value ∙ c.if-is_ascii_control.true in
    rw p.1 (c.loop-at.invariant.so new f (Err p.0)
    (subst (λ (l : List ℕ). Puts l old new f (Err p.0)) (sym (special_more is_ascii_control escape text plain at
    c.loop-at-test.true is))
    (puts_behind (take (at - plain) (drop plain text)) (byte ++ behind) old mid new f (Err p.0) c.in_ok-put.ensures.1
    (puts_begun byte behind mid new f p.0 c.in_err-put_escape.ensures))))

pub returns : goal.returns
returns g c =
    let old = g.E.Sink.taken c.loop-at.errors in
    let new = g.E.Sink.taken c.put-2.new.errors in
    let f = g.E.Sink.failed c.put-2.new.errors in
    let text = c.args.text.now in
    let plain = c.loop-at.plain in
    let whole : take (length text - plain) (drop plain text) ≡ drop plain text =
    take_all (length text - plain) (drop plain text) (omega (arith, length-drop plain text)) in
    c.loop-at.invariant.so new f c.put-2.result
    (subst (λ (l : List ℕ). Puts l old new f c.put-2.result)
    (whole ∙ sym (none_more is_ascii_control escape text plain c.loop-at.at c.loop-at-test.false)) c.put-2.ensures)
