use Rattle.std.proofs.Common.{◌≡◌, ◌∙◌, ◌++◌, ◌/◌, ◌%◌, Err, List, codes, subst, sym, ℕ}
use Rattle.std.proofs.lemmas.Result.{err_from_is_err_and}
use Rattle.jt_turns.specs.Shown.{hex_digit}
use Rattle.jt_program.specs.Reports.{Puts}
use Rattle.jt_program.proofs.SinkLines.{puts_begun, puts_behind}
use Rattle.jt_program.proofs.reports.put_escape.Goals as goal

pub returns-in_err-put : goal.returns-in_err-put
returns-in_err-put g c =
    let p = err_from_is_err_and c.from_residual.result c.from_residual.ensures.1 in
    let digits = hex_digit (c.args.byte / 16) ++ hex_digit (c.args.byte % 16) in
    rw p.1 (puts_begun (codes "\\x") digits (g.E.Sink.taken c.args.errors.now) (g.E.Sink.taken c.put.new.errors)
    (g.E.Sink.failed c.put.new.errors) p.0 c.in_err-put.ensures)

pub returns-in_err-put-2 : goal.returns-in_err-put-2
returns-in_err-put-2 g c =
    let p = err_from_is_err_and c.from_residual-in_err-put-2.result c.from_residual-in_err-put-2.ensures.1 in
    let high = hex_digit (c.args.byte / 16) in
    let low = hex_digit (c.args.byte % 16) in
    let old = g.E.Sink.taken c.args.errors.now in
    let mid = g.E.Sink.taken c.put.new.errors in
    let new = g.E.Sink.taken c.put-2.new.errors in
    let f = g.E.Sink.failed c.put-2.new.errors in
    let first : c.as_bytes.result.now ≡ high = c.as_bytes.ensures.value ∙ c.hex_digits.ensures.high in
    let begun = puts_begun high low mid new f p.0
    (subst (λ (l : List ℕ). Puts l mid new f (Err p.0)) first c.in_err-put-2.ensures) in
    rw p.1 (puts_behind (codes "\\x") (high ++ low) old mid new f (Err p.0) c.in_ok-put.ensures.1 begun)

pub returns : goal.returns
returns g c =
    let high = hex_digit (c.args.byte / 16) in
    let low = hex_digit (c.args.byte % 16) in
    let old = g.E.Sink.taken c.args.errors.now in
    let mid = g.E.Sink.taken c.put.new.errors in
    let last = g.E.Sink.taken c.put-2.new.errors in
    let new = g.E.Sink.taken c.put-3.new.errors in
    let f = g.E.Sink.failed c.put-3.new.errors in
    let r = c.put-3.result in
    let first : c.as_bytes.result.now ≡ high = c.as_bytes.ensures.value ∙ c.hex_digits.ensures.high in
    let second : c.as_bytes-2.result.now ≡ low = c.as_bytes-2.ensures.value ∙ c.hex_digits.ensures.low in
    let third = subst (λ (l : List ℕ). Puts l last new f r) second c.put-3.ensures in
    let both = subst (λ (l : List ℕ). Puts (l ++ low) mid new f r) first
    (puts_behind c.as_bytes.result.now low mid last new f r c.in_ok-put-2.ensures.1 third) in
    puts_behind (codes "\\x") (high ++ low) old mid new f r c.in_ok-put.ensures.1 both
