use Rattle.std.proofs.Common.{◌≡◌, [], take, true, false, string_bytes, arith, rules}
use Rattle.std.proofs.lemmas.List.{take_all}
use Rattle.jt_image.specs.View.{texts_view}
use Rattle.jt_image.specs.Reading.{follows, last_text}
use Rattle.jt_image.proofs.TrailerRoundTrip.{Follows}
use Rattle.jt_image.proofs.ReadPrefix.{seen_more, good_push, good_at}
use Rattle.jt_image.proofs.AssembleCorrect.{in_order_texts, all_next_texts}
use Rattle.jt_image.proofs.assembling.templates_are_in_order.Goals as goal

pub returns-then-not-follows : goal.returns-then-not-follows
returns-then-not-follows c = (
  λ no. absurd cc,
  λ h.
      let x = c.index-templates-index.result in
      let before = texts_view (take c.templates.index c.args.templates.now) in
      let yes : follows (last_text before) (string_bytes x) ≡ true = rw c.index-templates-index.is
      (good_at Follows string_bytes [] c.args.templates.now c.templates.index x c.templates-test.true
      (all_next_texts (texts_view c.args.templates.now) h)) in
      let no : follows (last_text before) (string_bytes x) ≡ false =
      rw (← c.last_text.ensures, ← c.as_str.ensures.value, ← c.follows.ensures) c.if-not-follows.true in
      absurd cc,
)

pub templates-preserved : goal.templates-preserved
templates-preserved c =
    let x = c.index-templates-index.result in
    let before = texts_view (take c.templates.index c.args.templates.now) in
    let yes : Follows before (string_bytes x) =
    rw (← c.last_text.ensures, ← c.as_str.ensures.value, ← c.follows.ensures) c.if-not-follows.false in
    rw
    (seen_more string_bytes c.args.templates.now c.templates.index x c.templates-test.true c.index-templates-index.is)
    (good_push Follows [] before (string_bytes x) yes c.templates.invariant)

pub returns : goal.returns
returns c = search (arith, rules, take_all, in_order_texts)
