use Rattle.std.proofs.Common.{◌≡◌, ◌∙◌, ◌++◌, ◌<◌, List, ap, arith, get_or, length, refl, string_bytes, sym, true}
use Rattle.std.proofs.Common.{false, ℕ}
use Rattle.std.proofs.lemmas.Str.{IsCharBoundary-after_ascii, IsCharBoundary-start}
use Rattle.jt_escape.proofs.EscapedTextCorrect.{plain_more, pushed}
use Rattle.jt_escape.proofs.showing.push_shown.Goals as goal
use Rattle.jt_escape.proofs.showing.push_shown.Goals.{then-is_special+in_ok-push_str+in_ok-push_escape}
use Rattle.jt_escape.proofs.showing.push_shown.Goals.{else-is_special}

pub loop-at-init : goal.loop-at-init
loop-at-init g c = record {
  order = omega arith;
  boundary = IsCharBoundary-start _ c.utf8.text;
  same = refl;
}

pub loop-at-preserved : goal.loop-at-preserved
loop-at-preserved g c =
    let e = g.E.Escapes in
    let text = c.args.text.now in
    let at = c.loop-at.at in
    let byte : get_or c.as_bytes-byte-items.result.now at 0 ≡ get_or text at 0 =
    ap (λ (xs : List ℕ). get_or xs at 0) c.as_bytes-byte-items.ensures.value in
    let inside : at < length text = rw c.as_bytes-byte-items.ensures.value at c.loop-at-test.true in
    let test : e.is_special (get_or text at 0) ≡ c.is_special.result =
    ap e.is_special (sym byte) ∙ sym c.is_special.ensures in
    elim c.if-is_special.branch [
      | then-is_special+in_ok-push_str+in_ok-push_escape w ↦
          let is : e.is_special (get_or text at 0) ≡ true = test ∙ w.if-is_special.true in
          let ascii = g.met.E.Escapes.special_are_ascii (get_or text at 0) is in
          record {
            order = rw w.plain-is (omega arith);
            boundary = rw w.plain-is (IsCharBoundary-after_ascii text at c.utf8.text inside ascii);
            same =
                rw (w.into-is, w.plain-is) (pushed e.is_special e.escape text _ _ _ _ _ _ c.loop-at.plain at inside is
                byte w.range.ensures.value w.in_ok-push_str.ensures.bytes w.in_ok-push_escape.ensures
                c.loop-at.invariant.same);
          }
      | else-is_special w ↦
          let is : e.is_special (get_or text at 0) ≡ false = test ∙ w.if-is_special.false in
          let order = c.loop-at.invariant.order in
          record {
            order = rw w.plain-is (omega (arith, order));
            boundary = rw w.plain-is c.loop-at.invariant.boundary;
            same =
                rw (w.into-is, w.plain-is) (ap (λ (l : List ℕ). string_bytes c.loop-at.into ++ l)
                (sym (plain_more e.is_special e.escape text c.loop-at.plain at order inside is))
                ∙ c.loop-at.invariant.same);
          }
    ]
