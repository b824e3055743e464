use Rattle.std.proofs.Common.{◌≡◌, ◌<◌, true, get_or, length, refl, sym, ap, ◌∙◌, ℕ, List, arith}
use Rattle.std.proofs.lemmas.Str.{IsCharBoundary-start, IsCharBoundary-after_ascii}
use Rattle.jt_filter_semantics.specs.Texts.{is_whitespace}
use Rattle.jt_filters.proofs.TextTransforms.{front_white, white_ascii}
use Rattle.jt_filters.proofs.texts.trimmed_front.Goals as goal

pub loop-byte-init : goal.loop-byte-init
loop-byte-init c = record { index = refl; boundary = IsCharBoundary-start _ c.utf8.text; same = refl }

pub loop-byte-preserved : goal.loop-byte-preserved
loop-byte-preserved c =
    let s = c.args.text.now in
    let n = c.loop-byte.start in
    let inside : n < length s =
    omega (arith, ap length c.as_bytes-byte-items.ensures.value, c.loop-byte-test.true, c.loop-byte.invariant.index) in
    let same : get_or c.as_bytes-byte-items.result.now c.loop-byte.byte-index 0 ≡ get_or s n 0
    = ap (λ (t : List ℕ). get_or t c.loop-byte.byte-index 0) c.as_bytes-byte-items.ensures.value
    ∙ ap (λ (i : ℕ). get_or s i 0) (sym c.loop-byte.invariant.index) in
    let white : is_whitespace (get_or s n 0) ≡ true =
    ap is_whitespace (sym same) ∙ sym c.if-not-is_whitespace.ensures in
    record {
      index = omega (arith, c.loop-byte.invariant.index);
      boundary = IsCharBoundary-after_ascii s n c.utf8.text inside (white_ascii _ white);
      same = sym (front_white s n inside white) ∙ c.loop-byte.invariant.same;
    }
