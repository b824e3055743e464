use Rattle.std.proofs.Common.{◌≡◌, ◌++◌, string_bytes, ℕ, ◌<◌, ◌≤◌, List, length, get_or, Some, None, refl, ap, sym}
use Rattle.std.proofs.Common.{◌∙◌, arith}
use Rattle.std.proofs.lemmas.Str.{IsCharBoundary-start, IsCharBoundary-after_ascii}
use Rattle.jt_escape.specs.Escaping.{entity}
use Rattle.jt_escape.proofs.EscapedPrefix.{goes_on, replaced, run_room, entity_room, rest_room, on_err, entity_is_ascii}
use Rattle.jt_escape.proofs.EscapedPrefix.{extends_refl, extends_more}
use Rattle.jt_escape.proofs.escaping.append_escaped.Goals as goal
use Rattle.jt_escape.proofs.escaping.append_escaped.Goals.{in-Some+in_ok-push_str+in_ok-push_str-2, in_default}

pub loop-at-init : goal.loop-at-init
loop-at-init c = record {
  order = omega arith;
  boundary = IsCharBoundary-start _ c.utf8.text;
  room = omega arith;
  grown = extends_refl _;
  same = refl;
}

pub loop-at-preserved : goal.loop-at-preserved
loop-at-preserved c =
    let b : get_or c.as_bytes-byte-items.result.now c.loop-at.at 0 ≡ get_or c.args.text.now c.loop-at.at 0
    = ap (λ (xs : List ℕ). get_or xs c.loop-at.at 0) c.as_bytes-byte-items.ensures.value in
    let inside : c.loop-at.at < length c.args.text.now =
    rw c.as_bytes-byte-items.ensures.value at c.loop-at-test.true in
    elim c.match-entity_of.branch [
      | in-Some+in_ok-push_str+in_ok-push_str-2 w ↦
          let special : entity (get_or c.args.text.now c.loop-at.at 0) ≡ Some w.in-Some.entity.now =
          ap entity (sym b) ∙ sym w.in-Some.ensures in
          record {
            order = omega arith;
            boundary =
                rw w.written-is (IsCharBoundary-after_ascii c.args.text.now c.loop-at.at c.utf8.text inside
                (entity_is_ascii _ _ special));
            room = rw w.into-is (omega arith);
            grown =
                rw w.into-is (extends_more _ _ _ _
                (extends_more _ _ _ _ c.loop-at.invariant.grown w.in_ok-push_str.ensures.bytes)
                w.in_ok-push_str-2.ensures.bytes);
            same =
                rw (w.into-is, w.written-is) (replaced c.args.text.now _ _ _ _ _ c.loop-at.written c.loop-at.at inside
                special c.loop-at.invariant.same
                (w.in_ok-push_str.ensures.bytes
                ∙ ap (λ (xs : List ℕ). string_bytes c.loop-at.into ++ xs) w.range.ensures.value)
                w.in_ok-push_str-2.ensures.bytes);
          }
      | in_default w ↦
          let plain : entity (get_or c.args.text.now c.loop-at.at 0) ≡ None =
          ap entity (sym b) ∙ sym w.in_default.ensures in
          record {
            order = omega arith;
            boundary = rw w.written-is c.loop-at.invariant.boundary;
            room = rw w.into-is (omega arith);
            grown = rw w.into-is c.loop-at.invariant.grown;
            same =
                rw (w.into-is, w.written-is)
                (goes_on c.args.text.now _ _ _ _ c.loop-at.invariant.order inside plain c.loop-at.invariant.same);
          }
    ]

pub returns-in_err-push_str-clause-full : goal.returns-in_err-push_str-clause-full
returns-in_err-push_str-clause-full c =
    let r = run_room c.args.text.now (string_bytes c.args.into.now) (string_bytes c.loop-at.into) c.loop-at.written
    c.loop-at.at c.loop-at.invariant.same in
    on_err c.from_residual.result (omega (arith, r, ap length c.range.ensures.value, c.in_err-push_str.ensures))

pub returns-in_err-push_str-2-clause-full : goal.returns-in_err-push_str-2-clause-full
returns-in_err-push_str-2-clause-full c =
    let b : get_or c.as_bytes-byte-items.result.now c.loop-at.at 0 ≡ get_or c.args.text.now c.loop-at.at 0
    = ap (λ (xs : List ℕ). get_or xs c.loop-at.at 0) c.as_bytes-byte-items.ensures.value in
    let inside : c.loop-at.at < length c.args.text.now =
    rw c.as_bytes-byte-items.ensures.value at c.loop-at-test.true in
    let special : entity (get_or c.args.text.now c.loop-at.at 0) ≡ Some c.in-Some.entity.now =
    ap entity (sym b) ∙ sym c.in-Some.ensures in
    let r = entity_room c.args.text.now (string_bytes c.args.into.now) (string_bytes c.loop-at.into)
    c.in-Some.entity.now c.loop-at.written c.loop-at.at inside special c.loop-at.invariant.same in
    on_err c.from_residual-in_err-push_str-2.result
    (omega (arith, r, ap length c.range.ensures.value, c.in_ok-push_str.ensures, c.in_err-push_str-2.ensures))

pub returns-in_err-push_str-3-clause-full : goal.returns-in_err-push_str-3-clause-full
returns-in_err-push_str-3-clause-full c =
    let all : length c.args.text.now ≤ c.loop-at.at = rw c.as_bytes-byte-items.ensures.value at c.loop-at-test.false in
    let r = rest_room c.args.text.now (string_bytes c.args.into.now) (string_bytes c.loop-at.into) c.loop-at.written
    c.loop-at.at all c.loop-at.invariant.same in
    on_err c.from_residual-in_err-push_str-3.result
    (omega (arith, r, ap length c.range_from.ensures.value, c.in_err-push_str-3.ensures))
