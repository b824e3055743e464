use Rattle.std.proofs.Common.{◌≡◌, ◌∙◌, arith, refl, set, true}
use Rattle.std.proofs.lemmas.List.{length-set}
use Rattle.jt_show.proofs.TargetsFound.{marked_next}
use Rattle.jt_show.proofs.targets.jump_targets.Goals as goal
use Rattle.jt_show.proofs.targets.jump_targets.Goals.{in-Some-target_of, in_default-target_of}

pub points-preserved : goal.points-preserved
points-preserved c =
    let code = c.args.code.now in
    let point = c.points.point in
    let marks = c.points.found.items in
    let len = c.points.invariant.len in
    elim c.match-target_of.branch [
      | in-Some-target_of w ↦
          let new : c.match-target_of.found.items ≡ set marks w.in-Some-target_of.target true =
          rw w.found-is w.mark.ensures in
          record {
            len = rw new (length-set marks w.in-Some-target_of.target true ∙ len);
            each =
                λ p inside. marked_next code point c.in-Some.instruction _ marks _ p c.in-Some.ensures
                w.in-Some-target_of.ensures new (omega (arith, len, inside)) (c.points.invariant.each p inside);
          }
      | in_default-target_of w ↦
          let new : c.match-target_of.found.items ≡ marks = rw w.found-is refl in
          record {
            len = rw new len;
            each =
                λ p inside. marked_next code point c.in-Some.instruction _ marks _ p c.in-Some.ensures
                w.in_default-target_of.ensures new (omega (arith, len, inside)) (c.points.invariant.each p inside);
          }
    ]
