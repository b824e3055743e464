use Rattle.std.proofs.Common.{◌-◌, ◌<◌, get_or, [], sym, ◌∙◌, arith, rules}
use Rattle.jt_verify.specs.Arena.{lists_of}
use Rattle.jt_verify.proofs.ValuesOnTop.{value_at}
use Rattle.jt_verify.proofs.ShapesAreUnique.{node_is, kind_at_mark, kind_under_mark, kind_at_bottom, way_is}
use Rattle.jt_verify.proofs.ShapesAreUnique.{kind_far_under}
use Rattle.jt_verify.proofs.arena.kind_in.Goals as goal
use Rattle.jt_verify.proofs.arena.kind_in.Goals.{then-marks-test+else-rest-ne0}

pub returns-then-under-eq0 : goal.returns-then-under-eq0
returns-then-under-eq0 c =
    rw c.kind.ensures (sym (kind_at_mark c.requires.arena.1 c.marks.rest c.node_at-node.result c.marks.left
    (omega (arith, c.if-rest-ne0.true)) c.node_at-node.ensures (omega (arith, c.marks-test.true, c.if-under-eq0.true)))
    ∙ c.marks.invariant.same)

pub overflow_sub-between : goal.overflow_sub-between
overflow_sub-between c =
    (way_is c.requires.arena.1 c.marks.rest.node c.node_at-node.result c.node_of.result
    (omega (arith, c.if-rest-ne0.true)) c.node_at-node.ensures c.node_of.ensures).1

pub marks-preserved-then-under-between : goal.marks-preserved-then-under-between
marks-preserved-then-under-between c = search (arith, rules, way_is, kind_far_under)

pub marks-smaller : goal.marks-smaller
marks-smaller c =
    (node_is c.requires.arena.1 c.marks.rest.node c.node_at-node.result (omega (arith, c.if-rest-ne0.true))
    c.node_at-node.ensures).1

pub marks-preserved : goal.marks-preserved
marks-preserved c =
    let node = c.node_at-node.result in
    let below = c.marks.left - c.marks.rest.values - 1 in
    let some : 0 < c.marks.rest.node = omega (arith, c.if-rest-ne0.true) in
    let lower = (node_is c.requires.arena.1 c.marks.rest.node node some c.node_at-node.ensures).1 in
    record {
      same =
          sym (kind_under_mark c.requires.arena.1 c.marks.rest node c.marks.left below some c.node_at-node.ensures
          (omega (arith, c.marks-test.true, c.if-under-eq0.false)))
          ∙ c.marks.invariant.same;
      inside = omega (arith, lower, c.marks.invariant.inside);
    }

pub returns-then-left-rest : goal.returns-then-left-rest
returns-then-left-rest c =
    sym (value_at c.marks.rest.values (get_or (lists_of c.args.nodes.now) c.marks.rest.node []) c.marks.left
    c.if-left-rest.true)
    ∙ c.marks.invariant.same

pub returns-else-left-rest : goal.returns-else-left-rest
returns-else-left-rest c = search (arith, rules, kind_at_bottom)
