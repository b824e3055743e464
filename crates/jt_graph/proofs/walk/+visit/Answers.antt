use Rattle.std.proofs.Common.{◌≡◌, ◌<◌, ◌+◌, true, cond, length, refl, sym, ap, ◌∙◌, arith, slice_index_or, rules}
use Rattle.std.specs.Vec.{with_item}
use Rattle.jt_graph.specs.Graph.{among, next_of}
use Rattle.jt_graph.specs.View.{graph_of}
use Rattle.jt_graph.specs.internal.Walks.{is_done, is_open, visit_of}
use Rattle.jt_graph.specs.declared.walk.VisitState.TheVariants.{New, Open, Done}
use Rattle.jt_graph.specs.declared.walk.Walk.{Walk}
use Rattle.jt_graph.proofs.DepthFirstSearch.{read_visit, next_at, graph_len, next_within, among_take, among_all}
use Rattle.jt_graph.proofs.DepthFirstSearch.{among_at, opened_walk, done_walk, done_goes, still_open}
use Rattle.jt_graph.proofs.DepthFirstSearch.{goes_none, goes_both, fewer_news, told_set, itself, never, opened_one}
use Rattle.jt_graph.proofs.walk.+visit.Goals as goal

pub visit-requires : goal.visit-requires
visit-requires t c =
    let g = graph_of c.args.next.now in
    let v = c.args.walk.now in
    let u : Walk = record { visits = with_item v.visits c.args.number Open; done = v.done; ring = v.ring } in
    let lv : c.args.number < length v.visits.items =
    omega (arith, c.requires.walked.each, graph_len c.args.next.now, c.requires.within) in
    let new : visit_of v.visits.items c.args.number ≡ New =
    read_visit v.visits.items c.args.number c.index.result.now lv c.index.ensures ∙ c.in-New.is in
    let f = fewer_news v.visits.items c.args.number lv new in
    let theirs : next_of g c.args.number ≡ c.deref-other-items.result.now =
    next_at c.args.next.now c.args.number c.index-next-number.result c.requires.within c.index-next-number.is
    ∙ sym c.deref-other-items.ensures.value in
    let j = slice_index_or c.deref-other-items.result.now c.loop-other.other-index 0 in
    let edge : among j (next_of g c.args.number) ≡ true =
    ap (among j) theirs ∙ among_at c.deref-other-items.result.now c.loop-other.other-index c.loop-other-test.true in (
      omega (arith, c.decreases, f, c.loop-other.invariant.goes.fewer),
      (
        omega (arith, next_within g c.args.number j c.requires.closed edge, graph_len c.args.next.now),
        (
          c.requires.closed,
          c.loop-other.invariant.walked,
        ),
      ),
    )

pub loop-other-preserved : goal.loop-other-preserved
loop-other-preserved t c = record {
  walked = c.in-Ok.ensures.walk;
  goes =
      goes_both
      (record {
        visits = with_item c.args.walk.now.visits c.args.number Open;
        done = c.args.walk.now.done;
        ring = c.args.walk.now.ring;
      })
      c.loop-other.walk c.visit.new.walk c.loop-other.invariant.goes c.in-Ok.ensures.goes;
  reached =
      among_take (λ j. is_done (visit_of c.visit.new.walk.visits.items j) ≡ true) c.deref-other-items.result.now
      c.loop-other.other-index (c.loop-other.other-index + 1) refl c.loop-other-test.true
      (λ j h. c.in-Ok.ensures.goes.dones j (c.loop-other.invariant.reached j h)) c.in-Ok.ensures.done;
}

pub returns-clause-walk : goal.returns-clause-walk
returns-clause-walk t c =
    let g = graph_of c.args.next.now in
    let v = c.args.walk.now in
    let l = c.loop-other in
    let lv : c.args.number < length v.visits.items =
    omega (arith, c.requires.walked.each, graph_len c.args.next.now, c.requires.within) in
    let theirs : next_of g c.args.number ≡ c.deref-other-items.result.now =
    next_at c.args.next.now c.args.number c.index-next-number.result c.requires.within c.index-next-number.is
    ∙ sym c.deref-other-items.ensures.value in
    let u : Walk = record { visits = with_item v.visits c.args.number Open; done = v.done; ring = v.ring } in
    let x : Walk =
    record { visits = with_item l.walk.visits c.args.number Done; done = c.push.new.self; ring = l.walk.ring } in
    done_walk g l.walk x c.args.number (omega (arith, graph_len c.args.next.now, c.requires.within))
    (still_open v u l.walk c.args.number lv refl l.invariant.goes) refl c.in_ok-push.ensures.items
    (λ j h. l.invariant.reached j
    (among_all c.deref-other-items.result.now l.other-index j c.loop-other-test.false (sym (ap (among j) theirs) ∙ h)))
    l.invariant.walked

pub returns-clause-goes : goal.returns-clause-goes
returns-clause-goes t c =
    let g = graph_of c.args.next.now in
    let v = c.args.walk.now in
    let l = c.loop-other in
    let lv : c.args.number < length v.visits.items =
    omega (arith, c.requires.walked.each, graph_len c.args.next.now, c.requires.within) in
    let lw : c.args.number < length l.walk.visits.items =
    omega (arith, l.invariant.walked.each, graph_len c.args.next.now, c.requires.within) in
    let new : visit_of v.visits.items c.args.number ≡ New =
    read_visit v.visits.items c.args.number c.index.result.now lv c.index.ensures ∙ c.in-New.is in
    let u : Walk = record { visits = with_item v.visits c.args.number Open; done = v.done; ring = v.ring } in
    let x : Walk =
    record { visits = with_item l.walk.visits c.args.number Done; done = c.push.new.self; ring = l.walk.ring } in
    done_goes g v u l.walk x c.args.number lv lw new refl l.invariant.goes refl

pub returns-clause-done : goal.returns-clause-done
returns-clause-done t c =
    let l = c.loop-other in
    let lw : c.args.number < length l.walk.visits.items =
    omega (arith, l.invariant.walked.each, graph_len c.args.next.now, c.requires.within) in
    told_set is_done l.walk.visits.items c.args.number c.args.number Done lw
    ∙ ap (λ b. cond b true (is_done (visit_of l.walk.visits.items c.args.number))) (itself c.args.number)

pub loop-other-init : goal.loop-other-init
loop-other-init t c =
    let g = graph_of c.args.next.now in
    let v = c.args.walk.now in
    let lv : c.args.number < length v.visits.items =
    omega (arith, c.requires.walked.each, graph_len c.args.next.now, c.requires.within) in
    let lg : c.args.number < length g = omega (arith, graph_len c.args.next.now, c.requires.within) in
    let new : visit_of v.visits.items c.args.number ≡ New =
    read_visit v.visits.items c.args.number c.index.result.now lv c.index.ensures ∙ c.in-New.is in
    let u : Walk = record { visits = with_item v.visits c.args.number Open; done = v.done; ring = v.ring } in
    record {
      walked = opened_walk g v u c.args.number lg new refl refl c.requires.walked;
      goes = goes_none u;
      reached = λ j h. never h;
    }

pub index_mut-requires-2 : goal.index_mut-requires-2
index_mut-requires-2 t c =
    omega (arith, c.loop-other.invariant.walked.each, graph_len c.args.next.now, c.requires.within)

pub returns-in-Done-clause-done : goal.returns-in-Done-clause-done
returns-in-Done-clause-done t c = search (arith, rules, graph_len, read_visit)

pub returns-in-Err-clause-stop : goal.returns-in-Err-clause-stop
returns-in-Err-clause-stop t c =
    let g = graph_of c.args.next.now in
    let v = c.args.walk.now in
    let lv : c.args.number < length v.visits.items =
    omega (arith, c.requires.walked.each, graph_len c.args.next.now, c.requires.within) in
    let theirs : next_of g c.args.number ≡ c.deref-other-items.result.now =
    next_at c.args.next.now c.args.number c.index-next-number.result c.requires.within c.index-next-number.is
    ∙ sym c.deref-other-items.ensures.value in
    let u : Walk = record { visits = with_item v.visits c.args.number Open; done = v.done; ring = v.ring } in
    let j = slice_index_or c.deref-other-items.result.now c.loop-other.other-index 0 in
    c.leave.ensures g v c.loop-other.walk j
    (opened_one v u c.loop-other.walk c.args.number lv refl c.loop-other.invariant.goes)
    (ap (among j) theirs ∙ among_at c.deref-other-items.result.now c.loop-other.other-index c.loop-other-test.true)
    c.in-Err.ensures.stop

pub returns-in-Open-clause-stop : goal.returns-in-Open-clause-stop
returns-in-Open-clause-stop t c =
    let v = c.args.walk.now in
    let lv : c.args.number < length v.visits.items =
    omega (arith, c.requires.walked.each, graph_len c.args.next.now, c.requires.within) in
    c.back.ensures (graph_of c.args.next.now) v
    (ap is_open (read_visit v.visits.items c.args.number c.index.result.now lv c.index.ensures ∙ c.in-Open.is))
