use Rattle.std.proofs.Common.{◌≡◌, ◌∙◌, ◌+◌, ◌*◌, [], ◌∷◌, ◌++◌, Result, Ok, Err, arith}
use Rattle.std.proofs.Common.{ap, length, reverse, rules, subst, sym}
use Rattle.std.specs.Prelude.{IfOk}
use Rattle.jt_image.specs.declared.code.UnitHeader.{UnitHeader}
use Rattle.jt_verify.specs.Findings.{FoundHolds}
use Rattle.jt_verify.specs.Search.{Found, explores}
use Rattle.jt_verify.specs.Working.{unit_of, paths_in, table_in, work_left}
use Rattle.jt_verify.proofs.DataflowInvariant.{works_at_start, left_at_start, same_at_start, same_next, same_refused}
use Rattle.jt_verify.proofs.DataflowInvariant.{some_left, same_done, holds_done, found_in_none, holds_in_none}
use Rattle.jt_verify.proofs.DataflowInvariant.{refused_ends, refused_halts}
use Rattle.jt_verify.proofs.verifier.explore.Goals as goal

found_there : {E : Type 0} (r : Result Found E) (a b : Found) → a ≡ b → IfOk r (λ f. f ≡ a) → IfOk r (λ f. f ≡ b)
found_there (Ok f) a b e is = is ∙ e
found_there (Err x) a b e is = tt

holds_there : {E : Type 0} (P : Found → Type 0) (r : Result Found E) (a : Found) → P a → IfOk r (λ f. f ≡ a) → IfOk r P
holds_there P (Ok f) a h is = subst P (sym is) h
holds_there P (Err x) a h is = tt

pub worklist-init : goal.worklist-init
worklist-init g c =
    let k = g.C.Code.code c.args.code.now in
    let u = unit_of k c.args.unit in
    let len = ap (λ (h : UnitHeader). h.instructions) c.requires.unit.header in
    let unknown = c.in_ok-vec.ensures.items_if_clones_equal (search rules) in
    record {
      works =
          rw (c.in_ok-push.ensures.items, c.new-2.ensures.items, unknown, c.in_ok-new.ensures)
          (works_at_start k u c.args.header.now.instructions len (omega (arith, c.if-header-eq0.false)));
      same = (
        2 * length u.code + 2,
        rw (c.in_ok-push.ensures.items, c.new-2.ensures.items, unknown, c.in_ok-new.ensures)
            (left_at_start u c.args.header.now.instructions len),
        rw (c.in_ok-push.ensures.items, c.new-2.ensures.items, unknown, c.in_ok-new.ensures)
            (same_at_start k u c.args.header.now.instructions len),
      );
    }

pub worklist-preserved : goal.worklist-preserved
worklist-preserved g c =
    let k = g.C.Code.code c.args.code.now in
    let u = unit_of k c.args.unit in
    let same = c.worklist.invariant.same in
    let table = table_in c.worklist.work.arena c.worklist.work.shapes.items in
    let paths = paths_in c.worklist.work.arena c.worklist.work.worklist.items in
    let items = c.in-Some.ensures.items in
    record {
      works = c.in-Ok.ensures.ok;
      same =
          same_next same.0 (work_left table paths) _ (λ left. explores left k u table (reverse paths)) _ _ same.1
          (rw items c.in-Ok.ensures.less) (λ left. rw items (c.in-Ok.ensures.same left)) same.2;
    }

pub returns-in-Err-Refused-clause-found : goal.returns-in-Err-Refused-clause-found
returns-in-Err-Refused-clause-found g c =
    let k = g.C.Code.code c.args.code.now in
    let u = unit_of k c.args.unit in
    let same = c.worklist.invariant.same in
    let table = table_in c.worklist.work.arena c.worklist.work.shapes.items in
    let paths = paths_in c.worklist.work.arena c.worklist.work.worklist.items in
    let popped = paths_in c.worklist.work.arena (c.pop.new.self.items ++ c.in-Some.path ∷ []) in
    let items = c.in-Some.ensures.items in
    let ends = refused_ends (λ left. explores left k u table (reverse popped)) c.follow.new.work.arena
    c.follow.new.work.shapes.items c.in-Err-Refused.field-0 c.in-Err-Refused.refused c.in-Err-Refused.field-0-is
    c.in-Err-Refused.ensures.same in
    c.found.ensures
    ∙ same_refused same.0 (work_left table paths) (λ left. explores left k u table (reverse paths)) _ _ same.1
    (rw items (some_left c.worklist.work.arena c.worklist.work.shapes.items c.pop.new.self.items c.in-Some.path))
    (λ left. rw items (ends left)) same.2

pub returns-in-Err-Refused-clause-holds : goal.returns-in-Err-Refused-clause-holds
returns-in-Err-Refused-clause-holds g c =
    let k = g.C.Code.code c.args.code.now in
    let halts = refused_halts k (unit_of k c.args.unit) c.follow.new.work.arena c.follow.new.work.shapes.items
    c.in-Err-Refused.field-0 c.in-Err-Refused.refused c.in-Err-Refused.field-0-is c.in-Err-Refused.ensures.err in
    rw c.found.ensures halts.holds

pub returns-clause-found : goal.returns-clause-found
returns-clause-found g c =
    let k = g.C.Code.code c.args.code.now in
    let same = c.worklist.invariant.same in
    c.found-2.ensures
    ∙ same_done k (unit_of k c.args.unit) c.worklist.work.arena c.worklist.work.shapes.items
    c.worklist.work.worklist.items same.0 _
    (omega (arith, c.in_default.ensures.cases, c.worklist.work.worklist.ok.0)) same.2

pub returns-clause-holds : goal.returns-clause-holds
returns-clause-holds g c =
    let k = g.C.Code.code c.args.code.now in
    rw c.found-2.ensures (holds_done k (unit_of k c.args.unit) c.worklist.work.arena c.worklist.work.shapes.items
    c.worklist.work.worklist.items (omega (arith, c.in_default.ensures.cases, c.worklist.work.worklist.ok.0))
    c.worklist.invariant.works)

pub returns-then-header-eq0-clause-found : goal.returns-then-header-eq0-clause-found
returns-then-header-eq0-clause-found g c =
    let k = g.C.Code.code c.args.code.now in
    let len = ap (λ (h : UnitHeader). h.instructions) c.requires.unit.header in
    found_there _ _ _ (found_in_none k (unit_of k c.args.unit) (omega (arith, len, c.if-header-eq0.true)))
    c.found_in_empty.ensures

pub returns-then-header-eq0-clause-holds : goal.returns-then-header-eq0-clause-holds
returns-then-header-eq0-clause-holds g c =
    let k = g.C.Code.code c.args.code.now in
    let u = unit_of k c.args.unit in
    let len = ap (λ (h : UnitHeader). h.instructions) c.requires.unit.header in
    holds_there (λ f. FoundHolds k u f) _ _ (holds_in_none k u (omega (arith, len, c.if-header-eq0.true)))
    c.found_in_empty.ensures
