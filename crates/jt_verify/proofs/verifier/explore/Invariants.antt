use Rattle.std.proofs.Common.{◌≡◌, ◌<◌, ℕ, reverse}
use Rattle.jt_verify.specs.Search.{explores, unit_found}
use Rattle.jt_verify.specs.Working.{unit_of, Works, table_in, paths_in, work_left}
use Rattle.jt_verify.proofs.verifier.explore.Given as goal

abbrev pub invariant-worklist : goal.invariant-worklist
invariant-worklist g l = record {
  works :
      Works (g.C.Code.code l.code) (unit_of (g.C.Code.code l.code) l.unit) l.work.arena l.work.shapes.items
      l.work.worklist.items;
  same : (left : ℕ)
      × (work_left (table_in l.work.arena l.work.shapes.items) (paths_in l.work.arena l.work.worklist.items) < left)
      × (explores left (g.C.Code.code l.code) (unit_of (g.C.Code.code l.code) l.unit)
      (table_in l.work.arena l.work.shapes.items) (reverse (paths_in l.work.arena l.work.worklist.items))
      ≡ unit_found (g.C.Code.code l.code) (unit_of (g.C.Code.code l.code) l.unit));
}

abbrev pub decreases-worklist : goal.decreases-worklist
decreases-worklist g l =
    work_left (table_in l.work.arena l.work.shapes.items) (paths_in l.work.arena l.work.worklist.items)
