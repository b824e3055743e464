use Rattle.std.proofs.Common.{◌≡◌, ◌≤◌, Box, Global, None, length, option_map, take}
use Rattle.jt_ffi.specs.Batches.{RunsNext}
use Rattle.jt_ffi.specs.declared.shared.Shared.{Shared}
use Rattle.jt_ffi.proofs.EachAddsUp.{SoFar}
use Rattle.jt_ffi.proofs.batches.write_each.Given as goal

abbrev pub invariant-contexts : goal.invariant-contexts
invariant-contexts l = record {
  so_far : SoFar (RunsNext (option_map (λ (q : Box Shared Global). q.value) l.batch.image.now) l.batch.budget)
      (take (length l.fn.answers) l.batch.lengths.now) l.batch.contexts.now l.fn.answers l.fn.out l.at l.rest l.answers
      l.out l.written;
  within : l.count ≤ length l.answers;
  empty : l.outcome.held ≡ None;
}
