-- The laws of the code of programs hold.
use Rattle.std.proofs.Common.{◌∙◌}
use Rattle.jt_image.specs.IsCode.{IsCode}
use Rattle.jt_image.specs.Laws.{CodeLaws}
use Rattle.jt_constants.specs.Laws.{MergedLaws}
use Rattle.jt_ir.specs.Slots.{Program}
use Rattle.jt_eval.specs.TheFilters.{the_filters}
use Rattle.jt_lower.specs.Lower.{lowered, compiled}
use Rattle.jt_lower.specs.Fits.{ProgramFits}
use Rattle.jt_lower.specs.Compiles.{DoesProgram, LowLaws}
use Rattle.jt_lower.proofs.LawfulProgramsFit.{lawful_fits, placed_low, same_size}
use Rattle.jt_lower.proofs.PoolCorrect.{pooled_same}
use Rattle.jt_lower.proofs.FlatCodeRuns.{placed}
use Rattle.jt_lower.proofs.CodeSize.{program_sized}
use Rattle.jt_lower.proofs.OperandsFit.{lowered_written, program_written}
use Rattle.jt_lower.proofs.LoweredIsTyped.{lowered_typed}
use Rattle.jt_lower.proofs.CompiledCorrect.{text_means, fault_means, enough_text, enough_fault}

does_program : CodeLaws → MergedLaws → (p : Program) → ProgramFits p → IsCode (compiled p) → DoesProgram p
does_program laws merges p fit whole =
    let runs = laws.runs (compiled p) whole (merges.typed (lowered p) (lowered_typed p fit)) in
    record {
      texts = λ x b t r. text_means p fit merges runs x b t r;
      faults = λ x b f q r. fault_means p fit merges runs x b f q r;
      enough_text = λ x n t e. enough_text p fit merges runs x n t e;
      enough_fault = λ x n f q e. enough_fault p fit merges runs x n f q e;
    }

pub laws_hold : CodeLaws → MergedLaws → LowLaws
laws_hold laws merges = record {
  fits = lawful_fits;
  pooled = pooled_same the_filters;
  typed = λ p fit. merges.typed (lowered p) (lowered_typed p fit);
  right = does_program laws merges;
  one_place = placed;
  sized = λ p. merges.sized (lowered p) ∙ program_sized p;
  low = placed_low;
  emitted = lowered_written;
  written = program_written;
  same_size = same_size;
}
