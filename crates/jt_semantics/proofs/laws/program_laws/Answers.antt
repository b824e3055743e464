use Rattle.std.specs.Prelude.{◌∷◌}
use Rattle.jt_rules.specs.CompileEnv.{cenv_of}
use Rattle.jt_semantics.proofs.ProgramCorrect.{program_means}
use Rattle.jt_semantics.proofs.MeaningIsMonotone.{mean_stays}
use Rattle.jt_semantics.proofs.KeptUses.{chains_keep}
use Rattle.jt_semantics.proofs.PooledArity.{program_takes}
use Rattle.jt_semantics.proofs.NameCounts.{names_ascend, few_by}
use Rattle.jt_semantics.proofs.NameLengths.{chain_is_short}
use Rattle.jt_semantics.proofs.ProgramSize.{program_sized}
use Rattle.jt_semantics.proofs.laws.program_laws.Goals as goal

pub returns : goal.returns
returns c = record {
  means = program_means;
  stays = mean_stays;
  takes = λ cenv entry rest ordered reached unbroken keeps.
      program_takes cenv entry rest ordered reached unbroken (chains_keep cenv (entry ∷ rest) keeps);
  sized = program_sized;
  ascends = λ cenv order h. names_ascend cenv order h;
  few = λ d o n k. few_by d o n (chains_keep (cenv_of d) d.order k);
  short = chain_is_short;
}
