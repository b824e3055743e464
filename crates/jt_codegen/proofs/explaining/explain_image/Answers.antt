use Rattle.std.proofs.Common.{subst}
use Rattle.jt_chains.specs.View.{chain_view}
use Rattle.jt_ir.specs.View.{program_of}
use Rattle.jt_codegen.specs.internal.Asked.{PassesOf}
use Rattle.jt_codegen.proofs.Findings.{limit_found, program_asked}
use Rattle.jt_codegen.proofs.explaining.explain_image.Goals as goal

pub compile_program-requires : goal.compile_program-requires
compile_program-requires c = (
  c.requires.of.0,
  program_asked c.requires.of.0 (chain_view c.args.facts.now.chain.now) c.requires.of.1 c.requires.kept
      (program_of c.in_ok-program.program) c.in_ok-program.ensures,
)

pub returns-in-Ok : goal.returns-in-Ok
returns-in-Ok c = λ asked is. (
  c.in-Ok._image,
  c.in-Ok.ensures.compiled asked
      (program_asked asked (chain_view c.args.facts.now.chain.now) is c.requires.kept
      (program_of c.in_ok-program.program) c.in_ok-program.ensures),
)

pub returns-in-Err-Limit : goal.returns-in-Err-Limit
returns-in-Err-Limit c = λ asked is.
    let program = program_asked asked (chain_view c.args.facts.now.chain.now) is c.requires.kept
    (program_of c.in_ok-program.program) c.in_ok-program.ensures in
    rw c.of_limit.ensures
    (limit_found asked c.in-Err-Limit.limit
    (subst (PassesOf asked) c.in-Err-Limit.field-0-is (c.in-Err-Limit.ensures.refused asked program)))
