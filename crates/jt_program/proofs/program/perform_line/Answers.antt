use Rattle.std.proofs.lemmas.Result.{err_from_is_err_and}
use Rattle.clap.specs.Walk.{texts}
use Rattle.clap.specs.Words.{subcommand_of}
use Rattle.jt_args.specs.Line.{program_app}
use Rattle.jt_program.specs.Commands.{Answers, out_of}
use Rattle.jt_program.proofs.Endings.{job_told, line_ends, line_failed, line_told, line_writes, not_writing, only_out}
use Rattle.jt_program.proofs.Endings.{same_files}
use Rattle.jt_program.proofs.Uses.{unasked}
use Rattle.jt_program.proofs.program.perform_line.Goals as goal

pub returns-clause-ends : goal.returns-clause-ends
returns-clause-ends g c =
    let found = subcommand_of program_app (texts c.args.words.now) in
    let files = g.F.Files.known (g.F.Files.contents c.args.files.now) in
    let after = g.F.Files.known (g.F.Files.contents c.perform_job.new.files) in
    let answers : Answers files after found c.perform_job.result c.perform_job.new.used = record {
      job = c.in_ok-job.job;
      asked = c.in_ok-job.ensures.asked;
      ends = c.perform_job.ensures.ends;
      uses = c.perform_job.ensures.uses;
    } in
    line_ends _ _ found c.perform_job.result c.perform_job.new.used answers

pub returns-clause-quiet : goal.returns-clause-quiet
returns-clause-quiet g c off =
    unasked (g.F.Files.known (g.F.Files.contents c.args.files.now)) (subcommand_of program_app (texts c.args.words.now))
    c.in_ok-job.job c.perform_job.result c.perform_job.new.used c.in_ok-job.ensures.asked c.perform_job.ensures.uses
    off

pub returns-in_err-job-clause-ends : goal.returns-in_err-job-clause-ends
returns-in_err-job-clause-ends g c =
    let p = err_from_is_err_and c.from_residual.result c.from_residual.ensures.1 in
    let files = g.F.Files.known (g.F.Files.contents c.args.files.now) in
    rw (p.1, p.2) (line_failed files files (subcommand_of program_app (texts c.args.words.now))
    c.in_err-job.field-0.0 c.args.used.now c.requires.fresh)

pub returns-clause-only : goal.returns-clause-only
returns-clause-only g c =
    let found = subcommand_of program_app (texts c.args.words.now) in
    let files = g.F.Files.known (g.F.Files.contents c.args.files.now) in
    let after = g.F.Files.known (g.F.Files.contents c.perform_job.new.files) in
    only_out files after found c.in_ok-job.job c.perform_job.result
    c.in_ok-job.ensures.asked c.perform_job.ensures.ends
    (λ not. rw (c.perform_job.ensures.kept not) (same_files files (out_of found)))

pub returns-clause-kept : goal.returns-clause-kept
returns-clause-kept g c not_compiling not_upgrading =
    c.perform_job.ensures.kept
    (not_writing (subcommand_of program_app (texts c.args.words.now)) c.in_ok-job.job c.in_ok-job.ensures.asked
    not_compiling not_upgrading)

pub returns-clause-touched : goal.returns-clause-touched
returns-clause-touched g c =
    let files = g.F.Files.known (g.F.Files.contents c.args.files.now) in
    line_writes files (subcommand_of program_app (texts c.args.words.now)) c.in_ok-job.job
    c.in_ok-job.ensures.asked c.perform_job.ensures.touched

pub returns-in_err-job-clause-told : goal.returns-in_err-job-clause-told
returns-in_err-job-clause-told g c =
    let p = err_from_is_err_and c.from_residual.result c.from_residual.ensures.1 in
    rw (p.1, p.2) (line_told c.in_err-job.field-0.0 c.in_err-job.ensures.told)

pub returns-clause-told : goal.returns-clause-told
returns-clause-told g c = job_told c.perform_job.result c.perform_job.ensures.other
