use Rattle.std.proofs.lemmas.Result.{err_from_is_err_and}
use Rattle.jt_turns.specs.Worlds.{world_of}
use Rattle.jt_program.proofs.PairStarts.{no_place, no_start, one_open_more}
use Rattle.jt_program.proofs.turns.open_pair.Goals as goal

pub returns-in_err-start-clause-refused : goal.returns-in_err-start-clause-refused
returns-in_err-start-clause-refused g c =
    let files = g.F.Files.known (g.F.Files.contents c.args.files.now) in
    let p = err_from_is_err_and c.from_residual.result c.from_residual.ensures.1 in
    rw (p.1, p.2) (λ ps standing.
    no_start files ps c.args.pair c.in_err-start.field-0.0 c.in_err-start.ensures.err)

pub returns-clause-opened : goal.returns-clause-opened
returns-clause-opened g c = let files = g.F.Files.known (g.F.Files.contents c.args.files.now) in λ ps standing.
    one_open_more files c.args.budget ps c.args.pair c.in_ok-start.start
    (world_of c.args.sessions.now) (world_of c.open.new.self) c.in_ok-start.ensures.start
    c.in_ok-open.ensures.opened standing

pub returns-in_err-open-clause-refused : goal.returns-in_err-open-clause-refused
returns-in_err-open-clause-refused g c =
    let p = err_from_is_err_and c.from_residual-in_err-open.result c.from_residual-in_err-open.ensures.1 in
    rw (p.1, p.2) (λ ps standing.
    no_place (g.F.Files.known (g.F.Files.contents c.args.files.now)) c.args.budget ps c.args.pair c.in_ok-start.start
    (world_of c.args.sessions.now) c.in_err-open.field-0.0 c.in_ok-start.ensures.start
    c.in_err-open.ensures.refused standing)
