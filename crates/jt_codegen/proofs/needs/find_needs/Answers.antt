use Rattle.std.proofs.lemmas.Result.{err_from_is_err_and}
use Rattle.std.proofs.Common.{sym, ap, subst}
use Rattle.jt_chains.specs.Indices.{namespace_at}
use Rattle.jt_chains.specs.View.{chain_view}
use Rattle.jt_ir.specs.Slots.{Program}
use Rattle.jt_rules.specs.CompileEnv.{cenv_of}
use Rattle.jt_semantics.specs.Ascends.{Ascends}
use Rattle.jt_ir.specs.View.{program_of}
use Rattle.jt_codegen.specs.internal.Asked.{asked_of}
use Rattle.jt_codegen.proofs.ChainImages.{chain_refused, limit_breaks, rule_refused}
use Rattle.jt_codegen.proofs.Findings.{program_asked}
use Rattle.jt_codegen.proofs.NeededTemplates.{needed}
use Rattle.jt_codegen.proofs.needs.find_needs.Goals as goal

pub returns-in_err-chain-clause-refused : goal.returns-in_err-chain-clause-refused
returns-in_err-chain-clause-refused g c =
    let asked = asked_of (g.L.Library.sources c.args.library.now) c.args.entry.now c.args.options in
    let p = err_from_is_err_and c.from_residual.result c.from_residual.ensures.1 in
    rw (p.1, p.2)
    (chain_refused asked.given asked.entry asked.options c.in_err-chain.field-0.0.error
    c.in_err-chain.ensures.refused.finding.broken c.in_err-chain.ensures.refused.only)

pub returns-in_err-facts-clause-refused : goal.returns-in_err-facts-clause-refused
returns-in_err-facts-clause-refused g c =
    let asked = asked_of (g.L.Library.sources c.args.library.now) c.args.entry.now c.args.options in
    let fault = c.in_err-facts.ensures.refused asked c.in_ok-chain.ensures.linked in
    let p = err_from_is_err_and c.from_residual-in_err-facts.result c.from_residual-in_err-facts.ensures.1 in
    rw (p.1, p.2)
    (chain_refused asked.given asked.entry asked.options c.in_err-facts.field-0.0.error fault.finding.broken
    fault.only)

pub returns-in_err-program-clause-refused : goal.returns-in_err-program-clause-refused
returns-in_err-program-clause-refused g c =
    let asked = asked_of (g.L.Library.sources c.args.library.now) c.args.entry.now c.args.options in
    let of = c.in_ok-facts.ensures.kept asked c.in_ok-chain.ensures.linked in
    let p = err_from_is_err_and c.from_residual-in_err-program.result c.from_residual-in_err-program.ensures.1 in
    rw (p.1, p.2)
    (rule_refused asked.given asked.entry asked.options (chain_view c.in_ok-facts.facts.chain.now) of.only
    c.in_err-program.field-0.0 c.in_err-program.ensures.refused)

pub compile_program-requires : goal.compile_program-requires
compile_program-requires g c =
    let asked = asked_of (g.L.Library.sources c.args.library.now) c.args.entry.now c.args.options in
    let of = c.in_ok-facts.ensures.kept asked c.in_ok-chain.ensures.linked in (
      asked,
      program_asked asked (chain_view c.in_ok-facts.facts.chain.now) of c.in_ok-program.ensures.kept
          (program_of c.in_ok-program.program) c.in_ok-program.ensures.resolved,
    )

pub returns-in_err-image-clause-refused : goal.returns-in_err-image-clause-refused
returns-in_err-image-clause-refused g c =
    let asked = asked_of (g.L.Library.sources c.args.library.now) c.args.entry.now c.args.options in
    let of = c.in_ok-facts.ensures.kept asked c.in_ok-chain.ensures.linked in
    let p = err_from_is_err_and c.from_residual-in_err-image.result c.from_residual-in_err-image.ensures.1 in
    let program = program_asked asked (chain_view c.in_ok-facts.facts.chain.now) of c.in_ok-program.ensures.kept
    (program_of c.in_ok-program.program) c.in_ok-program.ensures.resolved in
    rw (p.1, p.2) (limit_breaks asked c.in_err-image.field-0.0 (c.in_err-image.ensures.refused asked program))

pub returns-in_err-image-clause-small : goal.returns-in_err-image-clause-small
returns-in_err-image-clause-small g c =
    let asked = asked_of (g.L.Library.sources c.args.library.now) c.args.entry.now c.args.options in
    let of = c.in_ok-facts.ensures.kept asked c.in_ok-chain.ensures.linked in
    let p = err_from_is_err_and c.from_residual-in_err-image.result c.from_residual-in_err-image.ensures.1 in
    let program = program_asked asked (chain_view c.in_ok-facts.facts.chain.now) of c.in_ok-program.ensures.kept
    (program_of c.in_ok-program.program) c.in_ok-program.ensures.resolved in
    rw (p.1, p.2) (c.in_err-image.ensures.small asked program)

pub returns-in-Ok-clause-needed : goal.returns-in-Ok-clause-needed
returns-in-Ok-clause-needed g c =
    let asked = asked_of (g.L.Library.sources c.args.library.now) c.args.entry.now c.args.options in
    let of = c.in_ok-facts.ensures.kept asked c.in_ok-chain.ensures.linked in
    let chain = chain_view c.in_ok-facts.facts.chain.now in
    let compiled = c.in_ok-image.ensures.compiled asked
    (program_asked asked chain of c.in_ok-program.ensures.kept (program_of c.in_ok-program.program)
    c.in_ok-program.ensures.resolved) in
    needed asked.given asked.entry asked.options chain of.only c.in_ok-image.image compiled _
    c.in-Ok.ensures.found c.in-Ok.ensures.missing (sym c.in_ok-image.ensures.names)
    (subst Ascends (sym (ap (λ (p : Program). p.names) c.in_ok-program.ensures.resolved))
    (c.program_laws.ensures.ascends (cenv_of chain) chain.order (namespace_at chain.order 0)))
