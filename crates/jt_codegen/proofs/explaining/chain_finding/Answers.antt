use Rattle.std.proofs.Common.{inr, refl, rules}
use Rattle.jt_codegen.proofs.Findings.{alone_found}
use Rattle.jt_codegen.proofs.explaining.chain_finding.Goals as goal

pub returns-in-Some : goal.returns-in-Some
returns-in-Some g c = record {
  some = search rules;
  states = refl;
  placed = inr (record { about = c.in-Some.subject; is = refl; says = rw c.in-Some.is at c.requires });
}

pub returns-in-None : goal.returns-in-None
returns-in-None g c =
    alone_found (g.L.Library.sources c.args.library.now) c.args.entry.now c.args.options c.args.found.error
    (search rules) c.args.found.place (rw c.in-None.is at c.requires) c.source_finding.result c.source_finding.ensures
