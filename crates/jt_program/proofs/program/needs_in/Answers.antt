use Rattle.std.proofs.Common.{◌≡◌, List, Ok, inl, inr, rules, string_bytes, subst, ℕ}
use Rattle.std.proofs.lemmas.Result.{err_from_is_err_and}
use Rattle.jt_program.specs.Commands.{FindsNeeds}
use Rattle.jt_host.specs.Calls.{ListsNeeds}
use Rattle.jt_host.specs.Templates.{source_of}
use Rattle.jt_program.proofs.program.needs_in.Goals as goal

pub returns-clause-ends : goal.returns-clause-ends
returns-clause-ends g c =
    let files = g.F.Files.known (g.F.Files.contents c.args.files.now) in
    let options = c.args.entry.options in
    let sources = source_of c.in_ok-templates.templates in
    let text = c.in_ok-listed_needs.field-0 in
    let same : c.as_str.result.now ≡ string_bytes c.args.entry.name = search rules in
    let needs : FindsNeeds files (string_bytes c.args.entry.dir) (string_bytes c.args.entry.name) options (Ok text) =
    record {
      sources = sources;
      library = c.in_ok-templates.ensures.library;
      listed =
          subst (λ (name : List ℕ). ListsNeeds sources name options (Ok text)) same c.in_ok-listed_needs.ensures;
    } in
    inr needs

pub returns-in_err-templates-clause-ends : goal.returns-in_err-templates-clause-ends
returns-in_err-templates-clause-ends g c =
    let p = err_from_is_err_and c.from_residual.result c.from_residual.ensures.1 in
    rw (p.1, p.2) (inl c.in_err-templates.ensures.err)
