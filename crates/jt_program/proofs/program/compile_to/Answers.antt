use Rattle.std.proofs.Common.{◌≡◌, List, None, inr, rules, string_bytes, subst, ℕ}
use Rattle.std.proofs.lemmas.Result.{err_from_is_err_and}
use Rattle.jt_program.specs.Commands.{HasImage, IsPath}
use Rattle.jt_host.specs.Calls.{IsImage}
use Rattle.jt_host.specs.Templates.{source_of}
use Rattle.jt_program.proofs.Endings.{unread_still, unwritten}
use Rattle.jt_program.proofs.program.compile_to.Goals as goal

pub returns-in_err-write_at-clause-ends : goal.returns-in_err-write_at-clause-ends
returns-in_err-write_at-clause-ends g c =
    let files = g.F.Files.known (g.F.Files.contents c.args.files.now) in
    let p = err_from_is_err_and c.from_residual-in_err-write_at.result c.from_residual-in_err-write_at.ensures.1 in
    rw (p.1, p.2) (unwritten files (g.F.Files.known (g.F.Files.contents c.write_at.new.files))
    (string_bytes c.args.entry.dir) (string_bytes c.args.entry.name)
    (string_bytes c.args.out) c.args.entry.options
    (source_of c.in_ok-templates.templates) c.in_err-write_at.field-0.0 c.in_ok-templates.ensures.library
    (unread_still g.F.Files.known _ _ (IsPath (string_bytes c.args.out)) None c.in_err-write_at.field-0.0
    c.in_ok-templates.ensures.kept c.in_err-write_at.ensures.err))

pub returns-in_err-write_at-clause-touched : goal.returns-in_err-write_at-clause-touched
returns-in_err-write_at-clause-touched g c =
    let same : c.as_str.result.now ≡ string_bytes c.args.entry.name = search rules in
    let sources = source_of c.in_ok-templates.templates in
    let bytes = c.in_ok-bytes.bytes.items in
    let has : HasImage (g.F.Files.known (g.F.Files.contents c.args.files.now)) (string_bytes c.args.entry.dir)
    (string_bytes c.args.entry.name) c.args.entry.options = record {
      sources = sources;
      library = c.in_ok-templates.ensures.library;
      bytes = bytes;
      image = subst (λ (name : List ℕ). IsImage sources name c.args.entry.options bytes) same c.in_ok-bytes.ensures;
    } in
    inr has

pub returns-clause-touched : goal.returns-clause-touched
returns-clause-touched g c =
    let same : c.as_str.result.now ≡ string_bytes c.args.entry.name = search rules in
    let sources = source_of c.in_ok-templates.templates in
    let bytes = c.in_ok-bytes.bytes.items in
    let has : HasImage (g.F.Files.known (g.F.Files.contents c.args.files.now)) (string_bytes c.args.entry.dir)
    (string_bytes c.args.entry.name) c.args.entry.options = record {
      sources = sources;
      library = c.in_ok-templates.ensures.library;
      bytes = bytes;
      image = subst (λ (name : List ℕ). IsImage sources name c.args.entry.options bytes) same c.in_ok-bytes.ensures;
    } in
    inr has

pub returns-clause-ends : goal.returns-clause-ends
returns-clause-ends g c =
    let same : c.as_str.result.now ≡ string_bytes c.args.entry.name = search rules in
    let sources = source_of c.in_ok-templates.templates in
    let bytes = c.in_ok-bytes.bytes.items in
    let after = g.F.Files.known (g.F.Files.contents c.write_at.new.files) in
    let image = subst (λ (name : List ℕ). IsImage sources name c.args.entry.options bytes) same c.in_ok-bytes.ensures in
    let held = subst (λ (bs : List ℕ). after.holds (string_bytes c.args.out) bs) c.deref.ensures.value
    c.in_ok-write_at.ensures.written in
    inr (record {
      sources = sources;
      library = c.in_ok-templates.ensures.library;
      written = (c.new.ensures.bytes, (bytes, held, image));
    })
