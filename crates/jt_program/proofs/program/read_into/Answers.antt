use Rattle.std.proofs.Common.{◌≡◌, Err, List, None, ℕ, rules, string_bytes, subst, sym}
use Rattle.std.specs.Str.{IsUtf8}
use Rattle.std.proofs.lemmas.Str.{IsUtf8-string_bytes}
use Rattle.std.proofs.lemmas.Result.{err_from_is_err_and}
use Rattle.jt_program.specs.Commands.{IsPath, IsUnread}
use Rattle.jt_program.specs.Files.{path_in}
use Rattle.jt_host.specs.Templates.{source_of}
use Rattle.jt_program.proofs.SourceCollection.{no_text_read, text_read}
use Rattle.jt_program.proofs.program.read_into.Goals as goal

pub returns-in_ok-insert-in-Ok-clause-read : goal.returns-in_ok-insert-in-Ok-clause-read
returns-in_ok-insert-in-Ok-clause-read g c names each =
    let files = g.F.Files.known (g.F.Files.contents c.args.files.now) in
    let source = string_bytes c.in-Ok.source in
    let at : string_bytes c.in_ok-path.path ≡ path_in c.args.dir.now (string_bytes c.args.name) =
    c.in_ok-path.ensures.ok in
    let same : source ≡ c.in_ok-bytes.bytes.items = search rules in
    let valid : IsUtf8 source = IsUtf8-string_bytes c.in-Ok.source in
    let held = subst (λ (p : List ℕ). files.holds p source) at
    (subst (files.holds (string_bytes c.in_ok-path.path)) (sym same) c.in_ok-bytes.ensures.held) in
    text_read files c.args.dir.now names (source_of c.args.templates.now) (source_of c.insert.new.self)
    (string_bytes c.args.name) source held valid
    c.in_ok-insert-in-Ok.ensures.taken c.in_ok-insert-in-Ok.ensures.others each

pub returns-in-Err-clause-read : goal.returns-in-Err-clause-read
returns-in-Err-clause-read g c names each =
    let files = g.F.Files.known (g.F.Files.contents c.args.files.now) in
    let bytes = c.in_ok-bytes.bytes.items in
    let at : string_bytes c.in_ok-path.path ≡ path_in c.args.dir.now (string_bytes c.args.name) =
    c.in_ok-path.ensures.ok in
    let held = subst (λ (p : List ℕ). files.holds p bytes) at c.in_ok-bytes.ensures.held in
    let bad : IsUtf8 bytes → ⊥ = search rules in
    no_text_read files c.args.dir.now names (source_of c.args.templates.now) (string_bytes c.args.name) bytes held bad
    each

pub returns-in_err-bytes-clause-err : goal.returns-in_err-bytes-clause-err
returns-in_err-bytes-clause-err g c =
    let p = err_from_is_err_and c.from_residual-in_err-bytes.result c.from_residual-in_err-bytes.ensures.1 in
    let files = g.F.Files.known (g.F.Files.contents c.args.files.now) in
    let at : string_bytes c.in_ok-path.path ≡ path_in c.args.dir.now (string_bytes c.args.name) =
    c.in_ok-path.ensures.ok in
    rw (p.1, p.2) (subst (λ (path : List ℕ). IsUnread files (IsPath path) None (Err c.in_err-bytes.field-0.0)) at
    c.in_err-bytes.ensures.err)
