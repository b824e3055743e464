use Rattle.std.proofs.Common.{◌≡◌, List, ℕ, Ok, inr, rules, string_bytes, subst}
use Rattle.jt_program.specs.Commands.{Checks, counts_line}
use Rattle.jt_host.specs.Calls.{IsCounted}
use Rattle.jt_program.proofs.program.check_at.Goals as goal

pub returns-clause-ends : goal.returns-clause-ends
returns-clause-ends g c =
    let files = g.F.Files.known (g.F.Files.contents c.args.files.now) in
    let bytes = c.in_ok-bytes.bytes.items in
    let n : ℕ × ℕ = (c.in_ok-units.units, c.in_ok-units.instructions) in
    let same : c.deref.result.now ≡ bytes = search rules in
    let line : string_bytes c.in_ok-format.field-0 ≡ counts_line n = c.in_ok-format.ensures.ok in
    let checks : Checks files (string_bytes c.args.image) (Ok c.in_ok-format.field-0) =
    record {
      bytes = bytes;
      held = c.in_ok-bytes.ensures.held;
      checked = (n, subst (λ (bs : List ℕ). IsCounted bs n) same c.in_ok-units.ensures, line);
    } in
    inr checks
