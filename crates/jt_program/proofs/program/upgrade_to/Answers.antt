use Rattle.std.proofs.Common.{◌≡◌, List, None, inr, rules, string_bytes, subst, ℕ}
use Rattle.std.proofs.lemmas.Result.{err_from_is_err_and}
use Rattle.jt_program.specs.Commands.{HasUpgrade, IsPath}
use Rattle.jt_host.specs.Calls.{IsUpgraded}
use Rattle.jt_program.proofs.Endings.{not_rewritten, unread_still}
use Rattle.jt_program.proofs.program.upgrade_to.Goals as goal

pub returns-in_err-write_at-clause-ends : goal.returns-in_err-write_at-clause-ends
returns-in_err-write_at-clause-ends g c =
    let files = g.F.Files.known (g.F.Files.contents c.args.files.now) in
    let p = err_from_is_err_and c.from_residual-in_err-write_at.result c.from_residual-in_err-write_at.ensures.1 in
    rw (p.1, p.2) (not_rewritten files (g.F.Files.known (g.F.Files.contents c.write_at.new.files))
    (string_bytes c.args.image) (string_bytes c.args.out) c.in_ok-bytes.bytes.items
    c.in_err-write_at.field-0.0 c.in_ok-bytes.ensures.held
    (unread_still g.F.Files.known _ _ (IsPath (string_bytes c.args.out)) None c.in_err-write_at.field-0.0
    c.in_ok-bytes.ensures.kept c.in_err-write_at.ensures.err))

pub returns-in_err-write_at-clause-touched : goal.returns-in_err-write_at-clause-touched
returns-in_err-write_at-clause-touched g c =
    let same : c.deref.result.now ≡ c.in_ok-bytes.bytes.items = search rules in
    let has : HasUpgrade (g.F.Files.known (g.F.Files.contents c.args.files.now)) (string_bytes c.args.image) = record {
      bytes = c.in_ok-bytes.bytes.items;
      held = c.in_ok-bytes.ensures.held;
      new = c.in_ok-later.later.items;
      upgraded = subst (λ (bs : List ℕ). IsUpgraded bs c.in_ok-later.later.items) same c.in_ok-later.ensures;
    } in
    inr has

pub returns-clause-touched : goal.returns-clause-touched
returns-clause-touched g c =
    let same : c.deref.result.now ≡ c.in_ok-bytes.bytes.items = search rules in
    let has : HasUpgrade (g.F.Files.known (g.F.Files.contents c.args.files.now)) (string_bytes c.args.image) = record {
      bytes = c.in_ok-bytes.bytes.items;
      held = c.in_ok-bytes.ensures.held;
      new = c.in_ok-later.later.items;
      upgraded = subst (λ (bs : List ℕ). IsUpgraded bs c.in_ok-later.later.items) same c.in_ok-later.ensures;
    } in
    inr has
