use Rattle.std.proofs.Common.{◌≡◌, List, ℕ, Ok, inr, rules, string_bytes, subst}
use Rattle.jt_program.specs.Commands.{IsShown, Shows}
use Rattle.jt_program.proofs.program.show_at.Goals as goal

pub returns-clause-ends : goal.returns-clause-ends
returns-clause-ends g c =
    let files = g.F.Files.known (g.F.Files.contents c.args.files.now) in
    let bytes = c.in_ok-bytes.bytes.items in
    let same : c.deref.result.now ≡ bytes = search rules in
    let shows : Shows files (string_bytes c.args.image) (Ok c.in_ok-listing_of.field-0) =
    record {
      bytes = bytes;
      held = c.in_ok-bytes.ensures.held;
      shown =
          subst (λ (bs : List ℕ). IsShown bs (Ok c.in_ok-listing_of.field-0)) same c.in_ok-listing_of.ensures;
    } in
    inr shows
