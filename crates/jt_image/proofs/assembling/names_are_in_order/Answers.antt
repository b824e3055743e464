use Rattle.std.proofs.Common.{◌≡◌, [], take, true, sym, ◌∙◌, arith, rules}
use Rattle.std.proofs.lemmas.List.{take_all}
use Rattle.jt_image.specs.View.{name_view, names_view}
use Rattle.jt_image.specs.Parts.{IsShort, is_next}
use Rattle.jt_image.proofs.DecodeSound.{IsNamed}
use Rattle.jt_image.proofs.ReaderParts.{IsTable-push}
use Rattle.jt_image.proofs.PartsForAssembly.{each_fits}
use Rattle.jt_image.proofs.ReadPrefix.{seen_more, good_push, good_at}
use Rattle.jt_image.proofs.AssembleCorrect.{in_order, all_named, next_named, named_next}
use Rattle.jt_image.proofs.assembling.names_are_in_order.Goals as goal

pub returns-then-not-is_next : goal.returns-then-not-is_next
returns-then-not-is_next c = (
  λ no. absurd cc,
  λ h.
      let x = c.index-names-index.result in
      let before = names_view (take c.names.index c.args.names.now) in
      let all = all_named c.args.globals (names_view c.args.names.now) c.requires h in
      let here : IsNamed c.args.globals before (name_view x) = rw c.index-names-index.is
      (good_at (IsNamed c.args.globals) name_view [] c.args.names.now c.names.index x c.names-test.true all) in
      let test : c.is_next.result ≡ is_next c.args.globals before (name_view x) = c.is_next.ensures in
      let passed : c.is_next.result ≡ true = test ∙ named_next c.args.globals before (name_view x) here in
      let failed = c.if-not-is_next.true in
      absurd cc,
)

pub names-preserved : goal.names-preserved
names-preserved c =
    let x = c.index-names-index.result in
    let before = names_view (take c.names.index c.args.names.now) in
    let short = each_fits name_view IsShort c.args.names.now c.names.index x c.requires c.names-test.true
    c.index-names-index.is in
    let test : c.is_next.result ≡ is_next c.args.globals before (name_view x) = c.is_next.ensures in
    let here : IsNamed c.args.globals before (name_view x) =
    next_named c.args.globals before (name_view x) short (sym test ∙ c.if-not-is_next.false) in
    let e = seen_more name_view c.args.names.now c.names.index x c.names-test.true c.index-names-index.is in
    record {
      named = rw e (good_push (IsNamed c.args.globals) [] before (name_view x) here c.names.invariant.named);
      table =
          rw (e, c.from-in-names.ensures)
          (IsTable-push c.names.used.items c.args.globals before (name_view x) here.slot.below c.names.invariant.table);
    }

pub returns : goal.returns
returns c = search (arith, rules, take_all, in_order)
