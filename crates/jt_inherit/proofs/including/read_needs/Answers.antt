use Rattle.jt_inherit.proofs.Vocabulary as words
use words.{◌∷◌, [], true, take, ap, ◌∙◌, string_bytes, IsMet, among, keyed_needs}
use words.{needed, names, among_front, among_behind, of_texts, templates_at, its_files}
use Rattle.jt_inherit.proofs.DiscoveryInvariant.{met_turn, met_read, needed_turn}
use Rattle.jt_inherit.proofs.PathsGrow.{read_on, templates_read}
use Rattle.jt_inherit.proofs.FindingsHold.{unmet_need}
use Rattle.jt_inherit.proofs.including.read_needs.Goals as goal

pub returns-in-Err-clause-refused : goal.returns-in-Err-clause-refused
returns-in-Err-clause-refused g c =
    let l = c.loop-need in
    let given = g.L.Library.sources c.args.library.now in
    let ts = its_files c.args.store.now in
    let is = c.args.path.now.extends_path.items in
    let r = l.invariant.read in
    let f = c.in_ok-need_finding-in-Err.field-0 in
    let need = c.need-item.result in
    unmet_need given c.args.options ts is c.deref-need-items.result.now l.need-index need c.in-Err.error f
    (ap keyed_needs c.deref-need-items.ensures.value ∙ c.requires.path.told) c.loop-need-test.true c.need-item.is
    c.in-Err.ensures.refused
    (rw (← (ap (λ us. templates_at us is) c.in-Err.ensures.same ∙ templates_read r is c.requires.path.indices))
    c.in_ok-need_finding-in-Err.ensures)

pub loop-need-preserved : goal.loop-need-preserved
loop-need-preserved g c =
    let l = c.loop-need in
    let given = g.L.Library.sources c.args.library.now in
    let ns = c.deref-need-items.result.now in
    let need = c.need-item.result in
    let next = c.in-Ok.ensures in
    let front = needed true (keyed_needs (take l.need-index ns)) in
    let turn = needed_turn ns l.need-index need c.loop-need-test.true c.need-item.is in
    record {
      read =
          read_on l.invariant.read next.read
          (λ n a. ap (among n) turn ∙ among_front of_texts n front (string_bytes need.namespace.name ∷ []) a)
          (λ n a. ap (among n) turn ∙ among_behind of_texts n front (string_bytes need.namespace.name ∷ []) a);
      met =
          met_turn ns l.need-index need c.loop-need-test.true c.need-item.is
          (IsMet given (names (its_files c.read_need.new.store)))
          (met_read next.read (keyed_needs (take l.need-index ns)) l.invariant.met) next.met;
    }
