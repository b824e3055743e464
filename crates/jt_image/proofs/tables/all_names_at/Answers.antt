use Rattle.std.proofs.Common.{◌≡◌, ◌++◌, ◌∷◌, [], ◌-◌, ◌∙◌, ◌^◌, ℕ, sym, ap, arith, length, rules}
use Rattle.std.specs.Int.{w16}
use Rattle.std.proofs.lemmas.Result.{err_from_is_err_and}
use Rattle.std.proofs.lemmas.List.{map_push}
use Rattle.jt_image.specs.Code.{Name}
use Rattle.jt_image.specs.Readers.{name_ref_view}
use Rattle.jt_image.specs.InPlace.{names_in, name_in, HasName}
use Rattle.jt_image.specs.Reading.{◌>>=◌, name_at, names_at, all_names_at}
use Rattle.jt_image.proofs.DecodeSoundLemmas.{Read, wide16}
use Rattle.jt_image.proofs.TableLoops.{ends, is_done}
use Rattle.jt_image.proofs.ReaderParts.{IsTable-start, IsTable-push}
use Rattle.jt_image.proofs.TablesInPlace.{number_last, name_step}
use Rattle.jt_image.proofs.TableWalk.{walks_on}
use Rattle.jt_image.proofs.tables.all_names_at.Goals as goal

pub returns-in_err-name-clause-gives : goal.returns-in_err-name-clause-gives
returns-in_err-name-clause-gives c =
    let p = err_from_is_err_and c.from_residual-in_err-name.result c.from_residual-in_err-name.ensures.1 in
    let read = rw c.deref-in-names.ensures.value at c.in_err-name.ensures.gives in
    rw (p.1, p.2) (ends (name_at c.args.globals) c.in_ok-count.count c.names.counter
    (names_in c.args.bytes.now c.names.names.items) c.names.rest.now (all_names_at c.args.globals c.args.front.now)
    c.in_err-name.field-0.0 c.names-test.true read c.names.invariant.walks.so_far)

pub names-init : goal.names-init
unfolding all_names_at
names-init c =
    let same : c.in_ok-count.count - 0 ≡ c.in_ok-count.count = omega arith in rw c.new-names.ensures.items (record {
      walks = record {
        so_far =
            rw same
            (sym (ap (λ (r : Read ℕ). r >>= λ count. names_at c.args.globals count.0 count.1) c.in_ok-count.ensures));
        read = record {
          there = tt;
          last =
              number_last w16 (2 ^ 16) wide16 c.args.bytes.now c.args.front.now c.in_ok-count.count
              c.in_ok-count.start.now
              (λ i. omega (arith, c.type_inv.bytes i)) c.requires c.in_ok-count.ensures;
        };
      };
      table = search (arith, rules, IsTable-start, c.in_ok-used.ensures.items_if_clones_equal);
    })

pub names-preserved : goal.names-preserved
names-preserved c =
    let bytes = c.args.bytes.now in
    let at = length bytes - length c.names.rest.now in
    let n : Name = name_ref_view c.in_ok-name.name in
    let read = rw c.deref-in-names.ensures.value at c.in_ok-name.ensures.gives in
    let step = name_step c.args.globals (names_in bytes c.names.names.items) bytes c.names.rest.now n
    c.in_ok-name.after.now (omega arith) (λ i. omega (arith, c.type_inv.bytes i)) c.names.invariant.walks.read.last
    read in
    let e : names_in bytes c.push.new.self.items ≡ names_in bytes c.names.names.items ++ n ∷ [] = rw
    c.in_ok-push.ensures.items (map_push _ c.names.names.items at)
    ∙ ap (λ (m : Name). names_in bytes c.names.names.items ++ m ∷ []) step.is in
    record {
      walks =
          rw c.in_ok-push.ensures.items (walks_on name_in HasName (name_at c.args.globals)
          (all_names_at c.args.globals c.args.front.now) bytes c.in_ok-count.count c.names.counter c.names.names.items
          c.names.rest.now n c.in_ok-name.after.now c.names-test.true read step c.names.invariant.walks);
      table =
          rw (e, c.from-in-names.ensures) (IsTable-push c.names.used.items c.args.globals
          (names_in bytes c.names.names.items) n c.in_ok-name.ensures.below c.names.invariant.table);
    }

pub returns-clause-gives : goal.returns-clause-gives
returns-clause-gives c =
    is_done (name_at c.args.globals) c.in_ok-count.count c.names.counter
    (names_in c.args.bytes.now c.names.names.items) c.names.rest.now (all_names_at c.args.globals c.args.front.now)
    c.names-test.false c.names.invariant.walks.so_far
