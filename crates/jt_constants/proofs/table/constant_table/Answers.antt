use Rattle.std.proofs.Common.{◌≡◌, ℕ, ◌+◌, ◌≤◌, ◌^◌, [], ◌∷◌, ◌++◌, length, Vec, Global, sym, ap, ◌∙◌, subst}
use Rattle.std.proofs.Common.{arith, rules}
use Rattle.std.proofs.lemmas.List.{length-map, map-append}
use Rattle.std.proofs.lemmas.Result.{err_from_is_err_and}
use Rattle.jt_image.specs.Code.{Constant}
use Rattle.jt_image.specs.View.{constant_view, constants_view}
use Rattle.jt_constants.specs.internal.Keys.{key_view, index_of, KnowsMore}
use Rattle.jt_constants.proofs.TableGrowth.{holds_none, holds_all, known_absent, knows_more, turn_there, turn_absent}
use Rattle.jt_constants.proofs.TableGrowth.{left_so, too_many}
use Rattle.jt_constants.proofs.table.constant_table.Goals.{in-Some}
use Rattle.jt_constants.proofs.table.constant_table.Goals.{
  in-None+in_ok-index-in-None+in_ok-add-in-None+in_ok-constant_of-in-None+in_ok-push-in-None,
}
use Rattle.jt_constants.proofs.table.constant_table.Goals as goal
use Rattle.jt_image.specs.declared.image.Constant as image

pub returns-clause-once : goal.returns-clause-once
returns-clause-once c =
    let l = c.loop-value in
    (holds_all c.args.pool.now l.value-index (constants_view l.constants.items) l.indices.items c.loop-value-test.false
    l.invariant.1).0

pub returns-clause-indices : goal.returns-clause-indices
returns-clause-indices c =
    let l = c.loop-value in
    (holds_all c.args.pool.now l.value-index (constants_view l.constants.items) l.indices.items c.loop-value-test.false
    l.invariant.1).1

pub returns-in_err-index-in-None-clause-refused : goal.returns-in_err-index-in-None-clause-refused
returns-in_err-index-in-None-clause-refused c =
    let l = c.loop-value in
    let now = constants_view l.constants.items in
    let k = c.key_of-key.result in
    let found : c.known_index.result ≡ index_of now (key_view k) = c.known_index.ensures ∙ l.invariant.0 k in
    let absent = known_absent now (key_view k) (sym found ∙ c.in-None.is) in
    let err = c.in_err-index-in-None.ensures.err in
    let many : 2 ^ 32 ≤ length now =
    omega (arith, err.1, c.len.ensures, length-map l.constants.items constant_view, l.constants.ok.0) in
    let p = err_from_is_err_and c.from_residual-in_err-index-in-None.result
    c.from_residual-in_err-index-in-None.ensures.1 in
    rw (p.1, p.2, err.0) (too_many c.args.pool.now l.value-index c.value-item.result k c.key_of-key.ensures now
    l.indices.items c.loop-value-test.true c.value-item.is l.invariant.1 absent many)

pub loop-value-init : goal.loop-value-init
loop-value-init c = search (arith, rules, holds_none)

pub loop-value-preserved : goal.loop-value-preserved
loop-value-preserved c =
    let l = c.loop-value in
    let now = constants_view l.constants.items in
    let k = c.key_of-key.result in
    let v = c.value-item.result in
    let pool = c.args.pool.now in
    let found : c.known_index.result ≡ index_of now (key_view k) = c.known_index.ensures ∙ l.invariant.0 k in
    elim c.match-known_index.branch [
      | in-Some w ↦
          left_so pool (l.value-index + 1) c.match-known_index.known l.known
          (constants_view c.match-known_index.constants.items) now c.push-in-loop-value.new.self.items
          (l.indices.items ++ w.in-Some.index ∷ []) w.known-is
          (ap (λ (x : Vec image.Constant Global). constants_view x.items) w.constants-is)
          (c.in_ok-push.ensures.items ∙ ap (λ (n : ℕ). l.indices.items ++ n ∷ []) w.index-is)
          l.invariant.0 (turn_there pool l.value-index v k c.key_of-key.ensures now l.indices.items w.in-Some.index
          c.loop-value-test.true c.value-item.is l.invariant.1 (sym found ∙ w.in-Some.is))
      | in-None+in_ok-index-in-None+in_ok-add-in-None+in_ok-constant_of-in-None+in_ok-push-in-None w ↦
          let index = w.in_ok-index-in-None.index in
          let absent = known_absent now (key_view k) (sym found ∙ w.in-None.is) in
          let count : index ≡ length now =
          omega (
            arith,
            w.in_ok-index-in-None.ensures.ok,
            w.len.ensures,
            length-map l.constants.items constant_view,
            l.constants.ok.0,
          ) in
          let items : constants_view w.push.new.self.items ≡ now ++ key_view k ∷ [] =
          ap constants_view w.in_ok-push-in-None.ensures.items
          ∙ map-append constant_view l.constants.items (w.in_ok-constant_of-in-None.field-0 ∷ [])
          ∙ ap (λ (x : Constant). now ++ x ∷ []) w.in_ok-constant_of-in-None.ensures in
          left_so pool (l.value-index + 1) c.match-known_index.known w.add.new.known
          (constants_view c.match-known_index.constants.items) (now ++ key_view k ∷ [])
          c.push-in-loop-value.new.self.items (l.indices.items ++ index ∷ []) w.known-is
          (ap (λ (x : Vec image.Constant Global). constants_view x.items) w.constants-is ∙ items)
          (c.in_ok-push.ensures.items ∙ ap (λ (n : ℕ). l.indices.items ++ n ∷ []) w.index-is)
          (knows_more l.known w.add.new.known now k l.invariant.0 absent
          (subst (λ (n : ℕ). KnowsMore l.known k n w.add.new.known) count w.in_ok-add-in-None.ensures))
          (turn_absent pool l.value-index v k c.key_of-key.ensures now l.indices.items index
          c.loop-value-test.true c.value-item.is l.invariant.1 absent count)
    ]
