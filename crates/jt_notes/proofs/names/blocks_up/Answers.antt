use Rattle.jt_notes.proofs.names.blocks_up.Goals as goal
use Rattle.std.proofs.Common.{◌≡◌, ◌∙◌, ◌++◌, ◌<◌, ◌-◌, ℕ, List, Option, Some, ap, append_assoc, arith, map}
use Rattle.std.proofs.Common.{suc, zero}
use Rattle.std.specs.Prelude.{flat_map}
use Rattle.std.proofs.lemmas.List.{append-nil, map-append}
use Rattle.std.proofs.lemmas.List.Concat.{flat_map-append}
use Rattle.jt_chains.specs.Along.{body_at}
use Rattle.jt_chains.specs.Chain.{BlockBody, Template, blocks_in, extends_of, names_up, parent_of, template}
use Rattle.jt_chains.specs.Indices.{index_of}
use Rattle.jt_chains.specs.Parts.{name_at}
use Rattle.jt_chains.specs.View.{Seen, chain_view, sources_of}
use Rattle.jt_notes.proofs.BlocksUp.{here, none_up, parent}
use Rattle.jt_notes.specs.Notes.{Text}
use Rattle.jt_notes.specs.internal.Facts.{blocks_from}

-- A template on the path adds the names of its blocks.
turn : (chain : Seen) (left : ℕ) (x : Text) (i : ℕ) (old new : List Text) → 0 < left → i ≡ index_of chain.templates x
    → new ≡ old ++ map (λ b. b.name)
    (blocks_in (name_at chain.templates i) (body_at chain.templates i) chain.escaping)
    → new ++ blocks_from chain (left - 1) (extends_of (body_at chain.templates i))
    ≡ old ++ blocks_from chain left (Some x)
turn chain zero x i old new lt at is = absurd (omega (arith, lt))
turn chain (suc k) x i old new lt at is =
    let s = sources_of chain in
    let g : Template → List BlockBody = λ t. blocks_in t.name t.body chain.escaping in
    let h : Text → List Template = λ n. template n (s n) in
    let up = flat_map h (names_up s k (parent_of (s x))) in
    let apart : map (λ b. b.name) (flat_map g (h x ++ up))
    ≡ map (λ b. b.name) (flat_map g (h x)) ++ map (λ b. b.name) (flat_map g up) =
    ap (map (λ b. b.name)) (flat_map-append g (h x) up) ∙ map-append (λ b. b.name) (flat_map g (h x)) (flat_map g up) in
    let first = here chain.templates x i chain.escaping at in
    let next = parent chain.templates x i at in
    let less : suc k - 1 ≡ k = omega arith in
    rw (is, less, apart, first, next) (append_assoc old _ _)

turn_to : (chain : Seen) (left : ℕ) (x : Text) (i : ℕ) (old new : List Text) (next : Option Text) → 0 < left
    → i ≡ index_of chain.templates x
    → new ≡ old ++ map (λ b. b.name)
    (blocks_in (name_at chain.templates i) (body_at chain.templates i) chain.escaping)
    → next ≡ extends_of (body_at chain.templates i)
    → new ++ blocks_from chain (left - 1) next ≡ old ++ blocks_from chain left (Some x)
turn_to chain left x i old new next lt at is up = rw up (turn chain left x i old new lt at is)

pub returns-in_default : goal.returns-in_default
returns-in_default c =
    let up = none_up (sources_of (chain_view c.args.chain.now)) c.loop-left.left in
    let so_far = rw c.in_default.is at c.loop-left.invariant in
    simp (up, append-nil) at so_far

pub loop-left-preserved : goal.loop-left-preserved
loop-left-preserved c =
    let so_far = rw c.in-Some.is at c.loop-left.invariant in
    turn_to (chain_view c.args.chain.now) c.loop-left.left c.in-Some.name.now _ _ _ _ c.loop-left-test.true
    c.file_named-index.ensures c.in_ok-add_blocks.ensures c.parent_at-next.ensures ∙ so_far

pub returns : goal.returns
returns c =
    let none : c.loop-left.left ≡ 0 = omega (arith, c.loop-left-test.false) in
    let so_far = rw none at c.loop-left.invariant in
    simp append-nil at so_far
