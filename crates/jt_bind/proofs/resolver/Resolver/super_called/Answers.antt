use Rattle.std.proofs.lemmas.Option.{slice_get_read}
use Rattle.jt_semantics.specs.Resolve.{invoked_super}
use Rattle.jt_bind.proofs
use proofs.{StaticEnv, files_in, numbered_in, ◌≡◌, ℕ, ◌+◌, ◌<◌, ◌≤◌, List, ◌∷◌, length, drop, get_or, Option, Some}
use proofs.{filter, bytes_eq, BlockBody, block_view, Block, invoked_body, block_parameters, next_given, first_locals}
use proofs.{IsTable, part_at, cenv_in, order_in, namespace_in, senv_of, Chains, NamespaceLayout, numbered_next}
use proofs.{numbered_end, next_numbered, sym, ◌∙◌, invoked_placed}
use Rattle.jt_bind.proofs.resolver.Resolver.super_called.Goals as goal

module _ (s : Chains) (here : NamespaceLayout) (i : ℕ) (body : Block) (n : Option ℕ)
    (laid : IsTable s (namespace_in s) here) (lt : i < length here.known.now.blocks.items)
    (is : body ≡ get_or here.known.now.blocks.items i body) (next : n ≡ get_or here.next_bodies.items i n) where
  abbrev rest : List (ℕ × BlockBody)
  rest = drop (i + 1) (numbered_in s)

  -- The body at the index, and the bodies after it.
  left : drop i (numbered_in s) ≡ (i, block_view (files_in s) body) ∷ rest
  left = numbered_next s here.known.now.blocks.items laid.all_blocks i body lt is

  -- The next body of its block.
  next_is : n ≡ next_given (filter (λ (z : ℕ × BlockBody). bytes_eq z.1.name body.name.now) rest)
  next_is =
      laid.nexts i n
      (slice_get_read here.next_bodies.items (length here.known.now.blocks.items) i n (sym laid.all_next) lt next)
      (block_view (files_in s) body) rest left

  next_below : (k : ℕ) → n ≡ Some k → k < length here.known.now.blocks.items
  next_below k e = next_numbered s here.known.now.blocks.items laid.all_blocks _ i k lt (sym next_is ∙ e)

  -- The call of the next body.
  next_called : (sp : StaticEnv)
      → invoked_super (cenv_in s) (order_in s) sp (part_at (numbered_in s) (Some i))
      ≡ invoked_body (cenv_in s) (order_in s) sp.namespace sp.escaping n
      (first_locals 0 (block_parameters (cenv_in s) (order_in s) sp.namespace body.name.now))
  next_called sp = rw (left, ← next_is)

pub returns-in_default : goal.returns-in_default
returns-in_default c = rw c.in_default.is c.absent.ensures

pub returns-in_default-get : goal.returns-in_default-get
returns-in_default-get c =
    let s = c.args.self.now.tables.now in
    let outside : length c.deref.result.now ≤ c.in-Some.index = c.in_default-get.ensures.lookup.3 in
    let no_body = numbered_end s _ c.here-here.ensures.all_blocks c.in-Some.index
    (rw c.deref.ensures.value at outside) in
    rw (c.in-Some.is, no_body) c.absent-in_default-get.ensures

pub returns-in_default-index : goal.returns-in_default-index
returns-in_default-index c =
    let found = c.in-Some-get.ensures.lookup.3 in
    let called = next_called c.args.self.now.tables.now c.here-here.result.now c.in-Some.index c.in-Some-get.body.now
    c.index.result.now c.here-here.ensures (rw c.deref.ensures.value at found.0)
    (rw c.deref.ensures.value at (found.1 c.in-Some-get.body.now)) c.index.ensures (senv_of c.args.self.now) in
    rw (c.in-Some.is, called, c.in_default-index.is) c.absent-in_default-index.ensures

pub returns : goal.returns
returns c =
    let s = c.args.self.now.tables.now in
    let here = c.here-here.result.now in
    let laid = c.here-here.ensures in
    let i = c.in-Some.index in
    let body = c.in-Some-get.body.now in
    let found = c.in-Some-get.ensures.lookup.3 in
    let lt : i < length here.known.now.blocks.items = rw c.deref.ensures.value at found.0 in
    let is : body ≡ get_or here.known.now.blocks.items i body = rw c.deref.ensures.value at (found.1 body) in
    let called = next_called s here i body c.index.result.now laid lt is c.index.ensures (senv_of c.args.self.now) in
    let below = next_below s here i body c.index.result.now laid lt is c.index.ensures c.in-Some-index.next
    c.in-Some-index.is in
    rw (
      c.in-Some.is,
      called,
      c.in-Some-index.is,
      ← laid.body_units c.in-Some-index.next below,
      ← c.in_ok-unit.ensures,
    ) (λ p. invoked_placed _ (rw c.block_parameters-parameters.ensures at (c.in_ok-row.ensures p)))
