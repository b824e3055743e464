use Rattle.std.proofs.Common.{◌≤◌, List, [], length, get_or, ap, subst, arith}
use Rattle.jt_verify.specs.Arena.{lists_of, IsUnder}
use Rattle.jt_verify.specs.declared.nodes.Node.{Node}
use Rattle.jt_verify.proofs.ArenaGrowth.{kept_same, found_pushed, vacant_pushed, pushed, kept_pushed, shape_pushed}
use Rattle.jt_verify.proofs.arena.push_in.Goals as goal

pub find-requires-clause-links : goal.find-requires-clause-links
find-requires-clause-links c = rw (c.as_slice.ensures, c.as_slice-2.ensures) c.requires.arena.links

pub find-requires-clause-index : goal.find-requires-clause-index
find-requires-clause-index c = rw c.as_slice.ensures (omega (arith, c.requires.within, c.requires.arena.len))

pub returns-in-To-clause-kept : goal.returns-in-To-clause-kept
returns-in-To-clause-kept c = kept_same _

pub returns-in-To-clause-node : goal.returns-in-To-clause-node
returns-in-To-clause-node c =
    found_pushed c.args.nodes.now.items c.as_slice.result.now c.args.links.now.items c.as_slice-2.result.now
    c.requires.arena c.args.mark c.args.shape c.digits.result c.in-To.node c.as_slice.ensures c.in-To.ensures

pub jump_on-jump-requires-clause-within : goal.jump_on-jump-requires-clause-within
jump_on-jump-requires-clause-within c =
    rw c.as_slice-in-Vacant.ensures (omega (arith, c.requires.within, c.requires.arena.len))

pub jump_on-jump-requires-clause-jumps : goal.jump_on-jump-requires-clause-jumps
jump_on-jump-requires-clause-jumps c = rw c.as_slice-in-Vacant.ensures c.requires.arena.jumps

pub add-requires : goal.add-requires
add-requires c =
    omega (
      arith,
      c.in-Vacant.ensures.1,
      c.requires.arena.links.indices,
      ap (λ (ns : List Node). length ns)
          c.as_slice.ensures,
    )

pub returns-in_err-node-in-Vacant-clause-arena : goal.returns-in_err-node-in-Vacant-clause-arena
returns-in_err-node-in-Vacant-clause-arena c =
    rw (c.in_err-node-in-Vacant.ensures.err.0, c.in_err-node-in-Vacant.ensures.err.1) c.requires.arena

pub returns-in_err-node-in-Vacant-clause-kept : goal.returns-in_err-node-in-Vacant-clause-kept
returns-in_err-node-in-Vacant-clause-kept c = rw c.in_err-node-in-Vacant.ensures.err.0 (kept_same _)

pub returns-in_ok-node-in-Vacant-clause-arena : goal.returns-in_ok-node-in-Vacant-clause-arena
returns-in_ok-node-in-Vacant-clause-arena c =
    let ns = c.args.nodes.now.items in
    let ls = c.args.links.now.items in
    let f = vacant_pushed ns c.as_slice.result.now ls c.as_slice-2.result.now c.args.mark c.args.shape c.digits.result
    c.in-Vacant.index c.as_slice.ensures c.as_slice-2.ensures c.digits.ensures c.in-Vacant.ensures in
    let jump = c.jump_on-jump.result in
    let way = subst (λ (xs : List Node).
    (jump.to ≤ c.args.shape.node) × IsUnder (lists_of xs) jump.to (get_or (lists_of xs) c.args.shape.node []))
    c.as_slice-in-Vacant.ensures (c.jump_on-jump.ensures.older, c.jump_on-jump.ensures.under) in
    rw (c.in_ok-node-in-Vacant.ensures.ok.nodes, c.in_ok-node-in-Vacant.ensures.ok.links)
    (pushed ns ls c.requires.arena c.in-Vacant.index c.in_ok-node-in-Vacant.node f.0 f.1 c.args.mark c.args.shape
    c.args.height jump (omega (arith, c.in_ok-node-in-Vacant.ensures.ok.node)) c.requires.within c.requires.height way
    f)

pub returns-in_ok-node-in-Vacant-clause-kept : goal.returns-in_ok-node-in-Vacant-clause-kept
returns-in_ok-node-in-Vacant-clause-kept c =
    rw c.in_ok-node-in-Vacant.ensures.ok.nodes
    (kept_pushed c.args.nodes.now.items
    (record { mark = c.args.mark; below = c.args.shape; height = c.args.height; jump = c.jump_on-jump.result })
    c.requires.arena.len)

pub returns-in_ok-node-in-Vacant-clause-node : goal.returns-in_ok-node-in-Vacant-clause-node
returns-in_ok-node-in-Vacant-clause-node c =
    rw c.in_ok-node-in-Vacant.ensures.ok.nodes
    (shape_pushed c.args.nodes.now.items
    (record { mark = c.args.mark; below = c.args.shape; height = c.args.height; jump = c.jump_on-jump.result })
    c.requires.arena.len c.in_ok-node-in-Vacant.node (omega (arith, c.in_ok-node-in-Vacant.ensures.ok.node)))
