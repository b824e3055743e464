use Rattle.std.proofs.Common.{◌*◌, length, drop, arith, rules}
use Rattle.std.proofs.lemmas.List.{length-drop}
use Rattle.jt_image.proofs.DecodeSoundLemmas.{IsBytes-drop}
use Rattle.jt_image.proofs.InstructionsInPlace.{loc_placed}
use Rattle.jt_image.proofs.offsets.loc_there.Goals as goal

pub split_at-requires : goal.split_at-requires
split_at-requires c =
    let p = c.args.offsets.now in
    let here = loc_placed (length p.templates.items) p.instructions c.args.number (drop p.places c.args.bytes.now)
    c.requires.there.few (IsBytes-drop p.places c.args.bytes.now (λ i. omega (arith, c.type_inv.bytes i)))
    (rw c.requires.version at c.requires.there.places) (omega arith) in
    omega (arith, here.0, length-drop p.places c.args.bytes.now)

pub split_at-requires-2 : goal.split_at-requires-2
split_at-requires-2 c =
    let p = c.args.offsets.now in
    let here = loc_placed (length p.templates.items) p.instructions c.args.number (drop p.places c.args.bytes.now)
    c.requires.there.few (IsBytes-drop p.places c.args.bytes.now (λ i. omega (arith, c.type_inv.bytes i)))
    (rw c.requires.version at c.requires.there.places) (omega arith) in
    rw c.split_at.ensures.back (omega (arith, here.0))

pub loc_of-requires : goal.loc_of-requires
loc_of-requires c =
    let p = c.args.offsets.now in
    let here = loc_placed (length p.templates.items) p.instructions c.args.number (drop p.places c.args.bytes.now)
    c.requires.there.few (IsBytes-drop p.places c.args.bytes.now (λ i. omega (arith, c.type_inv.bytes i)))
    (rw c.requires.version at c.requires.there.places) (omega arith) in
    rw (c.split_at-2.ensures.back, c.split_at.ensures.back)
    (omega (arith, here.0, length-drop (6 * c.args.number) (drop p.places c.args.bytes.now)))

pub returns : goal.returns
returns c = search (arith, rules, loc_placed)
