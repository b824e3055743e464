use Rattle.std.proofs.Common.{◌≡◌, ℕ, length, ◌*◌, ◌∙◌, ap, take, arith, rules}
use Rattle.std.proofs.Math.Seq.{take-length}
use Rattle.clap.specs.Walk.{texts}
use Rattle.jt_args.proofs.Pairing.{one_pair_more, two_more}
use Rattle.jt_args.proofs.line.pairs.Goals as goal

pub loop-i-preserved : goal.loop-i-preserved
loop-i-preserved c = search (arith, rules, one_pair_more, two_more)

pub returns : goal.returns
returns c =
    let words = c.args.words.now in
    let least = c.loop-i-test.false in
    let most = c.loop-i.auto.i-end in
    let even = c.requires in
    let all : 2 * c.loop-i.i ≡ length words = omega (arith, least, most, even) in
    c.loop-i.invariant ∙ ap texts (ap (λ (n : ℕ). take n words) all ∙ take-length words)
