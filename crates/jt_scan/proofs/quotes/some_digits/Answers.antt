use Rattle.std.proofs.Common.{◌≡◌, ◌-◌, suc, rules, arith}
use Rattle.std.specs.Str.{chars}
use Rattle.jt_scan.proofs.QuoteLoop.{part_goes_on, part_stops, part_full}
use Rattle.jt_scan.proofs.quotes.some_digits.Goals as goal

pub returns-in_default-clause-missing : goal.returns-in_default-clause-missing
returns-in_default-clause-missing c =
    (part_stops c.args.base c.args.most c.args.start c.digits.missing c.digits.number (chars c.args.text.now)
    (chars c.digits.rest.now) c.digits.invariant.1 c.in_default.ensures).0

pub returns-in_default-clause-number : goal.returns-in_default-clause-number
returns-in_default-clause-number c =
    (part_stops c.args.base c.args.most c.args.start c.digits.missing c.digits.number (chars c.args.text.now)
    (chars c.digits.rest.now) c.digits.invariant.1 c.in_default.ensures).1

pub returns-in_default-clause-rest : goal.returns-in_default-clause-rest
returns-in_default-clause-rest c =
    (part_stops c.args.base c.args.most c.args.start c.digits.missing c.digits.number (chars c.args.text.now)
    (chars c.digits.rest.now) c.digits.invariant.1 c.in_default.ensures).2

pub digits-preserved : goal.digits-preserved
digits-preserved c =
    let one : c.digits.missing ≡ suc (c.digits.missing - 1) = omega (arith, c.digits-test.true) in (
      search rules,
      part_goes_on c.args.base c.args.most c.args.start c.digits.missing (c.digits.missing - 1) c.digits.number
          c.in-Some.digit c.grown-number.result (chars c.args.text.now) (chars c.digits.rest.now)
          (chars c.in-Some.more.now)
          c.digits.invariant.1 c.in-Some.ensures c.grown-number.ensures one,
    )

pub returns-clause-missing : goal.returns-clause-missing
returns-clause-missing c =
    (part_full c.args.base c.args.most c.args.start c.digits.missing c.digits.number (chars c.args.text.now)
    (chars c.digits.rest.now) c.digits.invariant.1 (omega (arith, c.digits-test.false))).0

pub returns-clause-number : goal.returns-clause-number
returns-clause-number c =
    (part_full c.args.base c.args.most c.args.start c.digits.missing c.digits.number (chars c.args.text.now)
    (chars c.digits.rest.now) c.digits.invariant.1 (omega (arith, c.digits-test.false))).1

pub returns-clause-rest : goal.returns-clause-rest
returns-clause-rest c =
    (part_full c.args.base c.args.most c.args.start c.digits.missing c.digits.number (chars c.args.text.now)
    (chars c.digits.rest.now) c.digits.invariant.1 (omega (arith, c.digits-test.false))).2
