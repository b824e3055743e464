use Rattle.std.proofs.Common.{arith, rules}
use Rattle.std.specs.Str.{chars}
use Rattle.jt_scan.proofs.NumberLoop.{sum_starts, sum_goes_on, sum_ends, digit_shrinks}
use Rattle.jt_scan.proofs.numbers.read_digits.Goals as goal

pub digits-init : goal.digits-init
digits-init c = (search rules, sum_starts c.args.base c.args.start (chars c.args.text.now) (omega arith))

pub digits-smaller : goal.digits-smaller
digits-smaller c =
    digit_shrinks c.args.base c.in-Some.digit (chars c.digits.rest.now) (chars c.in-Some.more.now) c.in-Some.ensures

pub digits-preserved : goal.digits-preserved
digits-preserved c = (
  search rules,
  sum_goes_on c.args.base c.args.start c.digits.number c.in-Some.digit c.grown-number.result (chars c.args.text.now)
      (chars c.digits.rest.now) (chars c.in-Some.more.now) c.digits.invariant.1 c.in-Some.ensures
      c.grown-number.ensures,
)

pub returns-clause-value : goal.returns-clause-value
returns-clause-value c =
    (sum_ends c.args.base c.args.start c.digits.number (chars c.args.text.now) (chars c.digits.rest.now)
    c.digits.invariant.1 c.in_default.ensures).0

pub returns-clause-rest : goal.returns-clause-rest
returns-clause-rest c =
    (sum_ends c.args.base c.args.start c.digits.number (chars c.args.text.now) (chars c.digits.rest.now)
    c.digits.invariant.1 c.in_default.ensures).1
