use Rattle.jt_value.specs.View.{items_view}
use Rattle.jt_filters.proofs.NumberAnswers.{numbers_sorted}
use Rattle.jt_filters.proofs.answers.sorted_numbers.Goals as goal

pub returns-clause-numbers : goal.returns-clause-numbers
returns-clause-numbers c =
    numbers_sorted (items_view c.args.list.now) c.in_ok-numbers.numbers.items c.sort_unstable.new.self.items
    c.in_ok-numbers.ensures c.sort_unstable.ensures.permutation
