use Rattle.jt_inherit.proofs.Vocabulary.{lit<, rules, cases_from_all, IsPart}
use borrow.Author.Tests.{tests}
use Rattle.std.proofs.lemmas.Iterator.Splits.{YieldsList-from_str_split}
use Rattle.jt_inherit.proofs.ValidNames.{parts, tested_all}
use Rattle.jt_inherit.proofs.names.has_parts.Goals as goal

pub returns : goal.returns
returns c =
    tested_all IsPart (parts c.args.name.now) c.all.result
    (cases_from_all _ _ _ IsPart (λ p. IsPart p → ⊥) c.all.ensures.ran
    (YieldsList-from_str_split 47 c.args.name.now (lit< tt) c.split.ensures.text c.split.ensures.has_more
    c.split.ensures.pattern) (λ x q k. search (rules, tests)) (λ x q k. search (rules, tests)))
