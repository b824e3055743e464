use Rattle.std.proofs.lemmas.Iterator.Search.{all_from_yields_List}
use Rattle.std.proofs.lemmas.Iterator.{YieldsList-from_slice}
use Rattle.jt_checks.proofs.arguments.names_fit.Goals as goal
use Rattle.jt_checks.proofs.{parameters_view, all_known, parameter_names, ◌∙◌, ◌≡◌, arith, rules, tests, Bor, Text}
use Rattle.jt_checks.proofs.{among, texts, among_first, all_in}

pub returns : goal.returns
returns c =
    let ps = parameters_view c.args.left.now in
    let known : c.all.result ≡ all_known ps (texts c.args.names.now) =
    all_from_yields_List (λ (k : Bor Text). among k.now (parameter_names ps)) _ _ _ c.all.ensures.ran
    (YieldsList-from_slice c.args.names.now cc)
    (λ x b q k. search (rules, tests, c.in_ok-index.ensures, c.in_ok-known.ensures, c.deref.ensures.value, among_first))
    ∙ all_in ps c.args.names.now in
    search (arith, rules)
