use Rattle.jt_chains.proofs.files.TemplateFile.public_macro.Goals as goal
use Rattle.std.proofs.lemmas.Option.{slice_get_past, slice_get_read}
use Rattle.jt_chains.proofs.{arith, rules, name_at, refl, looked_up}

pub returns-in_err-statement : goal.returns-in_err-statement
returns-in_err-statement c = λ ts.
    search (arith, rules, looked_up c.args.name.now (name_at ts c.args.index) c.args.self.now _ refl)

pub returns-in_err-get : goal.returns-in_err-get
returns-in_err-get c = λ ts.
    let found = looked_up c.args.name.now (name_at ts c.args.index) c.args.self.now _ c.body.ensures in
    search (arith, rules, found, slice_get_past)

pub returns : goal.returns
returns c = λ ts.
    let found = looked_up c.args.name.now (name_at ts c.args.index) c.args.self.now _ c.body.ensures in
    search (arith, rules, found, slice_get_read)
