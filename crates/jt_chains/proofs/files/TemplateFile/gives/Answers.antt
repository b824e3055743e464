use Rattle.jt_chains.proofs.files.TemplateFile.gives.Goals as goal
use Rattle.jt_chains.proofs.{[], ◌∷◌, arith, rules, files_view}

pub returns : goal.returns
returns c =
    let found = c.public_macro.ensures (files_view (c.args.self.now ∷ [])) in
    search (arith, rules, found)
