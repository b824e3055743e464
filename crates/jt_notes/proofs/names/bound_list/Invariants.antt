use Rattle.jt_notes.proofs.names.bound_list.Given as goal
use Rattle.std.proofs.Common.{◌≡◌, ◌++◌, drop}
use Rattle.std.specs.Prelude.{flat_map}
use Rattle.jt_ast.specs.Texts.{texts}
use Rattle.jt_chains.specs.TemplateFiles.{files_view}
use Rattle.jt_chains.specs.View.{chain_view}
use Rattle.jt_notes.specs.Notes.{bound_in, bound_names}

abbrev pub invariant-loop-file : goal.invariant-loop-file
invariant-loop-file l =
    texts l.found.items ++ flat_map (λ t. bound_in t.body) (files_view (drop l.file-index l.file-items))
    ≡ bound_names (chain_view l.chain)
