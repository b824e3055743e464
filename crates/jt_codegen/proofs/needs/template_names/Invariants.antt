use Rattle.std.proofs.Common.{◌≡◌, ◌++◌, map, drop}
use Rattle.jt_ast.specs.Texts.{texts}
use Rattle.jt_chains.specs.TemplateFiles.{files_view}
use Rattle.jt_codegen.proofs.needs.template_names.Given as goal

abbrev pub invariant-loop-file : goal.invariant-loop-file
invariant-loop-file l =
    texts l.names.items ++ map (λ t. t.name) (files_view (drop l.file-index l.files))
    ≡ map (λ t. t.name) (files_view l.files)
