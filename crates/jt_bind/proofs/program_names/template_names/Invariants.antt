use Rattle.jt_bind.proofs.{◌≡◌, ◌++◌, map, drop, string_bytes, files_view}
use Rattle.jt_bind.proofs.program_names.template_names.Given as goal

abbrev pub invariant-loop-file : goal.invariant-loop-file
invariant-loop-file l =
    map string_bytes l.strings.items ++ map (λ t. t.name) (files_view (drop l.file-index l.files))
    ≡ map (λ t. t.name) (files_view l.files)
