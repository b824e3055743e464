use Rattle.std.proofs.Common.{◌≤◌, length, subst}
use Rattle.jt_scan.specs.SourceView.{max_source_len}
use Rattle.jt_parse.specs.Grammar.{Spelled}
use Rattle.jt_parse.specs.Kept.{pieces}
use Rattle.jt_parse.specs.View.{reads_of}
use Rattle.jt_ast.specs.StatementView.{body_of}
use Rattle.jt_inherit.proofs.SourceErrors.{limited}
use Rattle.jt_codegen.proofs.UnknownNames.{tree_there}
use Rattle.jt_codegen.proofs.unknown.tree_of.Goals as goal

pub returns-in-Ok-parse_unchecked : goal.returns-in-Ok-parse_unchecked
returns-in-Ok-parse_unchecked c =
    let short : length c.args.text.now ≤ max_source_len =
    limited c.args.text.now (λ long. let no = c.in-Ok.ensures.long long in absurd (cc)) in
    tree_there c.args.options c.args.text.now c.in-Ok.source (c.in-Ok.ensures.short short) c.in-Ok-scan.segments.items
    c.in-Ok-parse_unchecked.template c.in-Ok-scan.ensures.cut c.in-Ok-scan.ensures.options
    (subst (λ z. Spelled (body_of c.in-Ok-parse_unchecked.template) (pieces (reads_of z))) c.deref.ensures.value
    c.in-Ok-parse_unchecked.ensures.0)
