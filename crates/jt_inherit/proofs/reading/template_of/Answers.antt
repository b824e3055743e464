use Rattle.jt_inherit.proofs.Vocabulary.{rules, ◌≤◌, length, ap, arith, IsUtf8, Held, max_source_len, cut_of, bytes_of}
use Rattle.jt_inherit.proofs.Vocabulary.{chars}
use Rattle.std.proofs.lemmas.Str.{IsUtf8-string_bytes, length-le-encodes}
use Rattle.jt_scan.specs.Cut.{weight_of}
use Rattle.jt_inherit.proofs.SourceErrors.{limited, tree_found, only_tree, no_tree, unspelled}
use Rattle.jt_inherit.proofs.TreeLengths.{few_bytes, cut_short}
use Rattle.jt_inherit.proofs.reading.template_of.Goals as goal

pub returns-in-Ok-parse-clause-weighs : goal.returns-in-Ok-parse-clause-weighs
returns-in-Ok-parse-clause-weighs c =
    let utf8 : IsUtf8 c.in-Ok.source.text =
    rw (← (ap (λ (s : Held). s.text) c.source.view_is)) (IsUtf8-string_bytes c.source.inside.text) in
    let short : length c.args.text.now ≤ max_source_len =
    limited c.args.text.now (λ long. let no = c.in-Ok.ensures.long long in absurd (cc)) in
    let text = ap (λ (s : Held). s.text) (c.in-Ok.ensures.short short) in
    omega (
      arith,
      c.in-Ok-parse.ensures.weighs,
      ap (λ z. weight_of (cut_of z)) c.as_slice.ensures.value,
      c.in-Ok-scan.ensures.weighs,
      few_bytes c.args.options.keep_trailing_newline c.args.text.now c.in-Ok.source.text utf8 text,
      length-le-encodes (chars c.in-Ok.source.text),
    )

pub returns-in-Ok-parse-clause-short : goal.returns-in-Ok-parse-clause-short
returns-in-Ok-parse-clause-short c =
    let utf8 : IsUtf8 c.in-Ok.source.text =
    rw (← (ap (λ (s : Held). s.text) c.source.view_is)) (IsUtf8-string_bytes c.source.inside.text) in
    let short : length c.args.text.now ≤ max_source_len =
    limited c.args.text.now (λ long. let no = c.in-Ok.ensures.long long in absurd (cc)) in
    let text = ap (λ (s : Held). s.text) (c.in-Ok.ensures.short short) in
    omega (
      arith,
      c.in-Ok-parse.ensures.short,
      ap (λ z. bytes_of (cut_of z)) c.as_slice.ensures.value,
      cut_short c.in-Ok-scan.ensures.cut,
      few_bytes c.args.options.keep_trailing_newline c.args.text.now c.in-Ok.source.text utf8 text,
    )

pub returns-in-Ok-parse-clause-spelled : goal.returns-in-Ok-parse-clause-spelled
returns-in-Ok-parse-clause-spelled c = search (arith, rules, limited, tree_found)

pub returns-in-Ok-parse-clause-only : goal.returns-in-Ok-parse-clause-only
returns-in-Ok-parse-clause-only c =
    let short : length c.args.text.now ≤ max_source_len =
    limited c.args.text.now (λ long. let no = c.in-Ok.ensures.long long in absurd (cc)) in
    λ b t.
    only_tree c.args.options c.args.text.now c.in-Ok.source (c.in-Ok.ensures.short short) c.in-Ok-scan.segments.items
    c.in-Ok-scan.ensures.options c.in-Ok-scan.ensures.only c.in-Ok-parse.template
    (rw (← c.as_slice.ensures.value) c.in-Ok-parse.ensures.only) b t

pub returns-clause-refused : goal.returns-clause-refused
returns-clause-refused c =
    let short : length c.args.text.now ≤ max_source_len =
    limited c.args.text.now (λ long. let no = c.in-Ok.ensures.long long in absurd (cc)) in
    let e = c.in-Err-parse.refusal in
    let none = no_tree c.args.options c.args.text.now c.in-Ok.source (c.in-Ok.ensures.short short)
    c.in-Ok-scan.segments.items c.in-Ok-scan.ensures.options c.in-Ok-scan.ensures.only e in
    unspelled c.args.options c.args.text.now c.in-Ok.source (c.in-Ok.ensures.short short) c.in-Ok-scan.segments.items
    c.args.name.now e c.unparsed.result c.in-Ok-scan.ensures.cut c.in-Ok-scan.ensures.options
    (rw (← c.as_slice.ensures.value) c.in-Err-parse.ensures.refused)
    (λ f. none f (rw (← c.as_slice.ensures.value) c.in-Err-parse.ensures.only))
    c.unparsed.ensures
