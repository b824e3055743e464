use Rattle.std.proofs.Common.{List, map, string_bytes, ap, ◌∙◌}
use Rattle.std.proofs.lemmas.Result.{IfErr-weaker, IfOk-weaker}
use Rattle.jt_image.specs.Code.{Code}
use Rattle.jt_ast.specs.Expressions.{Text}
use Rattle.jt_ir.specs.View.{program_of}
use Rattle.jt_codegen.proofs.ChainImages.{low_of, high_of, tables_of, fits_of, few_of, names_fit, compiled_of}
use Rattle.jt_codegen.proofs.ChainImages.{numbered_texts, stack_refused, stack_not_small, image_refused}
use Rattle.jt_codegen.proofs.ChainImages.{image_not_small}
use Rattle.jt_codegen.proofs.compiling.compile_program.Goals as goal

pub returns-then-not-fits_entries-clause-refused : goal.returns-then-not-fits_entries-clause-refused
returns-then-not-fits_entries-clause-refused c =
    let q = c.args.program.now in
    let high = high_of q c.deref.result.now c.fits_entries.result c.deref.ensures.value c.fits_entries.ensures
    c.if-not-fits_entries.true in
    λ asked is. stack_refused c.code_laws.ensures c.low_laws.ensures c.program_laws.ensures asked.given asked.entry
    asked.options is.chain is.of.only is.kept (program_of q) is.is high

pub returns-then-not-fits_entries-clause-small : goal.returns-then-not-fits_entries-clause-small
returns-then-not-fits_entries-clause-small c =
    let q = c.args.program.now in
    let high = high_of q c.deref.result.now c.fits_entries.result c.deref.ensures.value c.fits_entries.ensures
    c.if-not-fits_entries.true in
    λ asked is some. stack_not_small c.code_laws.ensures c.low_laws.ensures c.program_laws.ensures asked.given
    asked.entry asked.options is.chain is.of.only is.kept (program_of q) is.is high is.of.weighs

pub image_of-requires-clause-tables : goal.image_of-requires-clause-tables
image_of-requires-clause-tables c =
    let asked = c.requires.0 in
    let is = c.requires.1 in
    tables_of c.code_laws.ensures c.low_laws.ensures c.program_laws.ensures asked.given asked.entry asked.options
    is.chain is.of.only is.kept (program_of c.args.program.now) is.is

pub image_of-requires-clause-fits : goal.image_of-requires-clause-fits
image_of-requires-clause-fits c =
    let q = c.args.program.now in
    let asked = c.requires.0 in
    let is = c.requires.1 in
    let low = low_of q c.deref.result.now c.fits_entries.result c.deref.ensures.value c.fits_entries.ensures
    c.if-not-fits_entries.false in
    fits_of c.code_laws.ensures c.low_laws.ensures c.program_laws.ensures asked.given asked.entry asked.options
    is.chain is.of.only is.kept (program_of q) is.is low

pub image_of-requires-clause-few : goal.image_of-requires-clause-few
image_of-requires-clause-few c =
    let asked = c.requires.0 in
    let is = c.requires.1 in
    few_of c.code_laws.ensures c.low_laws.ensures c.program_laws.ensures asked.given asked.entry asked.options
    is.chain is.of.only is.kept (program_of c.args.program.now) is.is

pub image_of-requires-clause-templates : goal.image_of-requires-clause-templates
image_of-requires-clause-templates c =
    let asked = c.requires.0 in
    let is = c.requires.1 in
    names_fit c.code_laws.ensures c.low_laws.ensures c.program_laws.ensures asked.given asked.entry asked.options
    is.chain is.of.only is.kept (program_of c.args.program.now) is.is

pub returns-clause-refused : goal.returns-clause-refused
returns-clause-refused c = λ asked is.
    IfErr-weaker c.image_of.result _ _
    (λ e h. image_refused c.code_laws.ensures c.low_laws.ensures c.program_laws.ensures asked.given asked.entry
    asked.options is.chain is.of.only is.kept e (program_of c.args.program.now) is.is h)
    c.image_of.ensures.refused

pub returns-clause-small : goal.returns-clause-small
returns-clause-small c = λ asked is.
    IfErr-weaker c.image_of.result _ _
    (λ e h some. image_not_small c.code_laws.ensures c.low_laws.ensures c.program_laws.ensures asked.given asked.entry
    asked.options is.chain is.of.only is.kept e (program_of c.args.program.now) is.is h is.of.weighs is.of.short
    is.of.few some)
    c.image_of.ensures.refused

pub returns-clause-compiled : goal.returns-clause-compiled
returns-clause-compiled c =
    let q = c.args.program.now in
    let low = low_of q c.deref.result.now c.fits_entries.result c.deref.ensures.value c.fits_entries.ensures
    c.if-not-fits_entries.false in
    λ asked is. compiled_of c.code_laws.ensures c.low_laws.ensures c.program_laws.ensures asked.given asked.entry
    asked.options is.chain is.of.only is.kept (program_of q) is.is low c.image_of.result c.image_of.ensures.is
    c.image_of.ensures.whole

pub returns-clause-names : goal.returns-clause-names
returns-clause-names c =
    IfOk-weaker c.image_of.result _ _
    (λ k e. ap (λ (z : Code). map (λ n. n.text) z.names) e ∙ numbered_texts 0 (program_of c.args.program.now).names)
    c.image_of.ensures.is
