use Rattle.std.proofs.Common.{◌≡◌, ◌≤◌, List, Some, length, map, arith, refl, sym, ap, ◌∙◌, subst, rules}
use Rattle.std.specs.List.{AllByRecursion}
use Rattle.std.proofs.lemmas.Result.{err_from_is_err_and}
use Rattle.jt_value.specs.View.{view}
use Rattle.jt_value.specs.declared.value.Value.{Value}
use Rattle.std.specs.Vec.{with_items}
use Rattle.jt_image.specs.declared.parts.Parts.{Parts}
use Rattle.jt_image.specs.declared.version.Version.TheVariants as version
use Rattle.jt_image.specs.Parts.{each_of, section_of_unit}
use Rattle.jt_constants.specs.Merged.{constant_of, each_once, new_indices}
use Rattle.jt_constants.proofs.MergeIsNoLarger.{units_len}
use Rattle.jt_ir.specs.View.{routine_view, templates_of}
use Rattle.jt_ir.specs.declared.program.Routine.{Routine}
use Rattle.jt_lower.specs.Lower.{unit_of}
use Rattle.std.proofs.lemmas.List.{length-map, with_items_is}
use Rattle.jt_image.specs.IsCode.{max_locals}
use Rattle.jt_codegen.specs.Units.{max_parameters}
use Rattle.jt_codegen.proofs.MergedUnitsFit.{ps}
use Rattle.jt_codegen.proofs.PassedLimits.{viewed_back}
use Rattle.jt_codegen.proofs.ProgramTables.{counts_kept, parts_are, table_refused, templates_refused, units_refused}
use Rattle.jt_codegen.proofs.tables.parts_of.Goals as goal

pub returns-then-len-gt-MAX_COUNT-clause-refused : goal.returns-then-len-gt-MAX_COUNT-clause-refused
returns-then-len-gt-MAX_COUNT-clause-refused c = search (arith, rules, length-map)

pub units_of-requires-clause-parameters : goal.units_of-requires-clause-parameters
units_of-requires-clause-parameters c =
    let p = c.args.program.now in
    subst (λ (l : List Routine). AllByRecursion (λ r. r.parameters ≤ max_parameters) l) (sym c.deref-2.ensures.value)
    (viewed_back (λ parameters locals. parameters ≤ max_parameters) (templates_of p) p.routines.items
    c.in_ok-check_tables.ensures.kept.parameters)

pub units_of-requires-clause-locals : goal.units_of-requires-clause-locals
units_of-requires-clause-locals c =
    let p = c.args.program.now in
    subst (λ (l : List Routine). AllByRecursion (λ r. r.locals ≤ max_locals) l) (sym c.deref-2.ensures.value)
    (viewed_back (λ parameters locals. locals ≤ max_locals) (templates_of p) p.routines.items
    c.in_ok-check_tables.ensures.kept.locals)

pub names_of-requires : goal.names_of-requires
names_of-requires c = search (arith, rules, length-map)

pub returns-clause-kept : goal.returns-clause-kept
returns-clause-kept c = search (arith, rules, counts_kept, units_len, length-map, ps)

pub returns-clause-short : goal.returns-clause-short
returns-clause-short c = search (arith, rules, units_len, ps)

pub returns-in_err-table-clause-refused : goal.returns-in_err-table-clause-refused
returns-in_err-table-clause-refused c = search (arith, rules, err_from_is_err_and, table_refused)

pub returns-in_err-code-clause-refused : goal.returns-in_err-code-clause-refused
returns-in_err-code-clause-refused c = search (arith, rules, err_from_is_err_and, length-map, units_refused)

pub returns-in_err-named-clause-refused : goal.returns-in_err-named-clause-refused
returns-in_err-named-clause-refused c = search (arith, rules, err_from_is_err_and, templates_refused)

pub returns-clause-emitted : goal.returns-clause-emitted
returns-clause-emitted c =
    let p = c.args.program.now in
    let ts = templates_of p in
    let code = c.in_ok-code.code in
    let read = subst
    (λ (rs : List Routine). each_of section_of_unit code.units.items ≡ Some (map unit_of (map (routine_view ts) rs)))
    c.deref-2.ensures.value (c.in_ok-code.ensures.emitted ts) in
    let at = c.deref-3.ensures.value ∙ c.in_ok-table.ensures.indices
    ∙ ap (λ (vs : List Value). new_indices (map constant_of (map view vs))) c.deref.ensures.value in
    let once = c.in_ok-table.ensures.once
    ∙ ap (λ (vs : List Value). each_once (map constant_of (map view vs))) c.deref.ensures.value in
    let parts : Parts = record {
      version = version.Two;
      globals = p.globals;
      names = c.in_ok-names_of.field-0;
      constants = c.in_ok-table.table.constants;
      units = with_items code.units c.move_constants.new.units;
      templates = c.in_ok-named.named.templates;
      places = c.in_ok-named.named.places;
    } in
    let len : length c.move_constants.new.units ≡ code.units.len =
    omega (arith, c.move_constants.auto.units, ap length c.deref_mut.ensures.value, code.units.ok.0) in
    parts_are p parts code.units.items c.deref-3.result.now read
    (λ us e. ap (each_of section_of_unit) (with_items_is code.units c.move_constants.new.units len)
    ∙ c.move_constants.ensures us (ap (each_of section_of_unit) c.deref_mut.ensures.value ∙ e)) at refl (search rules)
    (search rules) once (search rules) (search rules)
