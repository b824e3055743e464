-- The parts that are built from a program have its tables and its units.
use Rattle.std.proofs.Common.{◌≡◌, ℕ, suc, ◌+◌, ◌-◌, ◌<◌, ◌≤◌, List, [], ◌∷◌, ◌++◌, length, drop, get_or, map}
use Rattle.std.proofs.Common.{Option, Some, None, refl, sym, ap, ◌∙◌, subst, arith, append_assoc, append-nil, rules}
use Rattle.std.specs.Prelude.{option_map, flat_map}
use Rattle.std.proofs.lemmas.List.{map-append, length-map, drop_more, at_drop_all}
use Rattle.std.specs.List.{AllByRecursion}
use Rattle.jt_value.specs.View.{view}
use Rattle.jt_image.specs.Code.{Section, Code}
use Rattle.jt_image.specs.declared.instruction.Instruction.{Instruction}
use Rattle.jt_image.specs.Reading.{instruction_of}
use Rattle.jt_image.specs.IsCode.{IsInstruction, total_len, max_count, max_instructions, max_locals}
use Rattle.jt_image.specs.declared.parts.Unit as given
use Rattle.jt_image.specs.View.{names_view, constants_view, texts_view, locs_view}
use Rattle.jt_image.proofs.PartsForAssembly.{each_holds}
use Rattle.jt_image.specs.Parts.{in_front, each_of, section_of_unit, code_with, code_of_parts}
use Rattle.jt_image.specs.declared.parts.Parts.{Parts}
use Rattle.jt_constants.specs.Merged.{constant_of, moved_unit}
use Rattle.jt_constants.specs.Refusals.{RefusesTable}
use Rattle.jt_constants.specs.declared.error.TableError.{TableError}
use Rattle.jt_constants.specs.declared.error.TableError.TheVariants as table_error
use Rattle.jt_constants.proofs.LoopPrefix.{each_len}
use Rattle.jt_constants.proofs.MergeIsNoLarger.{units_len}
use Rattle.std.proofs.lemmas.Option.{same_Some}
use Rattle.jt_ast.specs.Expressions.{Text}
use Rattle.jt_ir.specs.View.{routine_view, templates_of, program_of}
use Rattle.jt_ir.specs.declared.program.Routine.{Routine}
use Rattle.jt_ir.specs.declared.program.Program.{Program}
use Rattle.jt_value.specs.Place as place
use Rattle.jt_ir.specs.declared.program.Place.{Place}
use Rattle.jt_lower.specs.Emission.{places_view}
use Rattle.jt_lower.specs.Fits.{ProgramFits}
use Rattle.jt_lower.specs.Lower.{unit_of, numbered, routine_places, compiled}
use Rattle.jt_codegen.specs.Passed.{RefusesImage}
use Rattle.jt_codegen.specs.Units.{AreEncodable, FitsCounts, FitsTables, HasFewValues, RefusesTemplates, RefusesUnit}
use Rattle.jt_codegen.specs.Units.{RefusesUnits, of_table}
use Rattle.jt_codegen.proofs.MergedUnitsFit.{ps, moved_all}
use Rattle.jt_codegen.proofs.OperandsFit.{units_written}
use Rattle.jt_codegen.proofs.PassedLimits.{not_within}
use Rattle.jt_codegen.proofs.RoutineLimits.{units_all}
use Rattle.jt_codegen.proofs.TablesInOrder.{numbered_texts}
use Rattle.jt_codegen.specs.declared.emission.EmitError.{EmitError}
use Rattle.jt_codegen.specs.declared.emission.EmitError.TheVariants as error
use Rattle.jt_codegen.specs.declared.finding.Limit.TheVariants as limit

-- ---- units

total_append : (us vs : List Section) → total_len (us ++ vs) ≡ total_len us + total_len vs
total_append [] vs = omega arith
total_append (u ∷ us) vs = omega (arith, total_append us vs)

all_back : {A : Type 0} (P : A → Type 0) (xs ys : List A) → AllByRecursion P (xs ++ ys) → AllByRecursion P ys
all_back P [] ys h = h
all_back P (x ∷ xs) ys h = all_back P xs ys h.1

-- A property of all items holds of an item that was read.
pub item_holds : {A : Type 0} (P : A → Type 0) (xs : List A) (i : ℕ) (x : A) → AllByRecursion P xs → i < length xs
    → x ≡ get_or xs i x → P x
item_holds P xs i x all lt is = subst P (sym is) (each_holds P xs i x all lt)

-- A unit has the same number of instructions after decoding.
section_len : (u : given.Unit) (s : Section) → section_of_unit u ≡ Some s → length u.code.items ≡ length s.code
section_len u s e = through (each_of instruction_of u.code.items) refl e
  where
    with_code : List Instruction → Section
    with_code code = record { parameters = u.parameters; kind = u.kind; locals = u.locals; code = code }

    through : (o : Option (List Instruction)) → each_of instruction_of u.code.items ≡ o
        → option_map with_code o ≡ Some s → length u.code.items ≡ length s.code
    through None q f = absurd (let same : None ≡ Some s = f in cc)
    through (Some is) q f = search (arith, rules, each_len, same_Some, with_code)

module _ (templates : List Text) where
  abbrev pub unit : Routine → Section
  unit r = unit_of (routine_view templates r)

  abbrev pub units : List Routine → List Section
  units rs = map unit_of (map (routine_view templates) rs)

  -- The emitted units and those of the remaining routines are the units of all routines, with `n`
  -- instructions left.
  pub record Made (us : List given.Unit) (n : ℕ) (all left : List Routine) : Type 0 where
    pub front : List Section
    pub read : each_of section_of_unit us ≡ Some front
    pub whole : front ++ units left ≡ units all
    pub counted : total_len front + n ≡ max_instructions

  each_snoc : (us : List given.Unit) (u : given.Unit) (front : List Section) (s : Section)
      → each_of section_of_unit us ≡ Some front → section_of_unit u ≡ Some s
      → each_of section_of_unit (us ++ u ∷ []) ≡ Some (front ++ s ∷ [])
  each_snoc [] u front s e is = ap (λ o. in_front o (Some [])) is ∙ ap (λ l. Some (l ++ s ∷ [])) (same_Some [] front e)
  each_snoc (v ∷ us) u front s e is =
      through (section_of_unit v) (each_of section_of_unit us) refl e (λ ts f. each_snoc us u ts s f is)
    where
      through : (o : Option Section) (p : Option (List Section)) → each_of section_of_unit us ≡ p
          → in_front o p ≡ Some front → ((ts : List Section) → each_of section_of_unit us ≡ Some ts
          → each_of section_of_unit (us ++ u ∷ []) ≡ Some (ts ++ s ∷ []))
          → in_front o (each_of section_of_unit (us ++ u ∷ [])) ≡ Some (front ++ s ∷ [])
      through None p q f more = absurd (let same : None ≡ Some front = f in cc)
      through (Some t) None q f more = absurd (let same : None ≡ Some front = f in cc)
      through (Some t) (Some ts) q f more =
          ap (in_front (Some t)) (more ts q) ∙ ap (λ l. Some (l ++ s ∷ [])) (same_Some (t ∷ ts) front f)

  pub made_more : (us : List given.Unit) (u : given.Unit) (n : ℕ) (rs : List Routine) (i : ℕ) (r : Routine)
      → i < length rs → r ≡ get_or rs i r → section_of_unit u ≡ Some (unit r) → length u.code.items ≤ n
      → Made us n rs (drop i rs) → Made (us ++ u ∷ []) (n - length u.code.items) rs (drop (i + 1) rs)
  made_more us u n rs i r lt is e within m =
      let len = section_len u (unit r) e in
      let left : drop i rs ≡ r ∷ drop (i + 1) rs = drop_more rs i r lt ∙ ap (λ y. y ∷ drop (i + 1) rs) (sym is) in
      record {
        front = m.front ++ unit r ∷ [];
        read = each_snoc us u m.front (unit r) m.read e;
        whole =
            append_assoc m.front (unit r ∷ []) (units (drop (i + 1) rs)) ∙ ap (λ l. m.front ++ units l) (sym left)
            ∙ m.whole;
        counted = omega (arith, m.counted, within, len, total_append m.front (unit r ∷ []));
      }

  made_whole : (us : List given.Unit) (n : ℕ) (rs : List Routine) (i : ℕ) → length rs ≤ i
      → (m : Made us n rs (drop i rs)) → m.front ≡ units rs
  made_whole us n rs i le m =
      sym (append-nil m.front) ∙ ap (λ l. m.front ++ units l) (sym (at_drop_all (λ l. l) rs i le)) ∙ m.whole

  pub made_all : (us : List given.Unit) (n : ℕ) (rs : List Routine) (i : ℕ) → length rs ≤ i → Made us n rs (drop i rs)
      → each_of section_of_unit us ≡ Some (units rs)
  made_all us n rs i le m = m.read ∙ ap Some (made_whole us n rs i le m)

  pub made_short : (us : List given.Unit) (n : ℕ) (rs : List Routine) (i : ℕ) → length rs ≤ i → Made us n rs (drop i rs)
      → total_len (units rs) ≤ max_instructions
  made_short us n rs i le m = omega (arith, m.counted, ap total_len (made_whole us n rs i le m))

  -- ---- the places of units

  abbrev pub tags : List (Option Place) → List (Option place.Place)
  tags ps = places_view templates ps

  abbrev pub all_places : List Routine → List (Option place.Place)
  all_places rs = flat_map routine_places (map (routine_view templates) rs)

  pub places_more : (ps qs : List (Option Place)) (rs : List Routine) (i : ℕ) (r : Routine) → i < length rs
      → r ≡ get_or rs i r → tags qs ≡ routine_places (routine_view templates r)
      → tags ps ++ all_places (drop i rs) ≡ all_places rs
      → tags (ps ++ qs) ++ all_places (drop (i + 1) rs) ≡ all_places rs
  places_more ps qs rs i r lt is e so_far = search (arith, rules, drop_more, map-append, append_assoc)

  pub places_all : (ps : List (Option Place)) (rs : List Routine) (i : ℕ) → length rs ≤ i
      → tags ps ++ all_places (drop i rs) ≡ all_places rs → tags ps ≡ all_places rs
  places_all ps rs i le so_far =
      sym (append-nil (tags ps)) ∙ ap (λ l. tags ps ++ all_places l) (sym (at_drop_all (λ l. l) rs i le)) ∙ so_far

  pub unit_refused : (e : EmitError) (us : List given.Unit) (n : ℕ) (rs : List Routine) (i : ℕ) (r : Routine)
      → i < length rs → r ≡ get_or rs i r → RefusesUnit e n (unit r) → Made us n rs (drop i rs)
      → RefusesUnits e (units rs)
  unit_refused error.NoMemory us n rs i r lt is many m = tt
  unit_refused (error.Limit limit.Instructions) us n rs i r lt is many m = λ encodable.
      let rest = drop (i + 1) rs in
      let left : drop i rs ≡ r ∷ rest = drop_more rs i r lt ∙ ap (λ y. y ∷ rest) (sym is) in
      let whole : m.front ++ (unit r ∷ units rest) ≡ units rs =
      ap (λ l. m.front ++ units l) (sym left) ∙ m.whole in
      let here = all_back (λ u. AllByRecursion IsInstruction u.code) m.front (unit r ∷ units rest)
      (subst AreEncodable (sym whole) encodable) in
      omega (arith, many here.0, m.counted, ap total_len whole, total_append m.front (unit r ∷ units rest))
  unit_refused (error.Limit l) us n rs i r lt is many m = absurd many

-- ---- the whole program

-- If the units of a program within the limits of tables are refused, they have too many instructions.
pub units_refused : (e : EmitError) (p : Program) → ProgramFits (program_of p) → HasFewValues (program_of p)
    → FitsTables (program_of p) → RefusesUnits e (units (templates_of p) p.routines.items)
    → RefusesImage e (program_of p)
units_refused error.NoMemory p fit few tables many = tt
units_refused (error.Limit limit.Instructions) p fit few tables many =
    let q = program_of p in
    let us = map unit_of q.routines in
    let above = not_within (total_len us) max_instructions (λ len.
    let more = many (units_written q fit (omega (arith, few tables len)) tables len) in
    absurd (omega (arith, more, len))) in
    omega (arith, above, units_len (ps q) us)
units_refused (error.Limit l) p fit few tables many = absurd many

-- If the pool has no table of constants, it has too many constants.
pub table_refused : (e : TableError) (p : Program) → RefusesTable e (map constant_of (map view p.pool.items))
    → RefusesImage (of_table e) (program_of p)
table_refused table_error.TooManyConstants p many = omega (arith, many)
table_refused table_error.NoMemory p many = tt

-- If the templates of places have no table, they are too many.
pub templates_refused : (e : EmitError) (p : Program) → RefusesTemplates e (compiled (program_of p)).templates
    → RefusesImage e (program_of p)
templates_refused error.NoMemory p many = tt
templates_refused (error.Limit limit.Templates) p many = many
templates_refused (error.Limit l) p many = absurd many

pub numbered_len : (i : ℕ) (xs : List Text) → length (numbered i xs) ≡ length xs
numbered_len i [] = refl
numbered_len i (x ∷ xs) = ap suc (numbered_len (suc i) xs)

-- The limits that are checked before the parts are assembled.
pub counts_kept : (p : Program) → ProgramFits (program_of p) → FitsTables (program_of p)
    → length (compiled (program_of p)).constants ≤ max_count
    → total_len (compiled (program_of p)).units ≤ max_instructions
    → length (compiled (program_of p)).templates ≤ max_count → FitsCounts (compiled (program_of p))
counts_kept p fit tables constants instructions templates =
    let q = program_of p in record {
      names = omega (arith, numbered_len 0 q.names, fit.names, tables.globals);
      texts = numbered_texts (λ t. length t ≤ max_count) 0 q.names tables.names;
      constants = constants;
      units =
          omega (
            arith,
            tables.units,
            length-map q.routines unit_of,
            length-map (map unit_of q.routines) (moved_unit (ps q)),
          );
      locals =
          moved_all (λ parameters kind locals. locals ≤ max_locals) (ps q) (map unit_of q.routines)
          (units_all (λ parameters locals. locals ≤ max_locals) q.routines tables.locals);
      instructions = instructions;
      templates = templates;
    }

-- The parts with the units whose constants were moved are the code.
same_code : (parts : Parts) (us : List Section) (k : Code) → parts.version ≡ k.version → parts.globals ≡ k.globals
    → names_view parts.names.items ≡ k.names → constants_view parts.constants.items ≡ k.constants → us ≡ k.units
    → texts_view parts.templates.items ≡ k.templates → locs_view parts.places.items ≡ k.places
    → code_with parts us ≡ k
same_code parts us k v g n c u t s = search (arith, rules)

pub parts_are : (p : Program) (parts : Parts) (before : List given.Unit) (places : List ℕ)
    → each_of section_of_unit before ≡ Some (units (templates_of p) p.routines.items)
    → ((us : List Section) → each_of section_of_unit before ≡ Some us
    → each_of section_of_unit parts.units.items ≡ Some (map (moved_unit places) us))
    → places ≡ ps (program_of p)
    → parts.version ≡ (compiled (program_of p)).version → parts.globals ≡ p.globals
    → names_view parts.names.items ≡ (compiled (program_of p)).names
    → constants_view parts.constants.items ≡ (compiled (program_of p)).constants
    → texts_view parts.templates.items ≡ (compiled (program_of p)).templates
    → locs_view parts.places.items ≡ (compiled (program_of p)).places
    → code_of_parts parts ≡ Some (compiled (program_of p))
parts_are p parts before places read moves at v g n c t s = search (arith, rules, same_code, ps)
