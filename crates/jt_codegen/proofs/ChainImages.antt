-- A chain that breaks no rule has its image, and the claims of refusals hold.
use Rattle.std.proofs.Common.{◌≡◌, ℕ, suc, ◌+◌, ◌*◌, ◌<◌, ◌≤◌, Bool, true, false, List, [], ◌∷◌, map, length}
use Rattle.std.proofs.Common.{None, refl, sym, ap, ◌∙◌, subst, arith, rules}
use Rattle.std.specs.Prelude.{IsTrue, Result, Ok, Err, IfOk}
use Rattle.std.specs.List.{AllByRecursion}
use Rattle.jt_scan.specs.declared.options.Options.{Options}
use Rattle.jt_image.proofs.ReadPrefix.{all_weaker}
use Rattle.std.proofs.lemmas.Bool.{or_left, or_right}
use Rattle.std.proofs.lemmas.Cmp.{nat_list_eq_equiv}
use Rattle.jt_image.specs.Code.{Name, Code}
use Rattle.jt_image.specs.IsCode.{IsCode, max_count}
use Rattle.jt_image.specs.Typed.{max_entries}
use Rattle.jt_image.specs.Parts.{FitTexts, HasTables}
use Rattle.jt_image.specs.Laws.{CodeLaws}
use Rattle.jt_ast.specs.Sizes.{body_bytes}
use Rattle.jt_ast.specs.Expressions.{Text}
use Rattle.jt_ast.specs.Texts.{among}
use Rattle.jt_chains.specs.Chain.{Namespace, a_chain, Template, templates}
use Rattle.jt_inherit.specs.Chains.{SourceTexts, IsRead, IsOnly, IsChain}
use Rattle.jt_parse.specs.Names.{body_unknown}
use Rattle.jt_chains.specs.Includes.{InOrder}
use Rattle.jt_chains.specs.Indices.{namespace_at}
use Rattle.jt_chains.specs.Rules.{Reaches}
use Rattle.jt_inherit.specs.Refusals as inherit
use Rattle.jt_chains.specs.Weights.{chains_weight}
use Rattle.jt_inherit.specs.Small.{chains_len, source_len, templates_len, IsSmall}
use Rattle.jt_chains.specs.Uses.{body_names}
use Rattle.jt_chains.specs.View.{Seen, sources_of}
use Rattle.jt_inherit.specs.declared.error.ChainError.{ChainError}
use Rattle.jt_inherit.specs.declared.error.ChainError.TheVariants as chain_error
use Rattle.jt_rules.specs.Rules as rules
use Rattle.jt_rules.specs.Known.{ChainsKnown}
use Rattle.jt_rules.specs.Rules.{KeepsRules}
use Rattle.jt_rules.specs.declared.error.ScopeError.{ScopeError}
use Rattle.jt_rules.specs.declared.error.ScopeError.TheVariants as scope_error
use Rattle.jt_rules.specs.CompileEnv.{CompileEnv, cenv_of}
use Rattle.jt_semantics.specs.Bytes.{IsShort}
use Rattle.jt_semantics.specs.Layout.{names, shared}
use Rattle.jt_semantics.specs.Laws.{ProgramLaws}
use Rattle.jt_semantics.specs.Measure.{AreFew, IsSized}
use Rattle.jt_semantics.specs.Programs.{program, routines, count_globals}
use Rattle.jt_eval.specs.TheFilters.{the_filters}
use Rattle.jt_ir.specs.Size.{body_height}
use Rattle.jt_ir.specs.Slots.{Routine, Program}
use Rattle.jt_ir.specs.View.{routine_view, program_of}
use Rattle.jt_ir.specs.declared.program.Program as given
use Rattle.jt_ir.specs.declared.program.Routine as given_routine
use Rattle.jt_lower.specs.Compiles.{LowLaws}
use Rattle.jt_lower.specs.Fits.{ProgramFits}
use Rattle.jt_lower.specs.Lawful.{AreLow}
use Rattle.jt_lower.specs.Lower.{numbered, unit_of, places_of, compiled}
use Rattle.jt_codegen.specs.Compiled.{IsOnlyChain, IsCompiled}
use Rattle.jt_codegen.specs.Limits.{NeedsTooMany}
use Rattle.jt_codegen.specs.Refusals.{of_chain, of_scope, of_emit, Breaks, HasProgram, NamesLimit}
use Rattle.jt_codegen.specs.Passed.{Passes, RefusesImage}
use Rattle.jt_codegen.specs.Units.{FitsImage, HasFewValues}
use Rattle.jt_codegen.specs.internal.Asked.{Asked, PassesOf}
use Rattle.jt_codegen.specs.declared.finding.Limit.TheVariants as limit
use Rattle.jt_codegen.proofs.PassedLimits.{some_above, too_long}
use Rattle.jt_codegen.specs.declared.emission.EmitError.{EmitError}
use Rattle.jt_codegen.specs.declared.emission.EmitError.TheVariants as emit_error
use Rattle.jt_codegen.proofs.LibrariesAreImported.{all_count}
use Rattle.jt_codegen.proofs.KnownFiltersAndTests.{chains_known}
use Rattle.jt_codegen.proofs.ProgramsAreLawful.{few_globals, program_lawful}
use Rattle.jt_codegen.proofs.MergedUnitsFit.{ps, moved_all}
use Rattle.jt_codegen.proofs.PoolSize.{few_values}
use Rattle.jt_codegen.proofs.ChainTemplates.{chain_has, names_all, own_all, all_short}
use Rattle.jt_codegen.proofs.RoutineLimits.{parameters_few}
use Rattle.jt_codegen.proofs.NamesAreNotEmpty.{IsLine, first_line, tree_said}
use Rattle.jt_codegen.proofs.SmallChainsFit.{small_low, small_fits}
use Rattle.jt_codegen.proofs.TemplateNamesInOrder.{IsTag, names_of, names_have, few_names, namespaces_tagged}
use Rattle.jt_codegen.proofs.TemplateNamesInOrder.{templates_have, short_templates}
use Rattle.jt_codegen.proofs.PlacesAreTags.{OnTag, program_placed}
use Rattle.jt_codegen.proofs.TablesInOrder.{tables}

-- No routine needs more entries than a shape may have.
abbrev pub Low : Program → Type 0
Low p = AllByRecursion (λ r. body_height r.body ≤ max_entries) p.routines

needs_too_many : (p : Program) → ¬ (Low p) → NeedsTooMany p
needs_too_many p n =
    let h = some_above (λ (r : Routine ℕ). body_height r.body) max_entries p.routines n in
    record { n = h.index; routine = h.item; is = h.is; many = h.above }

-- The check of the routines decides whether the program is low.
pub low_of : (q : given.Program) (rs : List given_routine.Routine) (b : Bool) → rs ≡ q.routines.items
    → ((templates : List Text) → (IsTrue b
    → AllByRecursion (λ (r : Routine ℕ). body_height r.body ≤ max_entries) (map (routine_view templates) rs))
    × (AllByRecursion (λ (r : Routine ℕ). body_height r.body ≤ max_entries) (map (routine_view templates) rs)
    → IsTrue b))
    → b ≡ true → Low (program_of q)
low_of q rs b same counted e = search (arith, rules)

pub high_of : (q : given.Program) (rs : List given_routine.Routine) (b : Bool) → rs ≡ q.routines.items
    → ((templates : List Text) → (IsTrue b
    → AllByRecursion (λ (r : Routine ℕ). body_height r.body ≤ max_entries) (map (routine_view templates) rs))
    × (AllByRecursion (λ (r : Routine ℕ). body_height r.body ≤ max_entries) (map (routine_view templates) rs)
    → IsTrue b))
    → b ≡ false → ¬ (Low (program_of q))
high_of q rs b same counted e = search (arith, rules)

-- If a chain is refused, the claim of the refusal holds of the entry.
pub chain_refused : (given : SourceTexts) (entry : Text) (options : Options) (e : ChainError)
    → inherit.Breaks e given entry options → ((c : Seen) → IsChain given entry options c → e ≡ chain_error.NoMemory)
    → Breaks given entry options (of_chain e)
chain_refused given entry options chain_error.NoMemory b none = tt
chain_refused given entry options e b none = (λ q. cc, b, λ c is. let no = none c is in absurd cc)

-- If a rule of names and calls is broken, the claim of the refusal holds of the entry.
pub rule_refused : (given : SourceTexts) (entry : Text) (options : Options) (c : Seen)
    → IsOnlyChain given entry options c → (e : ScopeError) → rules.Breaks e (cenv_of c) c.order
    → Breaks given entry options (of_scope e)
rule_refused given entry options c is scope_error.NoMemory r = tt
rule_refused given entry options c is e r = record { chain = c; is = is; fault = λ q. cc; broken = r }

-- If the code of a program passes a limit, the claim of the refusal holds of the entry.
pub limit_breaks : (asked : Asked) (e : EmitError) → PassesOf asked e
    → Breaks asked.given asked.entry asked.options (of_emit e)
limit_breaks asked emit_error.NoMemory h = tt
limit_breaks asked (emit_error.Limit limit.Entries) h =
    record { chain = h.chain; is = h.is; lawful = h.lawful; fact = h.fact }
limit_breaks asked (emit_error.Limit l) h =
    let fact = too_long l (program (cenv_of h.chain) h.chain.order (a_chain asked.entry)) h.fact in
    record { chain = h.chain; is = h.is; lawful = h.lawful; fact = fact }

-- Chains with the same sources have the same compile environment.
pub only_chain : (given : SourceTexts) (entry : Text) (options : Options) (c : Seen) → IsChain given entry options c
    → AllByRecursion (IsOnly given options) c.templates
    → ((d : Seen) → IsChain given entry options d → (n : Text) → sources_of c n ≡ sources_of d n)
    → IsOnlyChain given entry options c
only_chain given entry options c is each one = record {
  is = is;
  each = each;
  only = λ d id.
      let same : d.escaping ≡ c.escaping = id.escaping ∙ sym is.escaping in
      let strictly : d.strict ≡ c.strict = id.strict ∙ sym is.strict in
      λ i. record { filters = the_filters; sources = λ n. sym (one d id n) i; escaping = same i; strict = strictly i };
}

-- The texts of numbered names.
pub numbered_texts : (n : ℕ) (xs : List Text) → map (λ m. m.text) (numbered n xs) ≡ xs
numbered_texts n [] = refl
numbered_texts n (x ∷ xs) = ap (λ (ys : List Text). x ∷ ys) (numbered_texts (suc n) xs)

-- Each numbered name is one of the names.
all_numbered : (n : ℕ) (xs all : List Text) → ((x : Text) → IsTrue (among x xs) → IsTrue (among x all))
    → AllByRecursion (λ m. IsTrue (among m.text all)) (numbered n xs)
all_numbered n [] all f = tt
all_numbered n (x ∷ xs) all f = (
  f x (or_left _ _ (nat_list_eq_equiv.refl x)),
  all_numbered (suc n) xs all (λ y a. f y (or_right _ _ a)),
)

-- Each of the templates is one of all templates, by its name.
own_templates : (ts all : List Template)
    → ((n : Text) → IsTrue (among n (map (λ t. t.name) ts)) → IsTrue (among n (map (λ t. t.name) all)))
    → AllByRecursion (λ t. IsTrue (among t.name (map (λ t. t.name) all))) ts
own_templates [] all f = tt
own_templates (t ∷ ts) all f = (
  f t.name (or_left _ _ (nat_list_eq_equiv.refl t.name)),
  own_templates ts all (λ n a. f n (or_right _ _ a)),
)

own_names : (n : ℕ) (xs : List Text) → AllByRecursion (λ m. IsTrue (among m.text xs)) (numbered n xs)
own_names n xs = all_numbered n xs xs (λ x a. a)

module _ (code : CodeLaws) (low : LowLaws) (programs : ProgramLaws) (given : SourceTexts) (entry : Text)
    (options : Options) (c : Seen) (the : IsOnlyChain given entry options c)
    (kept : KeepsRules (cenv_of c) c.order) where
  abbrev is : IsChain given entry options c
  is = the.is

  abbrev cenv : CompileEnv
  cenv = cenv_of c

  abbrev order : List Namespace
  order = a_chain entry ∷ is.included

  abbrev p : Program
  p = program cenv order (a_chain entry)

  -- The program is that of the chain.
  abbrev IsOf : Program → Type 0
  IsOf q = q ≡ program cenv c.order (namespace_at c.order 0)

  of_entry : (q : Program) → IsOf q → q ≡ program cenv c.order (a_chain entry)
  of_entry q same = same ∙ ap (λ (o : List Namespace). program cenv c.order (namespace_at o 0)) is.begins

  is_p : (q : Program) → IsOf q → q ≡ p
  is_p q same = of_entry q same ∙ ap (λ (o : List Namespace). program cenv o (a_chain entry)) is.begins

  -- ---- the program fits, and its code does what the chain means

  ordered : InOrder cenv.sources order
  ordered = subst (InOrder (sources_of c)) is.begins is.order

  reached : AllByRecursion (Reaches cenv.sources cenv.escaping (a_chain entry)) order
  reached = subst (AllByRecursion (Reaches (sources_of c) c.escaping (a_chain entry))) is.begins is.reached

  known : ChainsKnown cenv order
  known =
      chains_known c (all_weaker (IsRead given options) (λ t. body_unknown t.body ≡ None) c.templates
      (λ t r. r.tree.known) is.read.each) order

  fits : AreLow (routines cenv order) → ProgramFits p
  fits few =
      let takes = programs.takes cenv (a_chain entry) is.included ordered reached is.rules
      (subst (KeepsRules cenv) is.begins kept) known in
      low.fits (names cenv order (a_chain entry)) (count_globals cenv order order) (shared cenv order)
      (routines cenv order) (program_lawful cenv entry is.included ordered takes) few

  -- Each of these names is one of the chain, for this order.
  abbrev Names : List Name → List Namespace → Type 0
  Names ns o = AllByRecursion (λ n. IsTrue (among n.text (names cenv o (a_chain entry)))) ns

  -- The names of the templates of the chains, and the place of each tag.
  abbrev named : List Text
  named = names_of (sources_of c) order

  tags : AllByRecursion (OnTag (IsTag named)) (places_of p)
  tags =
      program_placed (IsTag named) IsLine first_line cenv order (a_chain entry)
      (namespaces_tagged given options c.templates is.read.each order)

  -- The name is that of a template of the chain.
  abbrev IsRequested : Text → Type 0
  IsRequested n = IsTrue (among n (map (λ t. t.name) c.templates))

  placed : AllByRecursion IsRequested (compiled p).templates
  placed =
      templates_have named (places_of p) tags IsRequested
      (names_have (sources_of c) IsRequested
      (chain_has (λ n b. IsRequested n) c.templates (own_templates c.templates c.templates (λ n a. a))) order)

  does_right : AreLow (routines cenv order) → IsCode (compiled p) → IsCompiled given entry options (compiled p)
  does_right few whole =
      let fit = fits few in
      let d = low.right p fit whole in
      let means = programs.means cenv entry is.included ordered in
      record {
        chain = c;
        is = the;
        lawful = kept;
        whole = whole;
        newest = refl;
        named = subst (Names (compiled p).names) (sym is.begins) (own_names 0 (names cenv order (a_chain entry)));
        placed = placed;
        typed = low.typed p fit;
        does = record {
          texts = λ x b t r. let m = d.texts x b t r in (m.0, sym (means x m.0) ∙ m.1);
          faults = λ x b f q r. let m = d.faults x b f q r in (m.0, sym (means x m.0) ∙ m.1);
          enough_text = λ x n t e. d.enough_text x n t (means x n ∙ e);
          enough_fault = λ x n f q e. d.enough_fault x n f q (means x n ∙ e);
        };
      }

  lows : (q : Program) → IsOf q → Low q → AreLow (routines cenv order)
  lows q same h = low.low (routines cenv order) (length (shared cenv order)) (subst Low (is_p q same) h)

  pub fits_of : (q : Program) → IsOf q → Low q → ProgramFits q
  fits_of q same h = subst ProgramFits (sym (is_p q same)) (fits (lows q same h))

  image_compiled : (q : Program) (k : Code) → IsOf q → Low q → k ≡ compiled q → IsCode k
      → IsCompiled given entry options k
  image_compiled q k same few held whole =
      let one : compiled p ≡ k = ap compiled (sym (is_p q same)) ∙ sym held in
      subst (IsCompiled given entry options) one (does_right (lows q same few) (subst IsCode (sym one) whole))

  pub compiled_of : {E : Type 0} (q : Program) → IsOf q → Low q → (r : Result Code E) → IfOk r (λ k. k ≡ compiled q)
      → IfOk r (λ k. IsCode k) → IfOk r (λ k. IsCompiled given entry options k)
  compiled_of q same few (Ok k) held whole = image_compiled q k same few held whole
  compiled_of q same few (Err e) held whole = tt

  -- ---- the tables of the program

  -- No name that a template reads or binds is empty.
  some : AllByRecursion (λ t. AllByRecursion (λ x. 0 < length x) (body_names t.body)) c.templates
  some =
      all_weaker (IsRead given options) (λ t. AllByRecursion (λ x. 0 < length x) (body_names t.body)) c.templates
      (λ t r. (tree_said options r.source t.body r.tree).1) is.read.each

  pub tables_of : (q : Program) → IsOf q → HasTables (compiled q)
  tables_of q same =
      subst (λ (r : Program). HasTables (compiled r)) (sym (is_p q same))
      (tables cenv entry is.included named tags
      (names_all (λ x. 0 < length x) cenv (own_all (λ x. 0 < length x) c.templates some) order (a_chain entry))
      (programs.ascends cenv order (a_chain entry)) (omega (arith, few_globals cenv order (a_chain entry))))

  -- The names of templates fit their fields.
  pub names_fit : (q : Program) → IsOf q → FitTexts (compiled q).templates
  names_fit q same =
      subst (λ (r : Program). FitTexts (compiled r).templates) (sym (is_p q same))
      (all_weaker (λ t. length t ≤ 255) (λ t. length t ≤ max_count) (compiled p).templates (λ t h. omega (arith, h))
      (short_templates named (places_of p) tags))

  -- If the tables and the code are short, the pool is not too long.
  pub few_of : (q : Program) → IsOf q → HasFewValues q
  few_of q same = subst HasFewValues (sym (is_p q same)) (few_values cenv order low (a_chain entry))

  -- ---- refusals hold

  has_program : (Fact : Program → Type 0) (q : Program) → IsOf q → Fact q → HasProgram given entry options Fact
  has_program Fact q same fact = record { chain = c; is = the; lawful = kept; fact = subst Fact (of_entry q same) fact }

  pub stack_refused : (q : Program) → IsOf q → ¬ (Low q) → HasProgram given entry options (Passes limit.Entries)
  stack_refused q same n = has_program (Passes limit.Entries) q same (needs_too_many q n)

  pub image_refused : (e : EmitError) (q : Program) → IsOf q → RefusesImage e q
      → PassesOf (record { given = given; entry = entry; options = options }) e
  image_refused emit_error.NoMemory q same h = tt
  image_refused (emit_error.Limit limit.Entries) q same h = absurd h
  image_refused (emit_error.Limit l) q same h = has_program (Passes l) q same h

  -- ---- small chains are within the limits

  module _ (weighs : chains_weight (sources_of c) c.order ≤ chains_len given (sources_of c) c.order)
      (small : IsSmall given entry options) where
    weight : chains_weight (sources_of c) order ≤ 2000
    weight = search (arith, rules)

    are_few : AreFew cenv order
    are_few = subst (AreFew cenv) is.begins (programs.few c is.order (small.names c is) kept)

    sized : IsSized cenv order p
    sized = programs.sized cenv (a_chain entry) is.included ordered are_few

    pub low_small : (q : Program) → IsOf q → Low q
    low_small q same = subst Low (sym (is_p q same)) (small_low code low cenv order p sized weight)

    -- The sources of each chain and library are within the limit.
    counted : AllByRecursion (λ h. templates_len given (templates (sources_of c) h) ≤ 2000) order
    counted =
        let bytes : chains_len given (sources_of c) order ≤ 2000 =
        subst (λ (o : List Namespace). chains_len given (sources_of c) o ≤ 2000) is.begins (small.bytes c is) in
        all_weaker (λ h. templates_len given (templates (sources_of c) h) ≤ chains_len given (sources_of c) order)
        (λ h. templates_len given (templates (sources_of c) h) ≤ 2000) order (λ h le. omega (arith, le, bytes))
        (all_count given (sources_of c) c.escaping entry is.included ordered reached)

    module _ (short : AllByRecursion (λ t. body_bytes t.body ≤ source_len (given t.name)) c.templates)
        (few : 7 * length c.order ≤ chains_weight (sources_of c) c.order + 7) where
      texts : IsShort 2000 p
      texts =
          subst (IsShort 2000) (ap (λ (o : List Namespace). program cenv o (a_chain entry)) is.begins)
          (programs.short c (a_chain entry) is.included 2000 is.begins
          (subst (λ (o : List Namespace).
          AllByRecursion (λ h. AllByRecursion (λ t. body_bytes t.body ≤ 2000) (templates (sources_of c) h)) o)
          (sym is.begins) (all_short given 2000 c.templates short order counted)))

      few_chains : 7 * length order ≤ chains_weight (sources_of c) order + 7
      few_chains = subst (λ (o : List Namespace). 7 * length o ≤ chains_weight (sources_of c) o + 7) is.begins few

      fitting : ProgramFits p
      fitting =
          fits
          (low.low (routines cenv order) (length (shared cenv order)) (small_low code low cenv order p sized weight))

      pub fits_small : (q : Program) → IsOf q → FitsImage (compiled q)
      fits_small q same =
          subst (λ (r : Program). FitsImage (compiled r)) (sym (is_p q same))
          (small_fits code low cenv order p sized weight texts few_chains named (few_names (sources_of c) order) tags
          fitting (moved_all (λ parameters kind locals. parameters ≤ 200) (ps p) (map unit_of p.routines)
          (parameters_few cenv (a_chain entry) is.included (length (shared cenv order)) are_few)))

  pub stack_not_small : (q : Program) → IsOf q → ¬ (Low q)
      → chains_weight (sources_of c) c.order ≤ chains_len given (sources_of c) c.order → ¬ (IsSmall given entry options)
  stack_not_small q same n weighs = λ small. n (low_small weighs small q same)

  pub image_not_small : (e : EmitError) (q : Program) → IsOf q → RefusesImage e q
      → chains_weight (sources_of c) c.order ≤ chains_len given (sources_of c) c.order
      → AllByRecursion (λ t. body_bytes t.body ≤ source_len (given t.name)) c.templates
      → 7 * length c.order ≤ chains_weight (sources_of c) c.order + 7 → NamesLimit (of_emit e)
      → ¬ (IsSmall given entry options)
  image_not_small (emit_error.Limit l) q same h weighs short few passed =
      λ small. too_long l q h (fits_small weighs small short few q same)
  image_not_small emit_error.NoMemory q same h weighs short few passed = absurd passed
