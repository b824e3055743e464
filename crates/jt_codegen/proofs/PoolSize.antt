-- The number of values in a program's pool is at most one, plus one for each parameter of a macro,
-- plus one for each instruction.
use Rattle.std.proofs.Common.{◌≡◌, ℕ, ◌+◌, ◌≤◌, List, [], ◌∷◌, ◌++◌, length, map, Option, Some, None, refl, ap, arith}
use Rattle.std.proofs.Common.{length-append}
use Rattle.std.specs.Prelude.{flat_map}
use Rattle.std.proofs.lemmas.List.{length-map}
use Rattle.std.proofs.lemmas.List.Concat.{flat_map-cons}
use Rattle.jt_chains.specs.Chain.{Namespace, MacroBody, macros}
use Rattle.jt_rules.specs.CompileEnv.{CompileEnv}
use Rattle.jt_semantics.specs.Layout.{defaults_of, numbered_bodies, shared}
use Rattle.jt_semantics.specs.Programs.{program, body_routines, entry_routines, chain_routines, routines}
use Rattle.jt_semantics.specs.Resolve.{macro_routine}
use Rattle.jt_ir.specs.Slots as slots
use Rattle.jt_ir.specs.Slots.{SlotExpr, SRow, Targets, SlotStmt, SBody, Routine}
use Rattle.jt_ir.specs.Pool.{Constant, own, known, constant_values, expr_values, row_values, condition_values}
use Rattle.jt_ir.specs.Pool.{stmt_values, body_values, routines_values, placed_routines}
use Rattle.jt_ir.specs.Size.{expr_size, row_size, condition_size, stmt_size, body_size, routines_size}
use Rattle.jt_lower.specs.Compiles.{LowLaws}
use Rattle.jt_lower.specs.Lower.{unit_of}
use Rattle.jt_constants.proofs.MergeIsNoLarger.{units_len}
use Rattle.jt_codegen.specs.Units.{HasFewValues}
use Rattle.jt_codegen.proofs.MergedUnitsFit.{ps, all_parameters, parameters_bound}

-- ---- each value has an instruction

constant_few : (k : Constant) → length (constant_values k) ≤ 1
constant_few (own v) = omega arith
constant_few (known i) = omega arith

mutual
  expr_few : (e : SlotExpr Constant) → length (expr_values e) ≤ expr_size e
  expr_few (slots.pooled k) = constant_few k
  expr_few (slots.made k es) = omega (arith, row_few es)
  expr_few (slots.conjunction a b) =
      omega (arith, length-append (expr_values a) (expr_values b), expr_few a, expr_few b)
  expr_few (slots.disjunction a b) =
      omega (arith, length-append (expr_values a) (expr_values b), expr_few a, expr_few b)
  expr_few (slots.choice c a b) = grind (arith, length-append, expr_few c, expr_few a, expr_few b)
  expr_few (slots.invoke u escaping es) = omega (arith, row_few es)
  expr_few e = omega arith

  row_few : (es : SRow Constant) → length (row_values es) ≤ row_size es
  row_few slots.none = omega arith
  row_few (slots.item e es) = omega (arith, length-append (expr_values e) (row_values es), expr_few e, row_few es)
  row_few (slots.aside i e es) = omega (arith, length-append (expr_values e) (row_values es), expr_few e, row_few es)

condition_few : (xs : Targets) (c : Option (SlotExpr Constant)) → length (condition_values c) ≤ condition_size xs c
condition_few xs None = omega arith
condition_few xs (Some c) = omega (arith, expr_few c)

mutual
  stmt_few : (s : SlotStmt Constant) → length (stmt_values s) ≤ stmt_size s
  stmt_few (slots.put_pooled k) = constant_few k
  stmt_few (slots.print p escaping e) = omega (arith, expr_few e)
  stmt_few (slots.assign p xs e) = omega (arith, expr_few e)
  stmt_few (slots.if_else p c a b) = grind (arith, length-append, expr_few, body_few a, body_few b)
  stmt_few (slots.for_each p xs e c body other) =
      let inner = body_values body ++ body_values other in
      omega (
        arith,
        length-append (expr_values e) (condition_values c ++ inner),
        length-append (condition_values c) inner,
        length-append (body_values body) (body_values other),
        expr_few e,
        condition_few xs c,
        body_few body,
        body_few other,
      )
  stmt_few (slots.capture escaping s body) = omega (arith, body_few body)
  stmt_few (slots.run u es) = omega (arith, row_few es)

  body_few : (b : SBody Constant) → length (body_values b) ≤ body_size b
  body_few slots.end = omega arith
  body_few (slots.stmt s rest) =
      omega (arith, length-append (stmt_values s) (body_values rest), stmt_few s, body_few rest)

routines_few : (rs : List (Routine Constant)) → length (routines_values rs) ≤ routines_size rs
routines_few [] = omega arith
routines_few (r ∷ rs) =
    omega (arith, length-append (body_values r.body) (routines_values rs), body_few r.body, routines_few rs)

-- ---- each default value has a parameter

abbrev parameters_of : List (Routine Constant) → ℕ
parameters_of [] = 0
parameters_of (r ∷ rs) = r.parameters + parameters_of rs

parameters_append : (rs qs : List (Routine Constant)) → parameters_of (rs ++ qs) ≡ parameters_of rs + parameters_of qs
parameters_append [] qs = omega arith
parameters_append (r ∷ rs) qs = omega (arith, parameters_append rs qs)

units_parameters : (rs : List (Routine Constant)) (n : ℕ)
    → all_parameters (map unit_of (placed_routines rs n)) ≡ parameters_of rs
units_parameters [] n = refl
units_parameters (r ∷ rs) n = ap (λ (m : ℕ). r.parameters + m) (units_parameters rs (n + length (body_values r.body)))

module _ (cenv : CompileEnv) (order : List Namespace) where
  macros_few : (h : Namespace) (ms : List MacroBody)
      → length (defaults_of ms) ≤ parameters_of (map (macro_routine cenv order h) ms)
  macros_few h [] = omega arith
  macros_few h (m ∷ ms) = grind (arith, flat_map-cons, length-append, length-map, macros_few h ms)

  namespaces_few : (hs : List Namespace) → length (flat_map (λ (h : Namespace). defaults_of (macros cenv.sources h)) hs)
      ≤ parameters_of (flat_map (chain_routines cenv order) hs)
  namespaces_few [] = omega arith
  namespaces_few (h ∷ hs) =
      let ms = map (macro_routine cenv order h) (macros cenv.sources h) in
      let bs = body_routines cenv order h (numbered_bodies cenv h) in
      omega (
        arith,
        ap length (flat_map-cons (λ (k : Namespace). defaults_of (macros cenv.sources k)) h hs),
        length-append (defaults_of (macros cenv.sources h))
            (flat_map (λ (k : Namespace). defaults_of (macros cenv.sources k)) hs),
        ap parameters_of (flat_map-cons (chain_routines cenv order) h hs),
        parameters_append (chain_routines cenv order h) (flat_map (chain_routines cenv order) hs),
        parameters_append (entry_routines cenv order h) (ms ++ bs),
        parameters_append ms bs,
        macros_few h (macros cenv.sources h),
        namespaces_few hs,
      )

  -- A program within these limits has at most 65,535 units of 255 parameters, and 262,144
  -- instructions.
  pub few_values : (low : LowLaws) (entry : Namespace) → HasFewValues (program cenv order entry)
  few_values low entry tables len =
      let rs = routines cenv order in
      let front = shared cenv order in
      let p = program cenv order entry in
      omega (
        arith,
        length-append front (routines_values rs),
        namespaces_few order,
        units_parameters rs (length front),
        parameters_bound p.routines tables.parameters,
        tables.units,
        routines_few rs,
        low.same_size rs (length front),
        low.sized p,
        units_len (ps p) (map unit_of p.routines),
        len,
      )
