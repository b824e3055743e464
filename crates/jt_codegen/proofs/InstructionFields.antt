-- The fields of emitted instructions are those of the code, and emitted units have their places.
use Rattle.std.proofs.Common.{◌≡◌, ℕ, ◌<◌, ◌≤◌, true, false, List, [], ◌∷◌, ◌++◌, length, map, Option, None, Some, refl}
use Rattle.std.proofs.Common.{ap, ◌∙◌, arith, rules}
use Rattle.std.specs.Prelude.{option_map}
use Rattle.std.specs.List.{AllByRecursion}
use Rattle.jt_image.specs.declared.instruction.Instruction.{Instruction}
use Rattle.jt_image.specs.declared.instruction.Instruction.TheVariants as op
use Rattle.jt_image.specs.declared.wire.Instr.{Instr}
use Rattle.jt_image.specs.IsCode.{IsInstruction}
use Rattle.jt_image.specs.Spelling.{wire_of}
use Rattle.jt_image.specs.Reading.{instruction_of}
use Rattle.jt_image.specs.Parts.{each_of, section_of_unit}
use Rattle.jt_ast.specs.Expressions.{Text}
use Rattle.jt_ir.specs.Slots.{end}
use Rattle.jt_ir.specs.View.{body_view, routine_view}
use Rattle.jt_ir.specs.declared.program.Routine.{Routine}
use Rattle.jt_ir.specs.declared.program.Place.{Place}
use Rattle.jt_lower.specs.Asm.{Asm, one, both, flat, places}
use Rattle.jt_lower.specs.Lower.{body_asm, routine_places, unit_of}
use Rattle.jt_lower.specs.Emission.{places_view, Puts}
use Rattle.jt_lower.specs.declared.emitter.Emitter.{Emitter}
use Rattle.jt_codegen.specs.internal.Statements.{Emits}
use Rattle.jt_lower.proofs.JumpPatching.{puts_then}
use Rattle.jt_codegen.proofs.PassedLimits.{not_within}
use Rattle.jt_codegen.proofs.StatementEmission.{emits_alone}

read_wire : (i : Instruction) → instruction_of (wire_of i) ≡ Some i
unfolding instruction_of
read_wire i = search (arith, rules)

pub read_wires : (is : List Instruction) → each_of instruction_of (map wire_of is) ≡ Some is
read_wires [] = refl
read_wires (i ∷ is) = search (arith, rules, read_wire, read_wires is)

module _ (templates : List Text) (r : Routine) (c0 c1 c2 : Emitter) (empty : c0.code.items ≡ [])
    (whole : c0.overflowed ≡ false) (body : Emits templates 0 c0 (body_view templates r.body.items) c1)
    (last : Puts templates c1 (one None op.Return) c2) where
  abbrev statements : Asm
  statements = body_asm (body_view templates r.body.items end) 0

  abbrev all : Asm
  all = both statements (one None op.Return)

  puts : Puts templates c0 all c2
  puts = search (arith, rules, puts_then, emits_alone)

  pub unit_emitted : (parameters locals : ℕ) → parameters ≡ r.parameters → locals ≡ r.locals → c2.overflowed ≡ false
      → section_of_unit (record { parameters = parameters; kind = 0; locals = locals; code = c2.code })
      ≡ Some (unit_of (routine_view templates r))
  unit_emitted parameters locals p l fine =
      let is = flat statements 0 ++ op.Return ∷ [] in
      let items : c2.code.items ≡ map wire_of is =
      puts.emitted fine ∙ ap (λ (l : List Instr). l ++ map wire_of (flat all (length l))) empty in
      ap (option_map
      (λ (code : List Instruction). record { parameters = parameters; kind = 0; locals = locals; code = code }))
      (ap (each_of instruction_of) items ∙ read_wires is)
      ∙ ap (λ (n : ℕ). Some (record { parameters = n; kind = 0; locals = locals; code = is })) p
      ∙ ap (λ (n : ℕ). Some (record { parameters = r.parameters; kind = 0; locals = n; code = is })) l

  pub unit_placed : c0.places.items ≡ [] → c2.overflowed ≡ false
      → places_view templates c2.places.items ≡ routine_places (routine_view templates r)
  unit_placed nowhere fine =
      puts.tagged fine ∙ ap (λ (l : List (Option Place)). places_view templates l ++ places all) nowhere

  pub unit_within : (left : ℕ) → c0.limit ≡ left → length c2.code.items ≤ left
  unit_within left limited = omega (arith, c2.within, puts.limit, limited)

  pub unit_refused : (left : ℕ) → c0.limit ≡ left → c2.overflowed ≡ true
      → AllByRecursion IsInstruction (unit_of (routine_view templates r)).code
      → left < length (unit_of (routine_view templates r)).code
  unit_refused left limited over fields = search (arith, rules, not_within, puts)
