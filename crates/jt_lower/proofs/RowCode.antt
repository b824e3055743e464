-- The code of a sequence is appended expression by expression.
use Rattle.std.proofs.Common.{◌≡◌, ℕ, suc, ◌+◌, ◌/◌, ◌<◌, ◌≤◌, zero, List, length, drop, get_or, Option, Some, None}
use Rattle.std.proofs.Common.{sym, ap, ◌∙◌, subst, arith, rules}
use Rattle.std.specs.Prelude.{min}
use Rattle.std.proofs.lemmas.List.{at_drop_all}
use Rattle.std.proofs.lemmas.Bool.Decides.{nat_tests}
use Rattle.jt_value.specs.Place.{Place}
use Rattle.jt_ast.specs.Expressions.{Text}
use Rattle.jt_ir.specs.Slots as slots
use Rattle.jt_ir.specs.Slots.{none}
use Rattle.jt_ir.specs.View.{entry_front, expr_view, row_view}
use Rattle.jt_image.specs.declared.instruction.Instruction.TheVariants as op
use Rattle.jt_lower.specs.Asm.{Asm, one, both}
use Rattle.jt_lower.specs.Lower.{half, expr_asm, row_asm}
use Rattle.jt_lower.specs.Emission.{StandsFor, Puts}
use Rattle.jt_lower.specs.declared.emitter.Emitter.{Emitter}
use Rattle.jt_lower.proofs.JumpPatching.{puts_nothing, puts_then}
use Rattle.jt_ir.proofs.ExpressionViews.{Entry, row_left}

pub halved : (n : ℕ) → half n ≡ n / 2
halved zero = omega arith
halved (suc zero) = omega arith
halved (suc (suc n)) = omega (arith, halved n)

pub stands_raised : (n m h : ℕ) → m ≡ min (n + 1) 18446744073709551615 → StandsFor n h → StandsFor m (suc h)
stands_raised n m h same s = search (arith, rules, nat_tests)

-- If the code of the rest is appended to the current code, the code of the whole sequence is
-- appended to the old code.
pub record Leaves (ts : List Text) (o : Option Place) (old : Emitter) (all : Asm) (now : Emitter) (left : List Entry)
    (top : ℕ) : Type 0 where
  pub height : ℕ
  pub stands : StandsFor top height
  pub puts : (final : Emitter) → Puts ts now (row_asm o (row_view left none) height) final → Puts ts old all final

pub row_ends : (ts : List Text) (o : Option Place) (es : List Entry) (i : ℕ) (old now : Emitter) (all : Asm) (top : ℕ)
    → length es ≤ i → Leaves ts o old all now (drop i es) top → Puts ts old all now
row_ends ts o es i old now all top le l =
    l.puts now (subst (λ r. Puts ts now (row_asm o r l.height) now) (sym (at_drop_all (λ es. row_view es none) es i le))
    (puts_nothing ts now))

-- If one more value is emitted, its code is appended.
pub row_item : (ts : List Text) (o : Option Place) (es : List Entry) (i : ℕ) (e : Entry) (old now new : Emitter)
    (all : Asm) (top raised : ℕ)
    → i < length es → e ≡ get_or es i e → e.0 ≡ None → raised ≡ min (top + 1) 18446744073709551615
    → ((h : ℕ) → StandsFor top h → Puts ts now (expr_asm o (expr_view e.1) h) new)
    → Leaves ts o old all now (drop i es) top → Leaves ts o old all new (drop (i + 1) es) raised
row_item ts o es i e old now new all top raised lt is none_kept same p l =
    search (arith, rules, row_left es i e lt is, stands_raised top raised l.height same l.stands, puts_then ts now new)

-- If one more expression is stored in a local, its code is appended.
pub row_aside : (ts : List Text) (o : Option Place) (es : List Entry) (i : ℕ) (e : Entry) (old now mid new : Emitter)
    (all : Asm) (top : ℕ) (n : ℕ)
    → i < length es → e ≡ get_or es i e → e.0 ≡ Some n
    → ((h : ℕ) → StandsFor top h → Puts ts now (expr_asm o (expr_view e.1) h) mid)
    → Puts ts mid (one o (op.Store n)) new → Leaves ts o old all now (drop i es) top
    → Leaves ts o old all new (drop (i + 1) es) top
row_aside ts o es i e old now mid new all top n lt is some_kept p s l =
    let rest = row_view (drop (i + 1) es) none in
    let x = expr_view e.1 in
    let left : row_view (drop i es) none ≡ slots.aside n x rest =
    row_left es i e lt is ∙ ap (λ k. entry_front k x rest) some_kept in
    record {
      height = l.height;
      stands = l.stands;
      puts = λ final q. l.puts final (subst (λ r. Puts ts now (row_asm o r l.height) final) (sym left)
          (puts_then ts now mid final (expr_asm o x l.height) (both (one o (op.Store n)) (row_asm o rest l.height))
          (p l.height l.stands) (puts_then ts mid new final (one o (op.Store n)) (row_asm o rest l.height) s q)));
    }
