-- Jumps that are patched when their target is known are those of the structured code.
use Rattle.std.proofs.Common.{◌≡◌, ℕ, ◌+◌, ◌<◌, ◌^◌, false, List, [], ◌∷◌, ◌++◌, length, map, refl, sym, ap, ◌∙◌, subst}
use Rattle.std.proofs.Common.{arith, Option, None, append_assoc, append-nil, length-append, rules}
use Rattle.std.specs.Prelude.{slice_set}
use Rattle.std.specs.List.{AllByRecursion}
use Rattle.std.proofs.Math.Seq.{set-append_seam}
use Rattle.std.proofs.lemmas.List.{map-append, length-map}
use Rattle.jt_image.specs.declared.instruction.Instruction.{Instruction}
use Rattle.jt_image.specs.declared.instruction.Instruction.TheVariants as op
use Rattle.jt_image.specs.declared.wire.Instr.{Instr}
use Rattle.jt_image.specs.Spelling.{wire_of}
use Rattle.jt_image.specs.IsCode.{IsInstruction}
use Rattle.jt_value.specs.Place.{Place}
use Rattle.jt_ast.specs.Expressions.{Text}
use Rattle.jt_lower.specs.Asm.{Asm, nil, one, both, choose, when, each, invoke, flat, places}
use Rattle.jt_lower.specs.Emission.{places_view, Emitted, HasPlace, Puts, Reserves, Patches, Ends, EndsTurns}
use Rattle.jt_lower.specs.declared.emitter.Emitter.{Emitter}

abbrev W : List Instruction → List Instr
W is = map wire_of is

-- A single jump, which has no place.
abbrev alone : Instruction → Asm
alone i = one None i

len_wired : (is : List Instruction) → length (W is) ≡ length is
len_wired is = length-map is wire_of

-- ---- appended instructions

pub emitted_nothing : (c : List Instr) → Emitted c nil c
emitted_nothing c = sym (append-nil c)

pub emitted_len : (c d : List Instr) (a : Asm) → Emitted c a d → length d ≡ length c + length (flat a (length c))
emitted_len c d a e = omega (arith, ap length e, length-append c (W (flat a (length c))), len_wired (flat a (length c)))

pub emitted_then : (c0 c1 c2 : List Instr) (a b : Asm) → Emitted c0 a c1 → Emitted c1 b c2 → Emitted c0 (both a b) c2
emitted_then c0 c1 c2 a b e f = search (arith, rules, emitted_len, append_assoc, map-append)

-- A choice has its instructions if its second part is emitted last.
choose_opened : (c1 c2 c3 c4 c5 z : List Instr) (a x : Asm) (n m t : ℕ) → Emitted c1 (alone (op.JumpIfFalse 0)) c2
    → Emitted c2 a c3 → Emitted c3 (alone (op.Jump 0)) c4 → n ≡ length c1 → m ≡ length c3 → t ≡ length c4
    → c5 ≡ slice_set c4 n (wire_of (op.JumpIfFalse t)) → Emitted c5 x z
    → Emitted c1 (choose a x) (slice_set z m (wire_of (op.Jump (length z))))
choose_opened c1 c2 c3 c4 c5 z a x n m t e2 e3 e4 en em et e5 e =
    let p = length c1 in
    let ca = flat a (p + 1) in
    let q = p + 1 + length ca + 1 in
    let cx = flat x q in
    let x0 : Instr = wire_of (op.JumpIfFalse 0) in
    let y0 : Instr = wire_of (op.Jump 0) in
    let j : Instr = wire_of (op.JumpIfFalse q) in
    let k : Instr = wire_of (op.Jump (q + length cx)) in
    let l2 : length c2 ≡ p + 1 = emitted_len c1 c2 (alone (op.JumpIfFalse 0)) e2 in
    let f3 : c3 ≡ c2 ++ W ca = e3 ∙ ap (λ i. c2 ++ W (flat a i)) l2 in
    let l3 : length c3 ≡ p + 1 + length ca = omega (arith, l2, ap length f3, length-append c2 (W ca), len_wired ca) in
    let l4 : length c4 ≡ q = omega (arith, l3, emitted_len c3 c4 (alone (op.Jump 0)) e4) in
    let s4 : c4 ≡ c1 ++ x0 ∷ (W ca ++ y0 ∷ []) =
    e4 ∙ ap (λ l. l ++ y0 ∷ []) f3 ∙ ap (λ l. (l ++ W ca) ++ y0 ∷ []) e2
    ∙ ap (λ l. l ++ y0 ∷ []) (append_assoc c1 (x0 ∷ []) (W ca)) ∙ append_assoc c1 (x0 ∷ W ca) (y0 ∷ []) in
    let whole = c1 ++ x0 ∷ (W ca ++ y0 ∷ []) in
    let s5 : c5 ≡ c1 ++ j ∷ (W ca ++ y0 ∷ []) =
    e5 ∙ ap (λ l. slice_set l n (wire_of (op.JumpIfFalse t))) s4
    ∙ ap (λ i. slice_set whole i (wire_of (op.JumpIfFalse t))) en
    ∙ ap (λ v. slice_set whole p (wire_of (op.JumpIfFalse v))) (et ∙ l4)
    ∙ set-append_seam c1 x0 (W ca ++ y0 ∷ []) j in
    let l5 : length c5 ≡ q = omega
    (arith, ap length s5, length-append c1 (j ∷ (W ca ++ y0 ∷ [])), length-append (W ca) (y0 ∷ []), len_wired ca) in
    let fz : z ≡ c5 ++ W cx = e ∙ ap (λ i. c5 ++ W (flat x i)) l5 in
    let lz : length z ≡ q + length cx = omega (arith, ap length fz, length-append c5 (W cx), len_wired cx, l5) in
    let sz : z ≡ (c1 ++ j ∷ W ca) ++ y0 ∷ W cx =
    fz ∙ ap (λ l. l ++ W cx) s5 ∙ append_assoc c1 (j ∷ (W ca ++ y0 ∷ [])) (W cx)
    ∙ ap (λ l. c1 ++ j ∷ l) (append_assoc (W ca) (y0 ∷ []) (W cx)) ∙ sym (append_assoc c1 (j ∷ W ca) (y0 ∷ W cx)) in
    let lm : m ≡ length (c1 ++ j ∷ W ca) = omega (arith, em, l3, length-append c1 (j ∷ W ca), len_wired ca) in
    ap (λ v. slice_set z m (wire_of (op.Jump v))) lz
    ∙ ap (λ l. slice_set l m k) sz
    ∙ ap (λ i. slice_set ((c1 ++ j ∷ W ca) ++ y0 ∷ W cx) i k) lm
    ∙ set-append_seam (c1 ++ j ∷ W ca) y0 (W cx) k
    ∙ append_assoc c1 (j ∷ W ca) (k ∷ W cx)
    ∙ ap (λ l. c1 ++ j ∷ l) (sym (map-append wire_of ca (op.Jump (q + length cx) ∷ cx)))

-- ---- space for instructions

all_front : (is js : List Instruction) → AllByRecursion IsInstruction (is ++ js) → AllByRecursion IsInstruction is
all_front [] js h = tt
all_front (i ∷ is) js h = (h.0, all_front is js h.1)

all_back : (is js : List Instruction) → AllByRecursion IsInstruction (is ++ js) → AllByRecursion IsInstruction js
all_back [] js h = h
all_back (i ∷ is) js h = all_back is js h.1

place_first : (m n : ℕ) (a b : Asm) → HasPlace m n (both a b) → HasPlace m n a
place_first m n a b h = search (arith, rules, length-append, all_front)

place_second : (m n : ℕ) (a b : Asm) → HasPlace m n (both a b) → HasPlace m (n + length (flat a n)) b
place_second m n a b h = search (arith, rules, length-append, all_back)

place_taken : (m n : ℕ) (a b : Asm) → HasPlace m n (choose a b) → HasPlace m (n + 1) a
place_taken m n a b h = search (arith, rules, length-append, all_front)

place_other : (m n : ℕ) (a b : Asm) → HasPlace m n (choose a b) → HasPlace m (n + 1 + length (flat a (n + 1)) + 1) b
place_other m n a b h = search (arith, rules, length-append, all_back)

-- The code for a true value has its instructions if its test is patched last.
when_opened : (c1 c2 c3 new : List Instr) (a : Asm) (choice : ℕ) → choice ≡ length c1
    → Emitted c1 (alone (op.JumpIfFalse 0)) c2 → Emitted c2 a c3
    → new ≡ slice_set c3 choice (wire_of (op.JumpIfFalse (length c3))) → Emitted c1 (when a) new
when_opened c1 c2 c3 new a choice at jumps ea ends =
    search (arith, rules, emitted_len, length-append, len_wired, append_assoc, set-append_seam)

-- The turns of a loop have their instructions if their test is patched last.
turns_opened : (c1 c2 c3 c4 new : List Instr) (a : Asm) (top : ℕ) → top ≡ length c1
    → Emitted c1 (alone (op.LoopNext 0)) c2 → Emitted c2 a c3 → Emitted c3 (alone (op.Jump top)) c4
    → new ≡ slice_set c4 top (wire_of (op.LoopNext (length c4))) → Emitted c1 (each a) new
turns_opened c1 c2 c3 c4 new a top at jumps ea back ends =
    search (arith, rules, emitted_len, length-append, len_wired, append_assoc, set-append_seam, map-append)

-- ---- space for the parts of choices and loops

place_when : (m n : ℕ) (a : Asm) → HasPlace m n (when a) → HasPlace m (n + 1) a
place_when m n a h = record { len = omega (arith, h.len); fields = h.fields.1 }

place_turn : (m n : ℕ) (a : Asm) → HasPlace m n (each a) → HasPlace m (n + 1) a
place_turn m n a h = search (arith, rules, length-append, all_front)

-- ---- places

-- The places of a choice are those of its two parts, each after a jump without a place.
tags_parted : (q1 q2 q3 q4 q5 qa qb : List (Option Place)) → q2 ≡ q1 ++ None ∷ [] → q3 ≡ q2 ++ qa → q4 ≡ q3 ++ None ∷ []
    → q5 ≡ q4 ++ qb → q5 ≡ q1 ++ None ∷ (qa ++ None ∷ qb)
tags_parted q1 q2 q3 q4 q5 qa qb e2 e3 e4 e5 = search (arith, rules, append_assoc)

-- ---- appended instructions, as far as there is space

-- The code has its space by the limit and the length of the code.
place_at : (c : Emitter) (m n : ℕ) (a : Asm) → c.limit ≡ m → length c.code.items ≡ n → HasPlace m n a
    → HasPlace c.limit (length c.code.items) a
place_at c m n a el en h = search (arith, rules)

module _ (templates : List Text) where
  abbrev tags : Emitter → List (Option Place)
  tags c = places_view templates c.places.items

  puts_len : (c d : Emitter) (a : Asm) → Puts templates c a d → d.overflowed ≡ false
      → length d.code.items ≡ length c.code.items + length (flat a (length c.code.items))
  puts_len c d a p h = emitted_len c.code.items d.code.items a (p.emitted h)

  pub puts_nothing : (c : Emitter) → Puts templates c nil c
  puts_nothing c = search (arith, rules, emitted_nothing, append-nil)

  pub puts_then : (c0 c1 c2 : Emitter) (a b : Asm) → Puts templates c0 a c1 → Puts templates c1 b c2
      → Puts templates c0 (both a b) c2
  puts_then c0 c1 c2 a b p q =
      search (
        arith,
        rules,
        emitted_then c0.code.items c1.code.items c2.code.items a b,
        append_assoc,
        place_first c0.limit,
        place_at c1 c0.limit,
        puts_len c0 c1 a p,
        place_second c0.limit,
      )

  -- Equal structured code has equal instructions.
  pub puts_as : (c d : Emitter) (a b : Asm) → a ≡ b → Puts templates c b d → Puts templates c a d
  puts_as c d a b same p = subst (λ x. Puts templates c x d) (sym same) p

  -- Both parts of a choice are appended after its test, and its jumps are patched.
  pub puts_choice : (c1 c2 c3 c5 z new : Emitter) (a b : Asm) (choice last : ℕ)
      → Reserves c1 (op.JumpIfFalse 0) choice c2 → Puts templates c2 a c3 → Ends c3 choice last c5
      → Puts templates c5 b z → Patches z last (op.Jump (length z.code.items)) new → Puts templates c1 (choose a b) new
  puts_choice c1 c2 c3 c5 z new a b choice last tests pa ends pb closes =
      let m = c1.limit in
      let tp = tests.puts templates in
      let ep = ends.reserves.puts templates in
      let p = length c1.code.items in
      let ca = flat a (p + 1) in
      let q = p + 1 + length ca + 1 in
      let cb = flat b q in
      let m2 : c2.limit ≡ m = tp.limit in
      let m3 : c3.limit ≡ m = pa.limit ∙ m2 in
      let m5 : c5.limit ≡ m = ends.patches.limit ∙ ep.limit ∙ m3 in
      record {
        limit = closes.limit ∙ pb.limit ∙ m5;
        kept = λ h. tp.kept (pa.kept (ep.kept (ends.patches.kept (pb.kept (closes.kept h)))));
        emitted = λ h.
            let kz = closes.kept h in
            let k5 = pb.kept kz in
            let k4 = ends.patches.kept k5 in
            let k3 = ep.kept k4 in
            closes.code h ∙ choose_opened c1.code.items c2.code.items c3.code.items ends.jumped.code.items c5.code.items
            z.code.items a b choice last (length ends.jumped.code.items) (tp.emitted (pa.kept k3)) (pa.emitted k3)
            (ep.emitted k4) tests.at ends.reserves.at refl (ends.patches.code k5) (pb.emitted kz);
        tagged = λ h.
            let kz = closes.kept h in
            let k5 = pb.kept kz in
            let k4 = ends.patches.kept k5 in
            let k3 = ep.kept k4 in
            ap (places_view templates) closes.places
            ∙ tags_parted (tags c1) (tags c2) (tags c3) (tags c5) (tags z) (places a) (places b)
            (tp.tagged (pa.kept k3)) (pa.tagged k3) (ap (places_view templates) ends.patches.places ∙ ep.tagged k4)
            (pb.tagged kz);
        place = λ h k.
            let out = op.Jump (q + length cb) ∷ cb in
            let k2 = tp.place (record { len = omega (arith, h.len); fields = (omega arith, tt) }) k in
            let l2 : length c2.code.items ≡ p + 1 = puts_len c1 c2 (alone (op.JumpIfFalse 0)) tp k2 in
            let k3 = pa.place (place_at c2 m (p + 1) a m2 l2 (place_taken m p a b h)) k2 in
            let l3 : length c3.code.items ≡ p + 1 + length ca =
            puts_len c2 c3 a pa k3 ∙ ap (λ n. n + length (flat a n)) l2 in
            let jump : HasPlace m (p + 1 + length ca) (alone (op.Jump 0)) =
            record { len = omega (arith, h.len, length-append ca out); fields = (omega arith, tt) } in
            let k4 = ep.place (place_at c3 m (p + 1 + length ca) (alone (op.Jump 0)) m3 l3 jump) k3 in
            let l4 : length ends.jumped.code.items ≡ q =
            puts_len c3 ends.jumped (alone (op.Jump 0)) ep k4 ∙ ap (λ n. n + 1) l3 in
            let k5 = ends.patches.place (subst (λ n. n < 2 ^ 32) (sym l4) h.fields.0) k4 in
            let l5 : length c5.code.items ≡ q = ends.patches.len ∙ l4 in
            let kz = pb.place (place_at c5 m q b m5 l5 (place_other m p a b h)) k5 in
            let lz : length z.code.items ≡ q + length cb = puts_len c5 z b pb kz ∙ ap (λ n. n + length (flat b n)) l5 in
            closes.place (subst (λ n. n < 2 ^ 32) (sym lz) (all_back ca out h.fields.1).0) kz;
      }

  -- The code for a true value is appended after its test.
  pub puts_when : (c1 c2 c3 new : Emitter) (a : Asm) (choice : ℕ) → Reserves c1 (op.JumpIfFalse 0) choice c2
      → Puts templates c2 a c3 → Patches c3 choice (op.JumpIfFalse (length c3.code.items)) new
      → Puts templates c1 (when a) new
  puts_when c1 c2 c3 new a choice tests pa ends =
      let tp = tests.puts templates in
      let p = length c1.code.items in
      let ca = flat a (p + 1) in
      record {
        limit = ends.limit ∙ pa.limit ∙ tp.limit;
        kept = λ h. tp.kept (pa.kept (ends.kept h));
        emitted =
            λ h. let k3 = ends.kept h in
            when_opened c1.code.items c2.code.items c3.code.items new.code.items a choice tests.at
            (tp.emitted (pa.kept k3)) (pa.emitted k3) (ends.code h);
        tagged = λ h.
            let k3 = ends.kept h in
            ap (places_view templates) ends.places ∙ pa.tagged k3 ∙ ap (λ l. l ++ places a) (tp.tagged (pa.kept k3))
            ∙ append_assoc (tags c1) (None ∷ []) (places a);
        place = λ h k.
            let k2 = tp.place (record { len = omega (arith, h.len); fields = (omega arith, tt) }) k in
            let l2 : length c2.code.items ≡ p + 1 = puts_len c1 c2 (alone (op.JumpIfFalse 0)) tp k2 in
            let k3 = pa.place (place_at c2 c1.limit (p + 1) a tp.limit l2 (place_when c1.limit p a h)) k2 in
            let l3 : length c3.code.items ≡ p + 1 + length ca =
            puts_len c2 c3 a pa k3 ∙ ap (λ n. n + length (flat a n)) l2 in
            ends.place (subst (λ n. n < 2 ^ 32) (sym l3) h.fields.0) k3;
      }

  -- The body of a loop is appended after its test, and the jumps of the loop are patched.
  pub puts_turns : (c1 c2 c3 new : Emitter) (a : Asm) (top : ℕ) → Reserves c1 (op.LoopNext 0) top c2
      → Puts templates c2 a c3 → EndsTurns c3 top new → Puts templates c1 (each a) new
  puts_turns c1 c2 c3 new a top begins pa ends =
      let m = c1.limit in
      let bp = begins.puts templates in
      let gp = ends.goes templates in
      let p = length c1.code.items in
      let ca = flat a (p + 1) in
      let q = p + 1 + length ca + 1 in
      let m3 : c3.limit ≡ m = pa.limit ∙ bp.limit in
      record {
        limit = ends.patches.limit ∙ gp.limit ∙ m3;
        kept = λ h. bp.kept (pa.kept (gp.kept (ends.patches.kept h)));
        emitted = λ h.
            let k4 = ends.patches.kept h in
            let k3 = gp.kept k4 in
            turns_opened c1.code.items c2.code.items c3.code.items ends.back.code.items new.code.items a top begins.at
            (bp.emitted (pa.kept k3)) (pa.emitted k3) (gp.emitted k4) (ends.patches.code h);
        tagged = λ h.
            let k4 = ends.patches.kept h in
            let k3 = gp.kept k4 in
            let back = tags ends.back in
            ap (places_view templates) ends.patches.places
            ∙ tags_parted (tags c1) (tags c2) (tags c3) back back (places a) [] (bp.tagged (pa.kept k3)) (pa.tagged k3)
            (gp.tagged k4) (sym (append-nil back));
        place = λ h k.
            let back : p < 2 ^ 32 = (all_back ca (op.Jump p ∷ []) h.fields.1).0 in
            let k2 = bp.place (record { len = omega (arith, h.len); fields = (omega arith, tt) }) k in
            let l2 : length c2.code.items ≡ p + 1 = puts_len c1 c2 (alone (op.LoopNext 0)) bp k2 in
            let k3 = pa.place (place_at c2 m (p + 1) a bp.limit l2 (place_turn m p a h)) k2 in
            let l3 : length c3.code.items ≡ p + 1 + length ca =
            puts_len c2 c3 a pa k3 ∙ ap (λ n. n + length (flat a n)) l2 in
            let jump : HasPlace m (p + 1 + length ca) (alone (op.Jump top)) = record {
              len = omega (arith, h.len, length-append ca (op.Jump p ∷ []));
              fields = (omega (arith, back, begins.at), tt);
            } in
            let k4 = gp.place (place_at c3 m (p + 1 + length ca) (alone (op.Jump top)) m3 l3 jump) k3 in
            let l4 : length ends.back.code.items ≡ q =
            puts_len c3 ends.back (alone (op.Jump top)) gp k4 ∙ ap (λ n. n + 1) l3 in
            ends.patches.place (subst (λ n. n < 2 ^ 32) (sym l4) h.fields.0) k4;
      }

  -- A call is emitted as its instruction.
  pub puts_call : (c d : Emitter) (o : Option Place) (u : ℕ) → Puts templates c (one o (op.Call u)) d
      → Puts templates c (invoke o u) d
  puts_call c d o u p = search (arith, rules)

  pub puts_last : (c d : Emitter) (a : Asm) → Puts templates c a d → Puts templates c (both a nil) d
  puts_last c d a p = puts_then c d d a nil p (puts_nothing d)

  pub puts_first : (c d : Emitter) (a : Asm) → Puts templates c (both a nil) d → Puts templates c a d
  puts_first c d a p = search (arith, rules, append-nil)
