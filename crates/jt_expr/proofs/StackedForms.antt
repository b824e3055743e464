-- One move of the reader keeps the outcome of the outermost form.
use Rattle.std.proofs.Common.{◌≡◌, ℕ, zero, suc, ◌+◌, ◌-◌, ◌<◌, ◌≤◌, List, [], ◌∷◌, ◌++◌, length, nat_le, Bool, true}
use Rattle.std.proofs.Common.{false, if◌then◌else◌, Some, None, refl, ap, sym, ◌∙◌, Ok, Err, arith, length-append}
use Rattle.std.proofs.lemmas.Bool.Decides.{nat_tests}
use Rattle.std.specs.List.{slice_get}
use Rattle.std.proofs.lemmas.Option.{slice_get-get_or}
use Rattle.jt_ast.specs.Expressions.{Expr}
use Rattle.jt_expr.specs.declared.error.ExprError.{ExprError}
use Rattle.jt_expr.specs.declared.error.ExprError.TheVariants as e
use Rattle.jt_expr.specs.declared.pending.Pending.{Pending}
use Rattle.jt_expr.specs.Grammar.{Tokens, Level}
use Rattle.jt_expr.specs.internal.Reading.{Fault, syntax, deep, ParseResult, ◌>>=◌, read, read_at}
use Rattle.jt_expr.specs.internal.Gives.{Refuses}
use Rattle.jt_expr.specs.internal.Pending.{rank, looser, Form, Move, grown, complete, waits, nests, awaited, reached}
use Rattle.jt_expr.specs.internal.Pending.{deeper, depth, goal_of, form_view, stacked, joined, Leads}
use Rattle.jt_expr.specs.internal.Moves.{begin, grow, resume}
use Rattle.jt_expr.specs.internal.Unwinding.{rest_of, onward, climb, climbs, finish, carried, unwind, outcome_at}
use Rattle.jt_expr.proofs.Binding.{assoc}
use Rattle.jt_expr.proofs.MovesRead.{grow_reads, resume_reads}
use Rattle.jt_expr.proofs.MoveBounds.{grow_level, resume_level}
use Rattle.jt_expr.proofs.LevelClimbs.{rank_most, rank_same, looser_rank, finishing, begin_reads}
use Rattle.jt_expr.proofs.QuietTokens.{quiet}
use Rattle.jt_expr.proofs.ParserSound.{read_is_spelled}

-- ---- refusals

unwind_err : (entry : Level) (below : ℕ) (fs : List Form) (x : Fault) → unwind entry below fs (Err x) ≡ Err x
unfolding unwind
unwind_err entry below [] x = refl
unwind_err entry below (f ∷ fs) x = unwind_err entry (below + deeper f) fs x

-- The outcome after a move is that before it.
pub moved : (entry : Level) (below : ℕ) (fs : List Form) (x : ParseResult Expr) (o : ParseResult Move)
    → x ≡ unwind entry below fs (o >>= finish (read below) (suc below) (goal_of entry fs)) → (s : Move) (v : Tokens)
    → o ≡ Ok (s, v)
    → x ≡ outcome_at entry below fs s v
unfolding outcome_at
moved entry below fs x o is s v h =
    is ∙ ap (λ z. unwind entry below fs (z >>= finish (read below) (suc below) (goal_of entry fs))) h

-- A refusal of a move is a refusal of the outermost form.
pub refused_move : (entry : Level) (below : ℕ) (fs : List Form) (x : ParseResult Expr) (o : ParseResult Move)
    → x ≡ unwind entry below fs (o >>= finish (read below) (suc below) (goal_of entry fs)) → (err : ExprError)
    → Refuses o err → Refuses x err
refused_move entry below fs x o is e.Syntax h =
    is ∙ ap (λ z. unwind entry below fs (z >>= finish (read below) (suc below) (goal_of entry fs))) h
    ∙ unwind_err entry below fs syntax
refused_move entry below fs x o is e.TooDeep h =
    is ∙ ap (λ z. unwind entry below fs (z >>= finish (read below) (suc below) (goal_of entry fs))) h
    ∙ unwind_err entry below fs deep
refused_move entry below fs x o is e.NoMemory h = tt

-- ---- moves

pub begin_first : (entry : Level) (below : ℕ) (ts : Tokens)
    → read (suc below) entry ts
    ≡ unwind entry below [] (begin (read below) (suc below) entry ts >>= finish (read below) (suc below) entry)
unfolding read unwind
begin_first entry below ts = begin_reads (read below) below (read_is_spelled below) entry ts

pub grow_next : (entry : Level) (below : ℕ) (fs : List Form) (k : Level) (t : Expr) (ts : Tokens)
    → outcome_at entry below fs (grown k t) ts
    ≡ unwind entry below fs
    (grow (read below) (suc below) k t ts >>= finish (read below) (suc below) (goal_of entry fs))
unfolding outcome_at finish onward
grow_next entry below fs k t ts =
    ap (unwind entry below fs)
    (ap (λ o. o >>= climbs (read below) (suc below) (goal_of entry fs) k)
    (grow_reads (read below) below (read_is_spelled below) k t ts)
    ∙ finishing (read below) below (goal_of entry fs) k (grow (read below) (suc below) k t ts)
    (grow_level (read below) (suc below) k t ts))

pub wait_next : (entry : Level) (below : ℕ) (fs : List Form) (f : Form) (ts : Tokens) → deeper f ≡ 0
    → outcome_at entry below fs (waits f) ts ≡ unwind entry below (f ∷ fs)
    (begin (read below) (suc below) (awaited f) ts >>= finish (read below) (suc below) (awaited f))
unfolding outcome_at finish onward unwind
wait_next entry below fs f ts none =
    let same : below ≡ below + deeper f = omega arith in
    let goal : Level = goal_of entry fs in
    let x : ParseResult Expr =
    begin (read below) (suc below) (awaited f) ts >>= finish (read below) (suc below) (awaited f) in
    ap (unwind entry below fs)
    (assoc (read_at (read below) (suc below) (awaited f) ts) (rest_of (read below) (suc below) f)
    (climbs (read below) (suc below) goal (reached f))
    ∙ ap (λ o. o >>= carried below goal f) (begin_reads (read below) below (read_is_spelled below) (awaited f) ts))
    ∙ ap (λ c. unwind entry c fs (x >>= carried c goal f)) same

read_next : (b : ℕ) (k : Level) (ts : Tokens) → read (suc b) k ts ≡ read_at (read b) (suc b) k ts
unfolding read
read_next b k ts = refl

read_none : (k : Level) (ts : Tokens) → read zero k ts ≡ Err deep
unfolding read
read_none k ts = refl

pub nest_next : (entry : Level) (b : ℕ) (fs : List Form) (f : Form) (ts : Tokens) → deeper f ≡ 1
    → outcome_at entry (suc b) fs (nests f) ts
    ≡ unwind entry b (f ∷ fs) (begin (read b) (suc b) (awaited f) ts >>= finish (read b) (suc b) (awaited f))
unfolding outcome_at finish onward unwind
nest_next entry b fs f ts one =
    let same : suc b ≡ b + deeper f = omega arith in
    let goal : Level = goal_of entry fs in
    let x : ParseResult Expr = begin (read b) (suc b) (awaited f) ts >>= finish (read b) (suc b) (awaited f) in
    ap (unwind entry (suc b) fs)
    (assoc (read (suc b) (awaited f) ts) (rest_of (read (suc b)) (suc (suc b)) f)
    (climbs (read (suc b)) (suc (suc b)) goal (reached f))
    ∙ ap (λ o. o >>= carried (suc b) goal f)
    (read_next b (awaited f) ts ∙ begin_reads (read b) b (read_is_spelled b) (awaited f) ts))
    ∙ ap (λ c. unwind entry c fs (x >>= carried c goal f)) same

pub nest_deep : (entry : Level) (fs : List Form) (f : Form) (ts : Tokens)
    → outcome_at entry zero fs (nests f) ts ≡ Err deep
unfolding outcome_at finish onward
nest_deep entry fs f ts =
    ap (λ o. unwind entry zero fs
    ((o >>= rest_of (read zero) (suc zero) f) >>= climbs (read zero) (suc zero) (goal_of entry fs) (reached f)))
    (read_none (awaited f) ts)
    ∙ unwind_err entry zero fs deep

pub looser_next : (entry : Level) (below : ℕ) (fs : List Form) (k : Level) (t : Expr) (ts : Tokens)
    → rank k < rank (goal_of entry fs)
    → outcome_at entry below fs (complete k t) ts ≡ outcome_at entry below fs (grown (looser k) t) ts
unfolding outcome_at finish onward climb
looser_next entry below fs k t ts less = grind (arith, rank_most, looser_rank)

-- A token that continues no form of the level completes a tree of the level.
quiet_next : (entry : Level) (below : ℕ) (fs : List Form) (k : Level) (t : Expr) (ts : Tokens)
    → rank k < rank (joined ts)
    → outcome_at entry below fs (grown k t) ts ≡ outcome_at entry below fs (complete k t) ts
unfolding outcome_at
quiet_next entry below fs k t ts less =
    grow_next entry below fs k t ts
    ∙ ap (λ o. unwind entry below fs (o >>= finish (read below) (suc below) (goal_of entry fs)))
    (quiet (read below) (suc below) k t ts less)

-- The d levels after k are tighter than the one that the next token continues.
skips : (entry : Level) (below : ℕ) (fs : List Form) (t : Expr) (ts : Tokens) (d : ℕ) (k n : Level)
    → rank n ≡ suc d + rank k → rank n ≤ rank (goal_of entry fs) → (0 < d → rank n ≤ rank (joined ts))
    → outcome_at entry below fs (complete k t) ts ≡ outcome_at entry below fs (grown n t) ts
skips entry below fs t ts zero k n e le h = grind (arith, rank_most, looser_rank, looser_next, rank_same)
skips entry below fs t ts (suc d) k n e le h =
    let most : rank n ≤ 11 = rank_most n in
    let far : rank n ≤ rank (joined ts) = h (omega arith) in
    let up : rank (looser k) ≡ suc (rank k) = looser_rank k (omega arith) in
    looser_next entry below fs k t ts (omega arith)
    ∙ quiet_next entry below fs (looser k) t ts (omega arith)
    ∙ skips entry below fs t ts d (looser k) n (omega arith) le (λ g. far)

completed_tree : (entry : Level) (below : ℕ) (fs : List Form) (k : Level) (t : Expr) (ts : Tokens)
    → rank (goal_of entry fs) ≤ rank k
    → outcome_at entry below fs (complete k t) ts ≡ unwind entry below fs (Ok (t, ts))
unfolding outcome_at finish onward climb
completed_tree entry below fs k t ts le =
    let none : rank (goal_of entry fs) - rank k ≡ 0 = omega arith in
    ap (λ d. unwind entry below fs (climb (read below) (suc below) d k t ts)) none

pub done : (entry : Level) (below : ℕ) (k : Level) (t : Expr) (ts : Tokens) → rank entry ≤ rank k
    → outcome_at entry below [] (complete k t) ts ≡ Ok (t, ts)
unfolding unwind
done entry below k t ts le = completed_tree entry below [] k t ts le

pub pop_next : (entry : Level) (below : ℕ) (fs : List Form) (f : Form) (k : Level) (t : Expr) (ts : Tokens)
    → rank (awaited f) ≤ rank k
    → outcome_at entry below (f ∷ fs) (complete k t) ts
    ≡ unwind entry (below + deeper f) fs (resume (read (below + deeper f)) (suc (below + deeper f)) f t ts
    >>= finish (read (below + deeper f)) (suc (below + deeper f)) (goal_of entry fs))
unfolding unwind
pop_next entry below fs f k t ts le =
    let b : ℕ = below + deeper f in
    completed_tree entry below (f ∷ fs) k t ts le
    ∙ ap (unwind entry b fs)
    (ap (λ o. o >>= climbs (read b) (suc b) (goal_of entry fs) (reached f))
    (resume_reads (read b) b (read_is_spelled b) f t ts)
    ∙ finishing (read b) b (goal_of entry fs) (reached f) (resume (read b) (suc b) f t ts)
    (resume_level (read b) (suc b) f t ts))

-- ---- the stack

pub stacked_push : (gs : List Pending) (g : Pending) (fs : List Form)
    → stacked (gs ++ g ∷ []) fs ≡ form_view g ∷ stacked gs fs
stacked_push [] g fs = refl
stacked_push (h ∷ gs) g fs = stacked_push gs g (form_view h ∷ fs)

-- The innermost form is the last one.
pub goal_last : (entry : Level) (gs : List Pending) (g : Pending) (fs : List Form)
    → slice_get gs (length gs - 1) ≡ Some g → goal_of entry (stacked gs fs) ≡ awaited (form_view g)
goal_last entry [] g fs e = absurd (cc)
goal_last entry (h ∷ []) g fs e = let same : h ≡ g = cc in ap (λ x. awaited (form_view x)) same
goal_last entry (h ∷ i ∷ gs) g fs e =
    let at : suc (suc (length gs)) - 1 ≡ suc (length gs) = omega arith in
    let below : suc (length gs) - 1 ≡ length gs = omega arith in
    goal_last entry (i ∷ gs) g (form_view h ∷ fs)
    (ap (slice_get (i ∷ gs)) below ∙ ap (slice_get (h ∷ i ∷ gs)) (sym at) ∙ e)

-- ---- moves of the code's stack

-- The stack `new` has the form g after those of `old`.
pushed : (old new : List Pending) (g : Pending) → new ≡ old ++ g ∷ [] → stacked new [] ≡ form_view g ∷ stacked old []
pushed old new g e = ap (λ z. stacked z []) e ∙ stacked_push old g []

pub depth_pushed : (old new : List Pending) (g : Pending) → new ≡ old ++ g ∷ []
    → depth (stacked new []) ≡ deeper (form_view g) + depth (stacked old [])
depth_pushed old new g e = ap depth (pushed old new g e)

-- A push that may fail adds at most the form.
pub depth_grows : (b : Bool) (old new : List Pending) (g : Pending) → new ≡ (if b then old ++ g ∷ [] else old)
    → depth (stacked new []) ≤ deeper (form_view g) + depth (stacked old [])
depth_grows true old new g e = omega (arith, depth_pushed old new g e)
depth_grows false old new g e = omega (arith, ap (λ z. depth (stacked z [])) e)

pub length_pushed : (old new : List Pending) (g : Pending) → new ≡ old ++ g ∷ [] → length new ≡ length old + 1
length_pushed old new g e = omega (arith, ap length e, length-append old (g ∷ []))

-- The rest after a form begins.
abbrev begun_in : Level → ℕ → List Form → Tokens → ParseResult Expr
begun_in entry below fs ts =
    unwind entry below fs
    (begin (read below) (suc below) (goal_of entry fs) ts >>= finish (read below) (suc below) (goal_of entry fs))

pub wait_moves : (entry : Level) (below : ℕ) (old new : List Pending) (g : Pending) (ts : Tokens) → new ≡ old ++ g ∷ []
    → deeper (form_view g) ≡ 0
    → outcome_at entry below (stacked old []) (waits (form_view g)) ts ≡ begun_in entry below (stacked new []) ts
wait_moves entry below old new g ts e none =
    wait_next entry below (stacked old []) (form_view g) ts none
    ∙ ap (λ fs. begun_in entry below fs ts) (sym (pushed old new g e))

pub nest_moves : (entry : Level) (below b : ℕ) (old new : List Pending) (g : Pending) (ts : Tokens)
    → new ≡ old ++ g ∷ [] → deeper (form_view g) ≡ 1 → below ≡ suc b
    → outcome_at entry below (stacked old []) (nests (form_view g)) ts ≡ begun_in entry b (stacked new []) ts
nest_moves entry below b old new g ts e one is =
    ap (λ c. outcome_at entry c (stacked old []) (nests (form_view g)) ts) is
    ∙ nest_next entry b (stacked old []) (form_view g) ts one
    ∙ ap (λ fs. begun_in entry b fs ts) (sym (pushed old new g e))

pub nest_refused : (entry : Level) (below : ℕ) (old : List Pending) (f : Form) (ts : Tokens) → below ≡ 0
    → outcome_at entry below (stacked old []) (nests f) ts ≡ Err deep
nest_refused entry below old f ts is =
    ap (λ c. outcome_at entry c (stacked old []) (nests f) ts) is ∙ nest_deep entry (stacked old []) f ts

-- The test of the code for the end of a form, whose level is g.
module _ (entry : Level) (below : ℕ) (old : List Pending) (k g : Level) (t : Expr) (ts : Tokens)
    (same : g ≡ goal_of entry (stacked old [])) where
  pub skip_moves : (n : Level) → Leads k (joined ts) g n → nat_le (rank g) (rank k) ≡ false
      → outcome_at entry below (stacked old []) (complete k t) ts
      ≡ outcome_at entry below (stacked old []) (grown n t) ts
  skip_moves n leads test =
      let ranks : rank g ≡ rank (goal_of entry (stacked old [])) = ap rank same in
      skips entry below (stacked old []) t ts (rank n - suc (rank k)) k n (omega (arith, leads.past))
      (omega (arith, leads.within)) (λ h. leads.between (omega (arith, h, leads.past)))

  within : nat_le (rank g) (rank k) ≡ true → rank (goal_of entry (stacked old [])) ≤ rank k
  within test = grind (arith, nat_tests)

  pub done_moves : length old ≡ 0 → nat_le (rank g) (rank k) ≡ true
      → outcome_at entry below (stacked old []) (complete k t) ts ≡ Ok (t, ts)
  done_moves none test =
      let empty : old ≡ [] = no_items old none in
      let le : rank entry ≤ rank k = omega (arith, within test, ap (λ z. rank (goal_of entry (stacked z []))) empty) in
      ap (λ z. outcome_at entry below (stacked z []) (complete k t) ts) empty ∙ done entry below k t ts le
    where
      no_items : (gs : List Pending) → length gs ≡ 0 → gs ≡ []
      no_items [] e = refl
      no_items (h ∷ gs) e = absurd (omega arith)

  pub pop_moves : (b : ℕ) (new : List Pending) (f : Pending) → old ≡ new ++ f ∷ [] → b ≡ below + deeper (form_view f)
      → nat_le (rank g) (rank k) ≡ true
      → outcome_at entry below (stacked old []) (complete k t) ts
      ≡ unwind entry b (stacked new [])
      (resume (read b) (suc b) (form_view f) t ts >>= finish (read b) (suc b) (goal_of entry (stacked new [])))
  pop_moves b new f e is test = grind (arith, pushed, within, pop_next)

pub first_moves : (entry : Level) (limit below : ℕ) (items : List Pending) (ts : Tokens) → limit ≡ suc below
    → items ≡ [] → read limit entry ts ≡ begun_in entry below (stacked items []) ts
first_moves entry limit below items ts e none =
    ap (λ n. read n entry ts) e ∙ begin_first entry below ts
    ∙ ap (λ z. begun_in entry below (stacked z []) ts) (sym none)
