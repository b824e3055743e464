-- The images and contexts of pairs, and why a pair has none.
use Rattle.std.proofs.Common.{◌≡◌, ◌∙◌, ◌≤◌, ℕ, List, [], ◌∷◌, ◌++◌, length, Global, String, Ok, Err, inl, inr, ap}
use Rattle.std.proofs.Common.{arith, refl, subst, suc, sym}
use Rattle.std.proofs.lemmas.List.{length-map, map-append}
use Rattle.jt_budget.specs.declared.Budget.{Budget}
use Rattle.jt_machine.specs.View.{budget_view}
use Rattle.jt_sessions.specs.Turns.{World, max_sessions}
use Rattle.jt_sessions.specs.declared.HostError.{HostError}
use Rattle.jt_sessions.specs.declared.HostError.TheVariants as host_error
use Rattle.jt_args.specs.declared.Pair.{Pair}
use Rattle.jt_turns.specs.Openings.{Opening, all_under, under}
use Rattle.jt_turns.specs.Outcomes.{IsNotOpened as IsFull, TakesTurns as OutcomesOf}
use Rattle.jt_turns.specs.SessionStates.{Stands}
use Rattle.jt_turns.specs.declared.Start.{Start}
use Rattle.jt_host.specs.declared.CallError.TheVariants as call_error
use Rattle.jt_program.specs.declared.messages.Failure.{Failure}
use Rattle.jt_program.specs.declared.messages.Failure.TheVariants as failure
use Rattle.jt_program.specs.Commands.{AreOpen, AreStarts, IsNoStart, IsNotOpened, IsStart, StopsAt, TakesTurns}
use Rattle.jt_program.specs.Ending.{of_host}
use Rattle.jt_program.specs.Files.{Known}

-- A list of length 0 is empty.
pub nil_of : {A : Type 0} → (xs : List A) (n : ℕ) → length xs ≡ n → n ≡ 0 → xs ≡ []
nil_of [] n e z = refl
nil_of (x ∷ xs) n e z = absurd (omega (arith, e, z))

module _ (files : Known) where
  one_start_more : (ps : List Pair) (p : Pair) (ss : List Start) (s : Start) → AreStarts files ps ss → IsStart files p s
      → AreStarts files (ps ++ p ∷ []) (ss ++ s ∷ [])
  one_start_more [] p [] s h is = (is, tt)
  one_start_more [] p (t ∷ ts) s h is = absurd h
  one_start_more (q ∷ qs) p [] s h is = absurd h
  one_start_more (q ∷ qs) p (t ∷ ts) s h is = (h.0, one_start_more qs p ts s h.1 is)

  as_many : (ps : List Pair) (ss : List Start) → AreStarts files ps ss → length ss ≡ length ps
  as_many [] [] h = refl
  as_many [] (s ∷ ss) h = absurd h
  as_many (p ∷ ps) [] h = absurd h
  as_many (p ∷ ps) (s ∷ ss) h = ap suc (as_many ps ss h.1)

  -- One more pair is open.
  pub one_open_more : (b : Budget) (ps : List Pair) (p : Pair) (s : Start) (w v : World) → IsStart files p s
      → ((os : List Opening) → Stands os w → Stands (os ++ under (budget_view b) s ∷ []) v)
      → AreOpen files b ps w → AreOpen files b (ps ++ p ∷ []) v
  one_open_more b ps p s w v is more (ss, starts, stands) =
      let all = map-append (under (budget_view b)) ss (s ∷ []) in (
        ss ++ s ∷ [],
        one_start_more ps p ss s starts is,
        subst (λ (os : List Opening). Stands os v) (sym all) (more (all_under (budget_view b) ss) stands),
      )

  -- A pair that gives no session is not opened.
  pub no_start : (ps : List Pair) (p : Pair) (e : Failure) → IsNoStart files p e → IsNotOpened files ps p e
  no_start ps p (failure.Call call_error.NoMemory) h = tt
  no_start ps p (failure.Host e) (inl h) = absurd h
  no_start ps p (failure.Host e) (inr (bytes, held, inl h)) = absurd h
  no_start ps p (failure.Host e) (inr (bytes, held, inr (pairs, given, h))) = absurd h
  no_start ps p e h = h

  -- A pair is not opened if the host has no space for it, or no memory.
  pub no_place : (b : Budget) (ps : List Pair) (p : Pair) (s : Start) (w : World) (e : HostError) → IsStart files p s
      → ((os : List Opening) → Stands os w → IsFull os e) → AreOpen files b ps w
      → IsNotOpened files ps p (of_host e)
  no_place b ps p s w host_error.NoMemory is why standing = tt
  no_place b ps p s w host_error.Full is why (ss, starts, stands) =
      let many = sym (as_many ps ss starts) ∙ sym (length-map ss (under (budget_view b))) in
      (refl, many ∙ why (all_under (budget_view b) ss) stands, (s, is))
  no_place b ps p s w host_error.NoSession is why (ss, starts, stands) =
      absurd (why (all_under (budget_view b) ss) stands)
  no_place b ps p s w host_error.NoId is why (ss, starts, stands) = absurd (why (all_under (budget_view b) ss) stands)

  -- The first pair that is not opened ends the turns.
  pub stops : (b : Budget) (all before : List Pair) (p : Pair) (after : List Pair) (w : World) (e : Failure)
      → all ≡ before ++ p ∷ after → AreOpen files b before w
      → IsNotOpened files before p e → TakesTurns files all b (Err e)
  stops b all before p after w (failure.Call call_error.NoMemory) parts standing why = tt
  stops b all before p after w e parts (ss, starts, stands) why =
      let n = as_many before ss starts in
      let most = stands.2 in
      let many = length-map ss (under (budget_view b)) in
      let few : length before ≤ max_sessions = omega (arith, n, many, most) in
      let at : StopsAt files all e = record {
        before = before;
        pair = p;
        after = after;
        parts = parts;
        starts = ss;
        opened = starts;
        few = few;
        why = why;
      } in
      at

  -- The lines of the open sessions are the text of the turns.
  pub all_lines : (b : Budget) (ps : List Pair) (w : World) (text : String Global) → AreOpen files b ps w
      → ((os : List Opening) → Stands os w → OutcomesOf os (Ok text))
      → TakesTurns files ps b (Ok text)
  all_lines b ps w text (ss, starts, stands) lines =
      let n = as_many ps ss starts in
      let most = stands.2 in
      let many = length-map ss (under (budget_view b)) in
      (omega (arith, n, many, most), (ss, starts, lines (all_under (budget_view b) ss) stands))
