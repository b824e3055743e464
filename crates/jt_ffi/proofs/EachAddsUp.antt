-- The results of many contexts, one after another.
use Rattle.std.proofs.Common.{◌≡◌, ◌∙◌, ◌+◌, ◌-◌, ◌<◌, ◌≤◌, ℕ, suc, List, [], ◌∷◌, ◌++◌, Option, None, take, drop}
use Rattle.std.proofs.Common.{length, refl, sym, arith, inl, inr, get_or, append_assoc, min}
use Rattle.std.specs.Prelude.{slice_set}
use Rattle.std.proofs.lemmas.List.{append-nil, drop-drop, drop-set-lt, drop_more, get_or-take, length-drop, length-set}
use Rattle.std.proofs.lemmas.List.{length-take, take-append-drop}
use Rattle.std.proofs.lemmas.Grind.{drop_more_same}
use Rattle.std.proofs.Math.Seq.{take-add, take-suc-set}
use Rattle.std.proofs.Math.ListN.{drop_of_length-le}
use Rattle.jt_ffi.specs.Answers.{CallResult, Reports}
use Rattle.jt_ffi.specs.Batches.{AnswersEach, Each, Fits, IsLast, bytes_left}
use Rattle.jt_ffi.specs.Handles.{ReportsKept}
use Rattle.jt_ffi.specs.declared.local.Local.{Local}
use Rattle.jt_ffi.specs.declared.answer.Answer.{Answer}

-- ---- lists

take_set : (xs : List Answer) (i : ℕ) (a : Answer) → i < length xs
    → take (i + 1) (slice_set xs i a) ≡ take i xs ++ a ∷ []
take_set xs i a lt = let e : i + 1 ≡ suc i = omega arith in rw e (take-suc-set xs i a lt)

drop_set : (xs olds : List Answer) (i : ℕ) (a : Answer) → drop i xs ≡ drop i olds
    → drop (i + 1) (slice_set xs i a) ≡ drop (i + 1) olds
drop_set xs olds i a later = drop-set-lt (i + 1) xs i a (omega arith) ∙ drop_more_same xs olds i later

-- ---- results

module _ (Is : ℕ → List ℕ → CallResult → Type 0) where
  -- The first `at` results are reported, `written` bytes are full, and the others have to come.
  pub record SoFar (ns bytes : List ℕ) (olds : List Answer) (old : List ℕ) (at : ℕ) (rest : List ℕ) (xs : List Answer)
      (out : List ℕ) (written : ℕ) : Type 0 where
    pub within : written ≤ length out
    pub room : length out ≡ length old
    pub count : length xs ≡ length olds
    pub later : drop at xs ≡ drop at olds
    pub more : (ys : List Answer) (new : List ℕ) (held : Option Local)
        → Each Is (drop at ns) rest ys (drop written out) new held
        → Each Is ns bytes (take at xs ++ ys) old (take written out ++ new) held

  pub none_yet : (ns bytes : List ℕ) (olds : List Answer) (old : List ℕ) → SoFar ns bytes olds old 0 bytes olds old 0
  none_yet ns bytes olds old = record {
    within = omega arith;
    room = refl;
    count = refl;
    later = refl;
    more = λ ys new held e. e;
  }

  -- One more result fits.
  pub one_fits : (ns bytes : List ℕ) (olds : List Answer) (old : List ℕ) (at : ℕ) (rest : List ℕ) (xs : List Answer)
      (out : List ℕ) (written : ℕ) (n : ℕ) (r : CallResult) (a : Answer) (next : List ℕ)
      → SoFar ns bytes olds old at rest xs out written → at < length ns → at < length xs → n ≡ get_or ns at 0
      → Is n rest r → Reports r (drop written out) (drop written next) a → take written next ≡ take written out
      → length next ≡ length out → a.length ≤ length out - written
      → SoFar ns bytes olds old (at + 1) (bytes_left n rest) (slice_set xs at a) next (written + a.length)
  one_fits ns bytes olds old at rest xs out written n r a next s lt few is result reports before same fits = record {
    within = omega (arith, same, fits, s.within);
    room = same ∙ s.room;
    count = length-set xs at a ∙ s.count;
    later = drop_set xs olds at a s.later;
    more = λ ys new held e.
        let first : drop at ns ≡ n ∷ drop (at + 1) ns = rw is (drop_more ns at 0 lt) in
        let bytes_left : drop (written + a.length) next ≡ drop a.length (drop written next) =
        sym (drop-drop a.length written next) in
        let each : Each Is (drop at ns) rest (a ∷ ys) (drop written out) (take a.length (drop written next) ++ new)
        held =
        rw first (
          r,
          result,
          inl (record {
            answer = a;
            others = ys;
            first = refl;
            buffer = drop written next;
            reports = reports;
            fits = omega (arith, length-drop written out, fits);
            rest = new;
            bytes = refl;
            more = rw bytes_left at e;
          }),
        ) in
        let so_far = s.more (a ∷ ys) (take a.length (drop written next) ++ new) held each in
        let answers : take (at + 1) (slice_set xs at a) ++ ys ≡ take at xs ++ a ∷ ys =
        rw (take_set xs at a few) (append_assoc (take at xs) (a ∷ []) ys) in
        let whole : take (written + a.length) next ++ new
        ≡ take written out ++ (take a.length (drop written next) ++ new) =
        rw (take-add written a.length next, before)
        (append_assoc (take written out) (take a.length (drop written next)) new) in
        rw (answers, whole) so_far;
  }

  -- A result does not fit, and ends the call.
  pub one_is_last : (ns bytes : List ℕ) (olds : List Answer) (old : List ℕ) (at : ℕ) (rest : List ℕ) (xs : List Answer)
      (out : List ℕ) (written : ℕ) (n : ℕ) (r : CallResult) (tried a : Answer) (mid next : List ℕ)
      (held : Option Local)
      → SoFar ns bytes olds old at rest xs out written → at < length ns → at < length xs → n ≡ get_or ns at 0
      → Is n rest r → Reports r (drop written out) (drop written mid) tried
      → take written mid ≡ take written out → length mid ≡ length out
      → length mid - written < tried.length
      → ReportsKept r held (drop written mid) (drop written next) a → take written next ≡ take written mid
      → Each Is ns bytes (take (at + 1) (slice_set xs at a)) old next held
  one_is_last ns bytes olds old at rest xs out written n r tried a mid next held s lt few is result reports before same
      long kept after =
      let first : drop at ns ≡ n ∷ drop (at + 1) ns = rw is (drop_more ns at 0 lt) in
      let each : Each Is (drop at ns) rest (a ∷ []) (drop written out) (drop written next) held =
      rw first (
        r,
        result,
        inr (record {
          tried = tried;
          buffer = drop written mid;
          reports = reports;
          long = omega (arith, length-drop written out, long, same, s.within);
          answer = a;
          only = refl;
          kept = kept;
        }),
      ) in
      let whole : take written out ++ drop written next ≡ next =
      rw (sym (after ∙ before)) (take-append-drop written next) in
      rw (take_set xs at a few, sym whole) (s.more (a ∷ []) (drop written next) held each)

  -- The first results that have room for their answers.
  pub length_at : (ns : List ℕ) (m at : ℕ) → at < min (length ns) m
      → (at < length (take m ns)) × (get_or ns at 0 ≡ get_or (take m ns) at 0)
  length_at ns m at lt =
      (omega (arith, length-take m ns, lt), sym (get_or-take m ns at 0 (omega (arith, lt))))

  pub length_all : (ns : List ℕ) (m : ℕ) → length (take m ns) ≤ min (length ns) m
  length_all ns m = omega (arith, length-take m ns)

  -- All results fit.
  pub all_fit : (ns bytes : List ℕ) (olds : List Answer) (old : List ℕ) (at : ℕ) (rest : List ℕ) (xs : List Answer)
      (out : List ℕ) (written : ℕ)
      → SoFar ns bytes olds old at rest xs out written → length ns ≤ at → Each Is ns bytes (take at xs) old out None
  all_fit ns bytes olds old at rest xs out written s all =
      let none : drop at ns ≡ [] = drop_of_length-le ns all in
      let last : Each Is (drop at ns) rest [] (drop written out) (drop written out) None = rw none (refl, refl, refl) in
      let whole = s.more [] (drop written out) None last in
      rw (append-nil (take at xs), take-append-drop written out) at whole

  -- The answers of a call that ends with a result that does not fit.
  pub given_answers : (ns bytes : List ℕ) (olds xs : List Answer) (at : ℕ) (a : Answer) (old new : List ℕ)
      (held : Option Local) → at < length xs → drop at xs ≡ drop at olds
      → Each Is (take (length olds) ns) bytes (take (at + 1) (slice_set xs at a)) old new held
      → AnswersEach Is ns bytes olds (slice_set xs at a) old new held (at + 1)
  given_answers ns bytes olds xs at a old new held lt later each = record {
    given = take (at + 1) (slice_set xs at a);
    count = omega (arith, length-take (at + 1) (slice_set xs at a), length-set xs at a, lt);
    answers = rw (sym (drop_set xs olds at a later)) (sym (take-append-drop (at + 1) (slice_set xs at a)));
    each = each;
  }

  -- The answers of a call in which each result fits.
  pub all_answers : (ns bytes : List ℕ) (olds xs : List Answer) (at : ℕ) (old new : List ℕ)
      → at ≤ length xs → drop at xs ≡ drop at olds
      → Each Is (take (length olds) ns) bytes (take at xs) old new None
      → AnswersEach Is ns bytes olds xs old new None at
  all_answers ns bytes olds xs at old new le later each = record {
    given = take at xs;
    count = omega (arith, length-take at xs, le);
    answers = rw (sym later) (sym (take-append-drop at xs));
    each = each;
  }
