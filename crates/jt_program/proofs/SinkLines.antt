-- Bytes that a sink takes in parts: all of them, or a beginning.
use Rattle.std.proofs.Common.{◌≡◌, ◌∙◌, Bool, Bor, Global, List, Ok, Err, OnErr, OnOk, Option, Result, String, [], ◌+◌}
use Rattle.std.proofs.Common.{Some, None, ◌++◌, ◌<◌, ◌≤◌, ◌∷◌, add-one, ap, append_assoc, arith, codes, drop, false}
use Rattle.std.proofs.Common.{get_or, inl, inr, length, refl, sym, true, ℕ}
use Rattle.std.proofs.Math.Seq.{drop-cons}
use Rattle.std.proofs.lemmas.Bool.{true≢false}
use Rattle.std.proofs.lemmas.List.{append-nil, drop_all}
use Rattle.std.proofs.lemmas.List.Concat.{flat_map-append}
use Rattle.std.proofs.KnownBytes.{Appends-trans}
use Rattle.std.specs.Io.KnownBytes.{Appends}
use Rattle.jt_machine.specs.Sinks.{TookFront}
use Rattle.jt_turns.specs.Shown.{shown, shown_byte}
use Rattle.jt_host.specs.declared.CallError.TheVariants as call_error
use Rattle.jt_program.specs.declared.messages.Failure.{Failure}
use Rattle.jt_program.specs.declared.messages.Failure.TheVariants as failure
use Rattle.jt_program.specs.Ending.{code_of, status_of}
use Rattle.jt_program.specs.Reports.{Puts, ReportsFailure, Prints, TookUnlessFailed, memory_line, texts_of}

-- A beginning of the first part is a beginning of the whole.
front_more : (part rest : List ℕ) (old new : Option (List ℕ)) → TookFront part old new
    → TookFront (part ++ rest) old new
front_more part rest old new (left, t) = (
  left ++ rest,
  record {
    front = t.front;
    parts = ap (λ (l : List ℕ). l ++ rest) t.parts ∙ append_assoc t.front left rest;
    taken = t.taken;
  },
)

-- All of the first part with a beginning of the rest is a beginning of the whole.
front_behind : (part rest : List ℕ) (old mid new : Option (List ℕ)) → Appends old mid part → TookFront rest mid new
    → TookFront (part ++ rest) old new
front_behind part rest old mid new whole (left, t) = (
  left,
  record {
    front = part ++ t.front;
    parts = ap (λ (l : List ℕ). part ++ l) t.parts ∙ sym (append_assoc part t.front left);
    taken = Appends-trans old mid new part t.front whole t.taken;
  },
)

module _ {E : Type 0} where
  -- A call that put bytes satisfies `Puts`.
  pub put_so : (all : List ℕ) (old new : Option (List ℕ)) (f : Bool) (r : Result (Unit {0}) E)
      → OnOk r (Appends old new all) → OnOk r (f ≡ false)
      → OnErr r (TookFront all old new) → OnErr r (f ≡ true) → Puts all old new f r
  put_so all old new f (Ok u) whole works front fails = (works, whole)
  put_so all old new f (Err e) whole works front fails = (fails, front)

  -- Whatever the result of the call, the sink took the bytes unless it failed.
  pub reported : (all : List ℕ) (old new : Option (List ℕ)) (f : Bool) (r : Result (Unit {0}) E) → Puts all old new f r
      → TookUnlessFailed all old new f
  reported all old new f (Ok u) p = inl p
  reported all old new f (Err e) p = inr p

  -- If all of the first part was put, a call that puts the rest puts the whole.
  pub puts_behind : (part rest : List ℕ) (old mid new : Option (List ℕ)) (f : Bool) (r : Result (Unit {0}) E)
      → Appends old mid part → Puts rest mid new f r
      → Puts (part ++ rest) old new f r
  puts_behind part rest old mid new f (Ok u) whole p = (p.0, Appends-trans old mid new part rest whole p.1)
  puts_behind part rest old mid new f (Err e) whole p = (p.0, front_behind part rest old mid new whole p.1)

  -- If a call failed in the first part, it failed in the whole.
  pub puts_begun : (part rest : List ℕ) (old new : Option (List ℕ)) (f : Bool) (e : E) → Puts part old new f (Err e)
      → Puts (part ++ rest) old new f (Err e)
  puts_begun part rest old new f e p = (p.0, front_more part rest old new p.1)

-- ---- two texts, one after the other

-- What is known of a sink is what it was, with nothing more.
none_more : (known : Option (List ℕ)) → Appends known known []
none_more None = tt
none_more (Some bytes) = sym (append-nil bytes)

-- A sink that is left as it is has taken nothing more.
pub took_nothing : (known : Option (List ℕ)) (f : Bool) → TookUnlessFailed [] known known f
took_nothing known false = inl (refl, none_more known)
took_nothing known true = inr (refl, ([], record { front = []; parts = refl; taken = none_more known }))

-- A sink that works has taken all of the first text, so what it takes of the second one follows.
pub took_both : (all more : List ℕ) (old mid new : Option (List ℕ)) (f g : Bool) → f ≡ false
    → TookUnlessFailed all old mid f → TookUnlessFailed more mid new g
    → TookUnlessFailed (all ++ more) old new g
took_both all more old mid new f g works (inl a) (inl b) = inl (b.0, Appends-trans old mid new all more a.1 b.1)
took_both all more old mid new f g works (inl a) (inr b) = inr (b.0, front_behind all more old mid new a.1 b.1)
took_both all more old mid new f g works (inr a) b = absurd (true≢false (sym a.0 ∙ works))

-- A sink that has failed has taken a beginning of the first text, and so of both.
pub took_begun : (all more : List ℕ) (old new : Option (List ℕ)) (f : Bool) → f ≡ true → TookUnlessFailed all old new f
    → TookUnlessFailed (all ++ more) old new f
took_begun all more old new f fails (inl a) = absurd (true≢false (sym fails ∙ a.0))
took_begun all more old new f fails (inr a) = inr (a.0, front_more all more old new a.1)

-- ---- the parts of a line, in order

abbrev pub line_from : List (Bor (List ℕ)) → ℕ → List ℕ
line_from parts i = shown (texts_of (drop i parts)) ++ codes "\n"

texts_more : (s : Bor (List ℕ)) (ss : List (Bor (List ℕ))) → texts_of (s ∷ ss) ≡ s.now ++ texts_of ss
texts_more s [] = sym (append-nil s.now)
texts_more s (t ∷ ss) = refl

-- The rest of a line is its next part, as it is shown, and the rest after it.
pub one_part : (parts : List (Bor (List ℕ))) (i : ℕ) (d : Bor (List ℕ)) (part : List ℕ) → i < length parts
    → part ≡ (get_or parts i d).now
    → line_from parts i ≡ shown part ++ line_from parts (i + 1)
one_part parts i d part below is =
    let cut : drop i parts ≡ get_or parts i d ∷ drop (i + 1) parts = rw add-one (drop-cons parts i d below) in
    let first = (get_or parts i d).now in
    let rest = texts_of (drop (i + 1) parts) in
    let texts : shown (texts_of (drop i parts)) ≡ shown first ++ shown rest =
    ap (λ ps. shown (texts_of ps)) cut
    ∙ (ap shown (texts_more (get_or parts i d) (drop (i + 1) parts)) ∙ flat_map-append shown_byte first rest) in
    ap (λ (l : List ℕ). l ++ codes "\n") texts
    ∙ (append_assoc (shown first) (shown rest) (codes "\n")
    ∙ ap (λ (l : List ℕ). shown l ++ line_from parts (i + 1)) (sym is))

-- After the last part, only the line end is left.
pub no_part : (parts : List (Bor (List ℕ))) (i : ℕ) → length parts ≤ i → line_from parts i ≡ codes "\n"
no_part parts i far = ap (λ ps. shown (texts_of ps) ++ codes "\n") (drop_all i parts far)

-- ---- lack of memory

-- A failure with the status of lack of memory is reported by its line.
pub memory_reported : (e : Failure) (old new : Option (List ℕ)) (f : Bool) → code_of (status_of e) ≡ 6
    → ReportsFailure old new f e
    → TookUnlessFailed memory_line old new f
memory_reported (failure.Call call_error.NoMemory) old new f six says = says
memory_reported e old new f six says = absurd (omega (arith, six))

-- A command that succeeds does not have the status of lack of memory.
pub not_memory : (old new : Option (List ℕ)) (f : Bool) (text : String Global) (status : ℕ)
    → Prints old new f (Ok text) status → status ≡ 6 → ⊥
not_memory old new f text status (inl done) six = let zero = done.0 in omega (arith, zero, six)
not_memory old new f text status (inr failed) six = let five = failed.0 in omega (arith, five, six)

-- Nor does it have the status of the usage.
pub not_usage : (old new : Option (List ℕ)) (f : Bool) (text : String Global) (status : ℕ)
    → Prints old new f (Ok text) status → status ≡ 2 → ⊥
not_usage old new f text status (inl done) two = let zero = done.0 in omega (arith, zero, two)
not_usage old new f text status (inr failed) two = let five = failed.0 in omega (arith, five, two)
