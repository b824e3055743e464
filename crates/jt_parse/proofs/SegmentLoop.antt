-- One iteration of the loop over segments.
use Rattle.std.proofs.Common.{◌≡◌, ℕ, ◌<◌, ◌≤◌, List, [], ◌∷◌, length, ◌-◌, get_or, take, drop, ap, ◌∙◌, sym, subst}
use Rattle.std.proofs.Common.{arith, Result, Ok, Err}
use Rattle.std.proofs.lemmas.List.{take_rest}
use Rattle.jt_scan.specs.View.{segment_view}
use Rattle.jt_scan.specs.declared.segment.Segment.{Segment}
use Rattle.jt_ast.specs.Statements.{Body}
use Rattle.jt_parse.specs.Kept.{Neighbour, nothing, side_ahead, side_behind, with_segment, pieces_from}
use Rattle.jt_parse.specs.View.{reads_of}
use Rattle.jt_parse.specs.internal.Reading.{Fault, syntax, OpenStmt, State, state, Runs, ended, start, Parsed, whole}
use Rattle.jt_parse.specs.internal.Reading.{left_open}
use Rattle.jt_parse.specs.internal.Gives.{Refuses}
use Rattle.jt_parse.specs.declared.error.ParseError.{ParseError}
use Rattle.jt_parse.proofs.SegmentSteps.{read_on, read_refused}

-- A run over the remaining segments is a run over all segments.
abbrev pub Leads : ℕ → State → Neighbour → List Segment → List Segment → Type 0
Leads n st left rest all =
    (o : Result State Fault) → Runs n st (pieces_from left (reads_of rest)) o
    → Runs n start (pieces_from nothing (reads_of all)) o

-- The segments after the first one.
abbrev pub behind_first : List Segment → List Segment
behind_first rest = take (length rest - 1) (drop 1 rest)

first_of : (rest : List Segment) (s : Segment) → 1 ≤ length rest → s ≡ get_or rest 0 s → rest ≡ s ∷ behind_first rest
first_of [] s h e = absurd (omega (arith, h))
first_of (x ∷ rest) s h e = ap (λ z. z ∷ rest) (sym e) ∙ ap (λ z. s ∷ z) (sym (take_rest (x ∷ rest) 1))

module _ (n : ℕ) (st : State) (left right : Neighbour) (all rest : List Segment) (s : Segment) (some : 1 ≤ length rest)
    (is : s ≡ get_or rest 0 s) (inv : Leads n st left rest all)
    (ahead : right ≡ side_ahead (reads_of (behind_first rest))) where
  from_first : Leads n st left (s ∷ behind_first rest) all
  from_first o r = inv o (subst (λ z. Runs n st (pieces_from left (reads_of z)) o) (sym (first_of rest s some is)) r)

  pub segment_read : (next : State) (behind : Neighbour) → behind ≡ side_behind (segment_view s)
      → Runs n st (with_segment s.options left right (segment_view s) []) (Ok next)
      → Leads n next behind (behind_first rest) all
  segment_read next behind b r =
      read_on n st next left right behind (s.options, segment_view s) (reads_of (behind_first rest)) (reads_of all)
      from_first ahead b r

  pub segment_refused : (x : ParseError) → Refuses (Runs n st (with_segment s.options left right (segment_view s) [])) x
      → Refuses (Parsed n (pieces_from nothing (reads_of all))) x
  segment_refused x q =
      read_refused n st left right (s.options, segment_view s) (reads_of (behind_first rest)) (reads_of all) x
      from_first ahead q

-- No segment remains.
module _ (n : ℕ) (b : Body) (open_stmts : List OpenStmt) (left : Neighbour) (all : List Segment) where
  all_read : (rest : List Segment) → length rest < 1 → Leads n (state b open_stmts) left rest all
      → Runs n start (pieces_from nothing (reads_of all)) (Ok (state b open_stmts))
  all_read [] h inv = inv (Ok (state b open_stmts)) ended
  all_read (s ∷ rest) h inv = absurd (omega (arith, h))

  pub closed_all : (rest : List Segment) → length rest < 1 → Leads n (state b open_stmts) left rest all
      → open_stmts ≡ [] → Parsed n (pieces_from nothing (reads_of all)) (Ok b)
  closed_all rest h inv e =
      whole (subst (λ z. Runs n start (pieces_from nothing (reads_of all)) (Ok (state b z))) e (all_read rest h inv))

  pub stays_open : (rest : List Segment) (f : OpenStmt) (fs : List OpenStmt) → length rest < 1
      → Leads n (state b open_stmts) left rest all → open_stmts ≡ f ∷ fs
      → Parsed n (pieces_from nothing (reads_of all)) (Err syntax)
  stays_open rest f fs h inv e =
      left_open
      (subst (λ z. Runs n start (pieces_from nothing (reads_of all)) (Ok (state b z))) e (all_read rest h inv))
