-- The pieces of segments, one segment at a time.
use Rattle.std.proofs.Common.{◌≡◌, ℕ, ◌<◌, length, arith, encode_utf8_all, IsUtf8, List, [], ◌∷◌, ◌++◌, refl, sym, ap}
use Rattle.std.proofs.Common.{subst, ◌∙◌, Result, Ok, Err}
use Rattle.jt_scan.specs.declared.options.Options.{Options}
use Rattle.jt_scan.specs.Cut as cut
use Rattle.jt_scan.specs.Cut.{Text, Token, Segment}
use Rattle.std.specs.Str.{chars}
use Rattle.std.proofs.lemmas.Str.{chars-nil}
use Rattle.jt_scan.proofs.TokenLoop.{not_empty}
use Rattle.jt_ast.specs.Statements.{data_of}
use Rattle.jt_parse.specs.Kept.{tag, Neighbour, nothing, side_ahead, side_behind, SourcePiece, Read, with_text}
use Rattle.jt_parse.specs.Kept.{with_segment, kept, block_side, pieces_from}
use Rattle.jt_parse.specs.internal.Reading.{Fault, syntax, deep, State, grown, Steps, Runs, ended, refused, went_on}
use Rattle.jt_parse.specs.internal.Reading.{start, Parsed, stopped}
use Rattle.jt_scan.specs.declared.segment.TagKind.{TagKind}
use Rattle.jt_scan.specs.declared.segment.Marks.{Marks}
use Rattle.jt_parse.specs.declared.parser.Parser.{Parser}
use Rattle.jt_parse.specs.internal.Gives.{Refuses, GivesState}
use Rattle.jt_parse.specs.declared.error.ParseError.{ParseError}
use Rattle.jt_parse.specs.declared.error.ParseError.TheVariants as e

-- The concatenation of two runs.
pub runs_on : {n : ℕ} {st next : State} {x y : List SourcePiece} {o p : Result State Fault} → Runs n st x p
    → p ≡ Ok next → Runs n next y o → Runs n st (x ++ y) o
runs_on {n} {st} {next} {x} {y} {o} ended e r = let same : st ≡ next = cc in subst (λ z. Runs n z y o) (sym same) r
runs_on (went_on s r) e q = went_on s (runs_on r e q)
runs_on (refused {f} s) e q = absurd (cc)

-- A refusal of the first pieces is a refusal of the whole.
pub refused_in : {n : ℕ} {st : State} {x : List SourcePiece} {p : Result State Fault} (f : Fault) (y : List SourcePiece)
    → Runs n st x p → p ≡ Err f → Runs n st (x ++ y) (Err f)
refused_in f y ended e = absurd (cc)
refused_in f y (went_on s r) e = went_on s (refused_in f y r e)
refused_in {n} {st} f y (refused {p} {f = g} s) e =
    let same : g ≡ f = errors e in refused (subst (λ z. Steps n st p (Err z)) same s)
  where
    errors : {a b : Fault} → ◌≡◌ {A = Result State Fault} (Err a) (Err b) → a ≡ b
    errors e = cc

text_split : (t : Text) (ps : List SourcePiece) → with_text t ps ≡ with_text t [] ++ ps
text_split [] ps = refl
text_split (c ∷ t) ps = refl

with_split : (o : Options) (left right : Neighbour) (s : Segment) (ps : List SourcePiece)
    → with_segment o left right s ps ≡ with_segment o left right s [] ++ ps
with_split o left right (cut.data_of d) ps = text_split (kept o left right d) ps
with_split o left right (cut.tag k ms n ts) ps = refl
with_split o left right (cut.comment ms x) ps = refl
with_split o left right (cut.raw ms d ends) ps =
    text_split (kept o (block_side ms.closing) (block_side ends.opening) d) ps

-- The pieces of the first segment, followed by those of the remaining ones.
first_pieces : (left right : Neighbour) (s : Read) (ss : List Read) → right ≡ side_ahead ss
    → pieces_from left (s ∷ ss) ≡ with_segment s.0 left right s.1 [] ++ pieces_from (side_behind s.1) ss
first_pieces left right s ss r =
    with_split s.0 left (side_ahead ss) s.1 (pieces_from (side_behind s.1) ss)
    ∙ ap (λ z. with_segment s.0 left z s.1 [] ++ pieces_from (side_behind s.1) ss) (sym r)

-- The next segment is read.
pub read_on : (n : ℕ) (st next : State) (left right behind : Neighbour) (s : Read) (ss all : List Read)
    → ((o : Result State Fault) → Runs n st (pieces_from left (s ∷ ss)) o → Runs n start (pieces_from nothing all) o)
    → right ≡ side_ahead ss → behind ≡ side_behind s.1
    → Runs n st (with_segment s.0 left right s.1 []) (Ok next) → (o : Result State Fault)
    → Runs n next (pieces_from behind ss) o → Runs n start (pieces_from nothing all) o
read_on n st next left right behind s ss all inv r b q o p =
    inv o (subst (λ z. Runs n st z o) (sym (first_pieces left right s ss r))
    (runs_on q refl (subst (λ z. Runs n next (pieces_from z ss) o) b p)))

-- A refusal of the next segment is a refusal of the whole.
pub read_refused : (n : ℕ) (st : State) (left right : Neighbour) (s : Read) (ss all : List Read) (x : ParseError)
    → ((o : Result State Fault) → Runs n st (pieces_from left (s ∷ ss)) o → Runs n start (pieces_from nothing all) o)
    → right ≡ side_ahead ss
    → Refuses (Runs n st (with_segment s.0 left right s.1 [])) x → Refuses (Parsed n (pieces_from nothing all)) x
read_refused n st left right s ss all x inv r q = by x q
  where
    stops : (f : Fault) → Runs n st (with_segment s.0 left right s.1 []) (Err f)
        → Parsed n (pieces_from nothing all) (Err f)
    stops f p =
        stopped (inv (Err f) (subst (λ z. Runs n st z (Err f)) (sym (first_pieces left right s ss r))
        (refused_in f (pieces_from (side_behind s.1) ss) p refl)))

    by : (x : ParseError) → Refuses (Runs n st (with_segment s.0 left right s.1 [])) x
        → Refuses (Parsed n (pieces_from nothing all)) x
    by (e.Syntax l) p = stops syntax p
    by (e.TooDeep l) p = stops deep p
    by (e.UnknownFilter l) p = p
    by (e.UnknownTest l) p = p
    by e.NoMemory p = tt

-- ---- texts

pub text_none : (n : ℕ) (st : State) (t : List ℕ) → length t ≡ 0 → Runs n st (with_text (chars t) []) (Ok st)
text_none n st [] h = subst (λ z. Runs n st (with_text z []) (Ok st)) (sym chars-nil) ended
text_none n st (c ∷ t) h = absurd (omega (arith, h))

pub text_some : (n : ℕ) (st next : State) (t : List ℕ) → IsUtf8 t → 0 < length t
    → next ≡ grown st (data_of (encode_utf8_all (chars t))) → Runs n st (with_text (chars t) []) (Ok next)
text_some n st next t u h e = by (chars t) (not_empty t u h) e
  where
    by : (x : Text) → 0 < length x → next ≡ grown st (data_of (encode_utf8_all x))
        → Runs n st (with_text x []) (Ok next)
    by [] k e = absurd (omega (arith, k))
    by (c ∷ x) k e = went_on (ap (λ z. Ok z) e) ended

-- ---- one piece

pub one_refused : (n : ℕ) (st : State) (p : SourcePiece) (x : ParseError) → Refuses (Steps n st p) x
    → Refuses (Runs n st (p ∷ [])) x
one_refused n st p (e.Syntax l) s = refused s
one_refused n st p (e.TooDeep l) s = refused s
one_refused n st p (e.UnknownFilter l) s = s
one_refused n st p (e.UnknownTest l) s = s
one_refused n st p e.NoMemory s = tt

-- A tag as a segment.
pub tag_runs : (n : ℕ) (st : State) (o : Options) (left right : Neighbour) (k : TagKind) (ms : Marks) (line : ℕ)
    (ts : List Token) (r : Result (Unit {0}) ParseError) (new : Parser)
    → GivesState (Steps n st (tag k line ts)) r new
    → GivesState (Runs n st (with_segment o left right (cut.tag k ms line ts) [])) r new
tag_runs n st o left right k ms line ts (Ok u) new g = went_on g ended
tag_runs n st o left right k ms line ts (Err x) new g = one_refused n st (tag k line ts) x g
