-- The scanner finds the segments of a source, which are unique, and its refusals are correct.
use Rattle.std.proofs.Common.{◌≡◌, ℕ, zero, suc, ◌+◌, ◌<◌, ◌||◌, ◌⊎◌, inl, inr, Bool, true, false, List, [], ◌∷◌, ◌++◌}
use Rattle.std.proofs.Common.{length, drop, refl, sym, ap, subst, ◌∙◌, arith, Option, Some, None, Result, Ok, Err}
use Rattle.std.proofs.Common.{append-nil, rules}
use Rattle.jt_scan.specs.declared.error.ScanError.{ScanError}
use Rattle.jt_scan.specs.declared.error.ScanError.TheVariants.{UnclosedTag, UnclosedRaw}
use Rattle.jt_scan.specs.declared.segment.TagKind.{TagKind}
use Rattle.jt_scan.specs.declared.segment.TagKind.TheVariants.{Variable, Block}
use Rattle.jt_scan.specs.Cut.{Text, Token, second, Segment, data_of, tag, comment, opens, begins, ends_comment}
use Rattle.jt_scan.specs.Cut.{NoneBegins, EndsData, IsSegment, some_data, a_tag, a_comment, a_raw, Cuts, no_more, more}
use Rattle.jt_scan.specs.Cut.{line_at, raw, marks, comment_marks, first_mark, behind_mark, is_raw, ends_raw, endraw_at}
use Rattle.jt_scan.specs.Cut.{is_found, Inside}
use Rattle.jt_scan.specs.declared.segment.Mark.{Mark}
use Rattle.jt_scan.specs.declared.segment.Marks.{Marks}
use Rattle.jt_scan.specs.Refused.{IsFaulty, in_tag, no_endraw, in_comment}
use Rattle.jt_scan.specs.internal.Scanning.{ParseResult, ◌>>=◌, Tokens, clear_run, inside, ended_raw, raw_at, tag_of}
use Rattle.jt_scan.specs.internal.Scanning.{tag_at, ended_comment, comment_at, data_at, segment_at, with_segment}
use Rattle.jt_scan.specs.internal.Scanning.{then_cut, cut}
use Rattle.jt_scan.proofs.ParseResultSteps.{by_test, ok_parts, bind_ok, begins_says, opener_says, Stops, clear_of}
use Rattle.jt_scan.proofs.ParseResultSteps.{clear_says}
use Rattle.jt_scan.proofs.InsideLaws.{inside_found, inside_says, inside_refuses}
use Rattle.jt_scan.proofs.Weight.{shrinks}

stops : (x : Text) → EndsData x → Stops opens x
stops [] h = h
stops (c ∷ cs) h = h

ends : (x : Text) → Stops opens x → EndsData x
ends [] h = h
ends (c ∷ cs) h = h

-- ---- the segments of the definition are found

comment_found : (n : ℕ) (x rest : Text) → NoneBegins ends_comment x (35 ∷ 125 ∷ rest)
    → comment_at n (x ++ (35 ∷ 125 ∷ rest)) ≡ Ok (comment (comment_marks x) x, rest)
comment_found n x rest h = rw (clear_of ends_comment x (35 ∷ 125 ∷ rest) h refl) refl

none : (a b c : Bool) → (a || b || c) ≡ false → (a ≡ false) × (b ≡ false) × (c ≡ false)
none a b c h = search (arith, rules)

opens_none : (x : Text) → opens x ≡ false
    → (begins 123 123 x ≡ false) × (begins 123 37 x ≡ false) × (begins 123 35 x ≡ false)
opens_none x h = none (begins 123 123 x) (begins 123 37 x) (begins 123 35 x) h

tag_found : {k : TagKind} {ts : List Token} {mark : Mark} (x : Text) {rest : Text}
    → Inside k 0 ts mark (behind_mark x) rest → (n : ℕ) → is_raw k ts ≡ false
    → tag_at k n x ≡ Ok (tag k (marks (first_mark x) mark) n ts, rest)
tag_found {k} {ts} {mark} x {rest} i n r = search (arith, rules, inside_found)

endraw_stops : (y : Text) (p : Marks × Text) → endraw_at y ≡ Some p → Stops ends_raw y
endraw_stops [] p e = tt
endraw_stops (c ∷ y) p e = rw e refl

raw_found : {ts : List Token} {mark : Mark} {ends : Marks} (x d y : Text) {rest : Text}
    → Inside Block 0 ts mark (behind_mark x) (d ++ y) → (n : ℕ) → is_raw Block ts ≡ true → NoneBegins ends_raw d y
    → endraw_at y ≡ Some (ends, rest)
    → tag_at Block n x ≡ Ok (raw (marks (first_mark x) mark) d ends, rest)
unfolding raw_at
raw_found {ts} {mark} {ends} x d y {rest} i n r h e = search (arith, rules, inside_found, clear_of, endraw_stops)

pub segment_found : {n : ℕ} {s : Segment} {x rest : Text} → IsSegment n s x rest → segment_at n x ≡ Ok (s, rest)
unfolding segment_at
segment_found (some_data {c} {d} {rest} h e) =
    let o = opens_none (c ∷ (d ++ rest)) h.0 in rw (o.0, o.1, o.2, clear_of opens (c ∷ d) rest h (stops rest e))
segment_found {n} (a_tag {k = Variable} {x} i r) = tag_found x i n r
segment_found {n} (a_tag {k = Block} {x} i r) = tag_found x i n r
segment_found {n} (a_comment {x} {rest} h) = comment_found n x rest h
segment_found {n} (a_raw {x} {d} y i r h e) = raw_found x d y i n r h e

pub cut_more : (source x rest : Text) (m : ℕ) (s : Segment) (ss : List Segment) → 0 < length x
    → segment_at (line_at source x) x ≡ Ok (s, rest) → cut source m rest ≡ Ok ss → cut source (suc m) x ≡ Ok (s ∷ ss)
unfolding cut
cut_more source [] rest m s ss le e f = absurd (omega arith)
cut_more source (c ∷ cs) rest m s ss le e f = rw (e, f)

cut_end : (source x : Text) (m : ℕ) → x ≡ [] → cut source (suc m) x ≡ Ok []
unfolding cut
cut_end source [] m e = refl
cut_end source (c ∷ cs) m e = cc

pub cut_found : {source : Text} {ss : List Segment} {x : Text} → Cuts source (λ y. y ≡ []) ss x → (m : ℕ) → length x < m
    → cut source m x ≡ Ok ss
cut_found (no_more e) zero le = absurd (omega arith)
cut_found (more p c) zero le = absurd (omega arith)
cut_found {source} {ss} {x} (no_more e) (suc m) le = cut_end source x m e
cut_found {source} {ss} {x} (more {s} {ss = us} {rest} p c) (suc m) le =
    search (arith, rules, cut_more, shrinks, segment_found, cut_found c m)

-- ---- no other segments are found

raw_says : (n : ℕ) (ms : Marks) (s : Segment) (x rest : Text) → raw_at n ms x ≡ Ok (s, rest)
    → (d : Text) × (y : Text) × (ends : Marks) × (x ≡ d ++ y) × NoneBegins ends_raw d y
    × (endraw_at y ≡ Some (ends, rest)) × (raw ms d ends ≡ s)
unfolding raw_at
raw_says n ms s x rest e =
    let c = clear_says ends_raw x in
    by (clear_run ends_raw x).0 (clear_run ends_raw x).1 c.0 c.1 (endraw_at (clear_run ends_raw x).1) refl e
  where
    by : (d y : Text) → x ≡ d ++ y → NoneBegins ends_raw d y → (o : Option (Marks × Text)) → endraw_at y ≡ o
        → ended_raw n ms d o ≡ Ok (s, rest)
        → (d : Text) × (y : Text) × (ends : Marks) × (x ≡ d ++ y) × NoneBegins ends_raw d y
        × (endraw_at y ≡ Some (ends, rest)) × (raw ms d ends ≡ s)
    by d y w h None is q = cc
    by d y w h (Some p) is q = let u = ok_parts q in (d, y, p.0, w, h, is ∙ ap (λ z. Some (p.0, z)) u.1, u.0)

raw_is_block : (k : TagKind) (ts : List Token) → is_raw k ts ≡ true → k ≡ Block
raw_is_block Variable ts h = cc
raw_is_block Block ts h = refl

tag_of_says : (k : TagKind) (n : ℕ) (mark : Mark) (ts : List Token) (s : Segment) (x u rest : Text)
    → Inside k 0 ts mark (behind_mark x) u → tag_of k n (marks (first_mark x) mark) ts u ≡ Ok (s, rest)
    → IsSegment n s (123 ∷ second k ∷ x) rest
tag_of_says k n mark ts s x u rest i e =
    by_test (is_raw k ts) _ _ _ e
    (λ h q.
    let r = raw_says n (marks (first_mark x) mark) s u rest q in
    let b : k ≡ Block = raw_is_block k ts h in
    subst (λ z. IsSegment n z (123 ∷ second k ∷ x) rest) r.6
    (subst (λ j. IsSegment n (raw (marks (first_mark x) mark) r.0 r.2) (123 ∷ second j ∷ x) rest) (sym b)
    (a_raw r.1
    (subst (λ z. Inside Block 0 ts mark (behind_mark x) z) r.3 (subst (λ j. Inside j 0 ts mark (behind_mark x) u) b i))
    (subst (λ j. is_raw j ts ≡ true) b h) r.4 r.5)))
    (λ h q.
    let p = ok_parts q in
    subst (λ z. IsSegment n z (123 ∷ second k ∷ x) rest) p.0
    (a_tag (subst (λ z. Inside k 0 ts mark (behind_mark x) z) p.1 i) h))

tag_says : (k : TagKind) (n : ℕ) (s : Segment) (x rest : Text) → tag_at k n x ≡ Ok (s, rest)
    → IsSegment n s (123 ∷ second k ∷ x) rest
tag_says k n s x rest e =
    let b = bind_ok (inside k n (length (behind_mark x) + 1) 0 (behind_mark x))
    (λ p z. tag_of k n (marks (first_mark x) p.1) p.0 z) s rest e in
    tag_of_says k n b.0.1 b.0.0 s x b.1 rest
    (inside_says k n (length (behind_mark x) + 1) 0 b.0.0 b.0.1 (behind_mark x) b.1 b.2) b.3

comment_behind : (n : ℕ) (s : Segment) (d y rest : Text) → NoneBegins ends_comment d y → Stops ends_comment y
    → ended_comment n d y ≡ Ok (s, rest) → IsSegment n s (123 ∷ 35 ∷ (d ++ y)) rest
comment_behind n s d [] rest h t e = cc
comment_behind n s d (c ∷ y) rest h t e =
    let p = ok_parts e in let b = begins_says 35 125 c y t in
    let is : c ∷ y ≡ 35 ∷ 125 ∷ rest = ap (λ k. k ∷ y) b.0 ∙ ap (λ z. 35 ∷ z) (b.1 ∙ ap (λ z. 125 ∷ z) p.1) in
    subst (λ u. IsSegment n u (123 ∷ 35 ∷ (d ++ (c ∷ y))) rest) p.0
    (subst (λ z. IsSegment n (comment (comment_marks d) d) (123 ∷ 35 ∷ (d ++ z)) rest) (sym is)
    (a_comment (subst (NoneBegins ends_comment d) is h)))

comment_says : (n : ℕ) (s : Segment) (x rest : Text) → comment_at n x ≡ Ok (s, rest) → IsSegment n s (123 ∷ 35 ∷ x) rest
comment_says n s x rest e =
    let r = clear_says ends_comment x in
    subst (λ z. IsSegment n s (123 ∷ 35 ∷ z) rest) (sym r.0)
    (comment_behind n s (clear_run ends_comment x).0 (clear_run ends_comment x).1 rest r.1 r.2 e)

data_behind : (n : ℕ) (s : Segment) (x d y rest : Text) → (x ≡ d ++ y) → 0 < length x → opens x ≡ false
    → NoneBegins opens d y → Stops opens y → data_at (d, y) ≡ Ok (s, rest) → IsSegment n s x rest
data_behind n s x [] [] rest w le o h t e = absurd (omega (arith, ap length w))
data_behind n s x [] (a ∷ y) rest w le o h t e = let f = ap opens w in cc
data_behind n s x (a ∷ d) y rest w le o h t e =
    let p = ok_parts e in
    subst (λ u. IsSegment n u x rest) p.0
    (subst (λ z. IsSegment n (data_of (a ∷ d)) z rest) (sym w)
    (subst (λ z. IsSegment n (data_of (a ∷ d)) (a ∷ (d ++ y)) z) p.1 (some_data h (ends y t))))

none_opens : (x : Text) → begins 123 123 x ≡ false → begins 123 37 x ≡ false → begins 123 35 x ≡ false → opens x ≡ false
none_opens x a b c = rw (a, b, c) refl

pub segment_says : (n : ℕ) (s : Segment) (x rest : Text) → 0 < length x → segment_at n x ≡ Ok (s, rest)
    → IsSegment n s x rest
unfolding segment_at
segment_says n s x rest le e =
    by_test (begins 123 123 x) _ _ _ e
    (λ h q. subst (λ z. IsSegment n s z rest) (sym (opener_says 123 123 x h)) (tag_says Variable n s (drop 2 x) rest q))
    (λ h q. by_test (begins 123 37 x) _ _ _ q
    (λ h2 q2. subst (λ z. IsSegment n s z rest) (sym (opener_says 123 37 x h2)) (tag_says Block n s (drop 2 x) rest q2))
    (λ h2 q2. by_test (begins 123 35 x) _ _ _ q2
    (λ h3 q3. subst (λ z. IsSegment n s z rest) (sym (opener_says 123 35 x h3)) (comment_says n s (drop 2 x) rest q3))
    (λ h3 q3. let r = clear_says opens x in
    data_behind n s x (clear_run opens x).0 (clear_run opens x).1 rest r.0 le (none_opens x h h2 h3) r.1 r.2 q3)))

-- A list of segments that is found consists of a first one and the remaining ones.
then_says : (s : Segment) (o : Result (List Segment) ScanError) (ss : List Segment) → with_segment s o ≡ Ok ss
    → (us : List Segment) × (o ≡ Ok us) × (s ∷ us ≡ ss)
then_says s (Ok us) ss e = (us, refl, cc)
then_says s (Err x) ss e = cc

first_says : (o : ParseResult Segment) (f : Text → Result (List Segment) ScanError) (ss : List Segment)
    → then_cut o f ≡ Ok ss
    → (s : Segment) × (rest : Text) × (us : List Segment) × (o ≡ Ok (s, rest)) × (f rest ≡ Ok us) × (s ∷ us ≡ ss)
first_says (Err x) f ss e = cc
first_says (Ok p) f ss e = let t = then_says p.0 (f p.1) ss e in (p.0, p.1, t.0, refl, t.1, t.2)

pub cut_says : (source : Text) (m : ℕ) (ss : List Segment) (x : Text) → cut source m x ≡ Ok ss
    → Cuts source (λ y. y ≡ []) ss x
unfolding cut
cut_says source zero ss x e = cc
cut_says source (suc m) ss [] e =
    let same : [] ≡ ss = cc in subst (λ us. Cuts source (λ y. y ≡ []) us []) same (no_more refl)
cut_says source (suc m) ss (c ∷ cs) e =
    let t = first_says (segment_at (line_at source (c ∷ cs)) (c ∷ cs)) (cut source m) ss e in
    subst (λ us. Cuts source (λ y. y ≡ []) us (c ∷ cs)) t.5
    (more (segment_says (line_at source (c ∷ cs)) t.0 (c ∷ cs) t.1 (omega arith) t.3) (cut_says source m t.2 t.1 t.4))

-- ---- refusals

err_same : {A : Type 0} {d e : ScanError} → ◌≡◌ {A = ParseResult A} (Err d) (Err e) → d ≡ e
err_same h = cc

raw_refuses : (n : ℕ) (ms : Marks) (x : Text) (e : ScanError) → raw_at n ms x ≡ Err e
    → (e ≡ UnclosedRaw n) × NoneBegins ends_raw x []
unfolding raw_at
raw_refuses n ms x e h =
    let c = clear_says ends_raw x in
    by (clear_run ends_raw x).0 (clear_run ends_raw x).1 c.0 c.1 c.2 (endraw_at (clear_run ends_raw x).1) refl h
  where
    at_end : (y : Text) → Stops ends_raw y → endraw_at y ≡ None → y ≡ []
    at_end [] s is = refl
    at_end (c ∷ y) s is = let f : is_found (endraw_at (c ∷ y)) ≡ false = ap (λ o. is_found o) is in cc

    by : (d y : Text) → x ≡ d ++ y → NoneBegins ends_raw d y → Stops ends_raw y → (o : Option (Marks × Text))
        → endraw_at y ≡ o → ended_raw n ms d o ≡ Err e → (e ≡ UnclosedRaw n) × NoneBegins ends_raw x []
    by d y w h s (Some p) is q = cc
    by d y w h s None is q = search (arith, rules, at_end, append-nil, err_same)

tag_of_refuses : (k : TagKind) (n : ℕ) (mark : Mark) (ts : List Token) (x u : Text) (e : ScanError)
    → Inside k 0 ts mark (behind_mark x) u → tag_of k n (marks (first_mark x) mark) ts u ≡ Err e
    → IsFaulty n e (123 ∷ second k ∷ x)
tag_of_refuses k n mark ts x u e i h =
    by_test (is_raw k ts) _ _ _ h
    (λ r q.
    let b : k ≡ Block = raw_is_block k ts r in
    let f = raw_refuses n (marks (first_mark x) mark) u e q in
    subst (λ z. IsFaulty n z (123 ∷ second k ∷ x)) (sym f.0)
    (subst (λ j. IsFaulty n (UnclosedRaw n) (123 ∷ second j ∷ x)) (sym b)
    (no_endraw (subst (λ j. Inside j 0 ts mark (behind_mark x) u) b i) (subst (λ j. is_raw j ts ≡ true) b r) f.1)))
    (λ r q. cc)

tag_refuses : (k : TagKind) (n : ℕ) (x : Text) (e : ScanError) (o : ParseResult Tokens)
    → inside k n (length (behind_mark x) + 1) 0 (behind_mark x) ≡ o
    → (o >>= λ p z. tag_of k n (marks (first_mark x) p.1) p.0 z) ≡ Err e → IsFaulty n e (123 ∷ second k ∷ x)
tag_refuses k n x e (Ok p) w h = search (arith, rules, tag_of_refuses, inside_says)
tag_refuses k n x e (Err d) w h =
    in_tag (inside_refuses k n (length (behind_mark x) + 1) 0 (behind_mark x) e (omega arith)
    (w ∙ ap (λ u. Err u) (err_same h)))

comment_open : (n : ℕ) (e : ScanError) (d y : Text) → NoneBegins ends_comment d y → ended_comment n d y ≡ Err e
    → IsFaulty n e (123 ∷ 35 ∷ (d ++ y))
comment_open n e d [] h q =
    subst (λ u. IsFaulty n u (123 ∷ 35 ∷ (d ++ []))) (err_same q)
    (subst (λ z. IsFaulty n (UnclosedTag n) (123 ∷ 35 ∷ z)) (search (append-nil)) (in_comment h))
comment_open n e d (c ∷ y) h q = cc

comment_refuses : (n : ℕ) (x : Text) (e : ScanError) → comment_at n x ≡ Err e → IsFaulty n e (123 ∷ 35 ∷ x)
comment_refuses n x e q =
    let r = clear_says ends_comment x in
    subst (λ z. IsFaulty n e (123 ∷ 35 ∷ z)) (sym r.0)
    (comment_open n e (clear_run ends_comment x).0 (clear_run ends_comment x).1 r.1 q)

segment_refuses : (n : ℕ) (x : Text) (e : ScanError) → segment_at n x ≡ Err e → IsFaulty n e x
unfolding segment_at
segment_refuses n x e q =
    by_test (begins 123 123 x) _ _ _ q
    (λ h q1. subst (IsFaulty n e) (sym (opener_says 123 123 x h)) (tag_refuses Variable n (drop 2 x) e _ refl q1))
    (λ h q1. by_test (begins 123 37 x) _ _ _ q1
    (λ h2 q2. subst (IsFaulty n e) (sym (opener_says 123 37 x h2)) (tag_refuses Block n (drop 2 x) e _ refl q2))
    (λ h2 q2. by_test (begins 123 35 x) _ _ _ q2
    (λ h3 q3. subst (IsFaulty n e) (sym (opener_says 123 35 x h3)) (comment_refuses n (drop 2 x) e q3))
    (λ h3 q3. cc)))

refused_by : (o : ParseResult Segment) (f : Text → Result (List Segment) ScanError) (e : ScanError)
    → then_cut o f ≡ Err e → (o ≡ Err e) ⊎ ((s : Segment) × (rest : Text) × (o ≡ Ok (s, rest)) × (f rest ≡ Err e))
refused_by (Err d) f e h = inl (let same : d ≡ e = cc in ap (λ u. Err u) same)
refused_by (Ok p) f e h = inr (p.0, p.1, refl, others p.0 (f p.1) h)
  where
    others : (s : Segment) (o : Result (List Segment) ScanError) → with_segment s o ≡ Err e → o ≡ Err e
    others s (Ok us) q = cc
    others s (Err d) q = let same : d ≡ e = cc in ap (λ u. Err u) same

abbrev pub FaultyAt : Text → ScanError → Text → Type 0
FaultyAt source e x = IsFaulty (line_at source x) e x

pub cut_refuses : (source : Text) (m : ℕ) (e : ScanError) (x : Text) → length x < m → cut source m x ≡ Err e
    → (ss : List Segment) × Cuts source (FaultyAt source e) ss x
unfolding cut
cut_refuses source zero e x le h = absurd (omega arith)
cut_refuses source (suc m) e [] le h = cc
cut_refuses source (suc m) e (c ∷ cs) le h =
    elim (refused_by (segment_at (line_at source (c ∷ cs)) (c ∷ cs)) (cut source m) e h) [
      | inl q ↦ ([], no_more (segment_refuses (line_at source (c ∷ cs)) (c ∷ cs) e q))
      | inr q ↦
          let p = segment_says (line_at source (c ∷ cs)) q.0 (c ∷ cs) q.1 (omega arith) q.2 in
          let i = cut_refuses source m e q.1 (omega (arith, (shrinks p).0)) q.3 in
          (q.0 ∷ i.0, more p i.1)
    ]
