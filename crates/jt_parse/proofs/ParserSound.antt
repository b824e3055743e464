-- The parser is sound: the pieces spell the tree that is read.
use Rattle.std.proofs.Common.{◌≡◌, ℕ, ◌&&◌, true, false, List, [], ◌∷◌, ◌++◌, codes, refl, sym, ap, subst, ◌∙◌}
use Rattle.std.proofs.Common.{append_assoc, Result, Ok, Err, encode_utf8_all, bytes_eq}
use Rattle.std.proofs.lemmas.Slice.Eq.{bytes_eq-Decides}
use Rattle.std.proofs.lemmas.Bool.{and_parts}
use Rattle.jt_scan.specs.declared.segment.TagKind.TheVariants as kind
use Rattle.jt_scan.specs.Cut as cut
use Rattle.jt_scan.specs.Cut.{Token}
use Rattle.jt_ast.specs.Expressions.{Expr, Text}
use Rattle.jt_expr.specs.Grammar as expressions
use Rattle.jt_expr.specs.Grammar.{word, Spells}
use Rattle.jt_ast.specs.Statements.{Stmt, data_of, print, choose, Body, end, stmt, Branches, no_branches, branch}
use Rattle.jt_parse.specs.Kept as kept
use Rattle.jt_parse.specs.Kept.{SourcePiece}
use Rattle.jt_parse.specs.Tags.{LoopHead, BlockStart, a_text, values, filters, escaping, a_macro, a_block, Head}
use Rattle.jt_parse.specs.Tags.{a_statement, an_if, a_loop, an_opening, made, looped, Says, Ends, by_word, by_name}
use Rattle.jt_parse.specs.Tags.{end_word}
use Rattle.jt_parse.specs.Grammar.{block, Forms, nothing_more, some_data, a_print, one_tag, an_if_statement}
use Rattle.jt_parse.specs.Grammar.{a_for_statement, enclosed, GoesOn, no_elif, an_elif, Otherwise, no_else, an_else}
use Rattle.jt_parse.specs.internal.Reading as reading
use Rattle.jt_parse.specs.internal.Reading.{then_all, then_one, then_branches, then_branch, OpenStmt, in_branch}
use Rattle.jt_parse.specs.internal.Reading.{in_else, in_loop, in_loop_else, in_opening, Fault, syntax, State, state}
use Rattle.jt_parse.specs.internal.Reading.{headed, PrintTag, HeadTag, ElifTag, Role, is_elif, is_else, is_end, is_head}
use Rattle.jt_parse.specs.internal.Reading.{role, BlockTag, Steps, Runs, ended, refused, went_on, start, else_tag}
use Rattle.jt_parse.specs.internal.Reading.{names_end, none_left, ends_open_stmt, finished, end_tag, is_end_word}
use Rattle.jt_parse.proofs.BodyConcatenation.{all_end, all_all, branches_all}
use Rattle.jt_scan.proofs.ParseResultSteps.{by_test}

abbrev endif : ℕ → SourcePiece
endif last = block last (word (codes "endif") ∷ [])

abbrev endfor : ℕ → SourcePiece
endfor last = block last (word (codes "endfor") ∷ [])

-- `Closes a fs ps w`: after the statements a, with the open statements fs, the pieces ps complete
-- the whole w.
data Closes : Body → List OpenStmt → List SourcePiece → Body → Type 0 where
  outside : {a w : Body} {ps : List SourcePiece} → (b : Body) → Forms b ps → then_all a b ≡ w → Closes a [] ps w
  inside_if : {a before w : Body} {done : Branches} {line : ℕ} {c : Expr} {fs : List OpenStmt} {ps : List SourcePiece}
      → (inner other : Body) (bs q : Branches) (last : ℕ) (xs ys rest : List SourcePiece)
      → Forms inner xs → GoesOn bs other ys → then_branches done (branch line c (then_all a inner) bs) ≡ q
      → xs ++ (ys ++ (endif last ∷ rest)) ≡ ps
      → Closes (then_one before (choose q other)) fs rest w → Closes a (in_branch before done line c ∷ fs) ps w
  inside_else : {a before w : Body} {done : Branches} {fs : List OpenStmt} {ps : List SourcePiece}
      → (inner other : Body) (last : ℕ) (xs rest : List SourcePiece)
      → Forms inner xs → then_all a inner ≡ other → xs ++ (endif last ∷ rest) ≡ ps
      → Closes (then_one before (choose done other)) fs rest w → Closes a (in_else before done ∷ fs) ps w
  inside_loop : {a before w : Body} {line : ℕ} {l : LoopHead} {fs : List OpenStmt} {ps : List SourcePiece}
      → (inner other i : Body) (last : ℕ) (xs ys rest : List SourcePiece)
      → Forms inner xs → Otherwise other ys → then_all a inner ≡ i → xs ++ (ys ++ (endfor last ∷ rest)) ≡ ps
      → Closes (then_one before (looped line l i other)) fs rest w → Closes a (in_loop before line l ∷ fs) ps w
  inside_loop_else : {a before inside w : Body} {line : ℕ} {l : LoopHead} {fs : List OpenStmt} {ps : List SourcePiece}
      → (inner other : Body) (last : ℕ) (xs rest : List SourcePiece)
      → Forms inner xs → then_all a inner ≡ other → xs ++ (endfor last ∷ rest) ≡ ps
      → Closes (then_one before (looped line l inside other)) fs rest w
      → Closes a (in_loop_else before line l inside ∷ fs) ps w
  inside_opening : {a before w : Body} {line : ℕ} {o : BlockStart} {fs : List OpenStmt} {ps : List SourcePiece}
      → (inner i : Body) (last : ℕ) (us : List Token) (xs rest : List SourcePiece)
      → Forms inner xs → then_all a inner ≡ i → Ends o us → xs ++ (block last us ∷ rest) ≡ ps
      → Closes (then_one before (made line o i)) fs rest w → Closes a (in_opening before line o ∷ fs) ps w

-- Statements t that the pieces x spell are prepended.
grows : {a w : Body} {fs : List OpenStmt} {ps : List SourcePiece} (t : Body) (x : List SourcePiece)
    → ((b : Body) (tail : List SourcePiece) → Forms b tail → Forms (then_all t b) (x ++ tail))
    → Closes (then_all a t) fs ps w → Closes a fs (x ++ ps) w
grows {a} {w} {ps = ps} t x more (outside b f e) = outside (then_all t b) (more b ps f) (sym (all_all a t b) ∙ e)
grows {a} t x more (inside_if {done = done} {line = line} {c = c} inner other bs q last xs ys rest f g qe e r) =
    inside_if (then_all t inner) other bs q last (x ++ xs) ys rest (more inner xs f) g
    (ap (λ i. then_branches done (branch line c i bs)) (sym (all_all a t inner)) ∙ qe)
    (append_assoc x xs (ys ++ (endif last ∷ rest)) ∙ ap (λ z. x ++ z) e)
    r
grows {a} t x more (inside_else inner other last xs rest f i e r) =
    inside_else (then_all t inner) other last (x ++ xs) rest (more inner xs f) (sym (all_all a t inner) ∙ i)
    (append_assoc x xs (endif last ∷ rest) ∙ ap (λ z. x ++ z) e) r
grows {a} t x more (inside_loop inner other i last xs ys rest f g ie e r) =
    inside_loop (then_all t inner) other i last (x ++ xs) ys rest (more inner xs f) g (sym (all_all a t inner) ∙ ie)
    (append_assoc x xs (ys ++ (endfor last ∷ rest)) ∙ ap (λ z. x ++ z) e) r
grows {a} t x more (inside_loop_else inner other last xs rest f i e r) =
    inside_loop_else (then_all t inner) other last (x ++ xs) rest (more inner xs f) (sym (all_all a t inner) ∙ i)
    (append_assoc x xs (endfor last ∷ rest) ∙ ap (λ z. x ++ z) e) r
grows {a} t x more (inside_opening inner i last us xs rest f ie d e r) =
    inside_opening (then_all t inner) i last us (x ++ xs) rest (more inner xs f) (sym (all_all a t inner) ∙ ie) d
    (append_assoc x xs (block last us ∷ rest) ∙ ap (λ z. x ++ z) e) r

split : (xs ys tail : List SourcePiece) (c : SourcePiece) → (xs ++ (ys ++ (c ∷ []))) ++ tail ≡ xs ++ (ys ++ (c ∷ tail))
split xs ys tail c = append_assoc xs (ys ++ (c ∷ [])) tail ∙ ap (λ z. xs ++ z) (append_assoc ys (c ∷ []) tail)

opened_if : {a w : Body} {line : ℕ} {c : Expr} {ts : List Token} {fs : List OpenStmt} {ps : List SourcePiece}
    → Says line (an_if c) ts
    → Closes end (in_branch a no_branches line c ∷ fs) ps w → Closes a fs (block line ts ∷ ps) w
opened_if {a} {w} {line} {c} {ts} {fs} {ps} d (inside_if inner other bs q last xs ys rest f g qe se r) =
    let s : Stmt = choose (branch line c inner bs) other in
    let tag : SourcePiece = block line ts in
    let x : List SourcePiece = xs ++ (ys ++ (endif last ∷ [])) in
    subst (λ z. Closes a fs (tag ∷ z) w) (split xs ys rest (endif last) ∙ se)
    (grows (stmt s end) (tag ∷ x)
    (λ b tail k.
    subst (λ z. Forms (stmt s b) (tag ∷ z)) (sym (split xs ys tail (endif last))) (an_if_statement last d f g k))
    (subst (λ z. Closes (then_one a (choose z other)) fs rest w) (sym qe) r))

opened_loop : {a w : Body} {line : ℕ} {l : LoopHead} {ts : List Token} {fs : List OpenStmt} {ps : List SourcePiece}
    → Says line (a_loop l) ts
    → Closes end (in_loop a line l ∷ fs) ps w → Closes a fs (block line ts ∷ ps) w
opened_loop {a} {w} {line} {l} {ts} {fs} {ps} d (inside_loop inner other i last xs ys rest f g ie se r) =
    let s : Stmt = looped line l inner other in
    let tag : SourcePiece = block line ts in
    let x : List SourcePiece = xs ++ (ys ++ (endfor last ∷ [])) in
    subst (λ z. Closes a fs (tag ∷ z) w) (split xs ys rest (endfor last) ∙ se)
    (grows (stmt s end) (tag ∷ x)
    (λ b tail k.
    subst (λ z. Forms (stmt s b) (tag ∷ z)) (sym (split xs ys tail (endfor last))) (a_for_statement last d f g k))
    (subst (λ z. Closes (then_one a (looped line l z other)) fs rest w) (sym ie) r))

opened_other : {a w : Body} {line : ℕ} {o : BlockStart} {ts : List Token} {fs : List OpenStmt} {ps : List SourcePiece}
    → Says line (an_opening o) ts
    → Closes end (in_opening a line o ∷ fs) ps w → Closes a fs (block line ts ∷ ps) w
opened_other {a} {w} {line} {o} {ts} {fs} {ps} d (inside_opening inner i last us xs rest f ie e se r) =
    let s : Stmt = made line o inner in
    let tag : SourcePiece = block line ts in
    let x : List SourcePiece = xs ++ (block last us ∷ []) in
    subst (λ z. Closes a fs (tag ∷ z) w) (append_assoc xs (block last us ∷ []) rest ∙ se)
    (grows (stmt s end) (tag ∷ x)
    (λ b tail k.
    subst (λ z. Forms (stmt s b) (tag ∷ z)) (sym (append_assoc xs (block last us ∷ []) tail)) (enclosed last d f e k))
    (subst (λ z. Closes (then_one a (made line o z)) fs rest w) (sym ie) r))

elif_in : {a before w : Body} {done : Branches} {l line : ℕ} {c e : Expr} {ts : List Token} {fs : List OpenStmt}
    {ps : List SourcePiece}
    → Spells expressions.whole e ts
    → Closes end (in_branch before (then_branch done l c a) line e ∷ fs) ps w
    → Closes a (in_branch before done l c ∷ fs) (block line (word (codes "elif") ∷ ts) ∷ ps) w
elif_in {a} {done = done} {l} {line} {c} {e} {ts} d (inside_if inner other bs q last xs ys rest f g qe se r) =
    inside_if end other (branch line e inner bs) q last [] (block line (word (codes "elif") ∷ ts) ∷ (xs ++ ys)) rest
    nothing_more (an_elif d f g)
    (ap (λ i. then_branches done (branch l c i (branch line e inner bs))) (all_end a)
    ∙ sym (branches_all done (branch l c a no_branches) (branch line e inner bs)) ∙ qe)
    (ap (λ z. block line (word (codes "elif") ∷ ts) ∷ z) (append_assoc xs ys (endif last ∷ rest) ∙ se))
    r

else_in : {a before w : Body} {done : Branches} {l line : ℕ} {c : Expr} {fs : List OpenStmt} {ps : List SourcePiece}
    → Closes end (in_else before (then_branch done l c a) ∷ fs) ps w
    → Closes a (in_branch before done l c ∷ fs) (block line (word (codes "else") ∷ []) ∷ ps) w
else_in {a} {before} {w} {done} {l} {line} {c} {fs} {ps} (inside_else inner other last xs rest f i se r) =
    inside_if end inner no_branches (then_branch done l c a) last [] (block line (word (codes "else") ∷ []) ∷ xs) rest
    nothing_more (no_elif (an_else f))
    (ap (λ j. then_branches done (branch l c j no_branches)) (all_end a))
    (ap (λ z. block line (word (codes "else") ∷ []) ∷ z) se)
    (subst (λ z. Closes (then_one before (choose (then_branch done l c a) z)) fs rest w) (sym i) r)

loop_else_in : {a before w : Body} {l : LoopHead} {k line : ℕ} {fs : List OpenStmt} {ps : List SourcePiece}
    → Closes end (in_loop_else before k l a ∷ fs) ps w
    → Closes a (in_loop before k l ∷ fs) (block line (word (codes "else") ∷ []) ∷ ps) w
loop_else_in {a} {before} {w} {l} {k} {line} {fs} {ps} (inside_loop_else inner other last xs rest f i se r) =
    inside_loop end inner a last [] (block line (word (codes "else") ∷ []) ∷ xs) rest nothing_more (an_else f)
    (all_end a)
    (ap (λ z. block line (word (codes "else") ∷ []) ∷ z) se)
    (subst (λ z. Closes (then_one before (looped k l a z)) fs rest w) (sym i) r)

-- ---- one piece

ok_is : {A : Type 0} {a b : A} → ◌≡◌ {A = Result A Fault} (Ok a) (Ok b) → a ≡ b
ok_is e = cc

no_error : {A B : Type 0} (f : Fault) (a : A) → ◌≡◌ {A = Result A Fault} (Ok a) (Err f) → B
no_error f a e = absurd (cc)

-- The pieces complete the whole from this state.
abbrev Rest : List SourcePiece → Body → State → Type 0
Rest ps w st = Closes st.body st.open_stmts ps w

print_sound : (n line : ℕ) (ts : List Token) (st next : State) (ps : List SourcePiece) (w : Body)
    → PrintTag n line ts st (Ok next) → Rest ps w next → Rest (kept.tag kind.Variable line ts ∷ ps) w st
print_sound n line ts st next ps w q r =
    grows (stmt (print line q.0) end) (kept.tag kind.Variable line ts ∷ []) (λ b tail f. a_print q.1 f)
    (subst (Rest ps w) q.4 r)

headed_sound : (line : ℕ) (x : List Token) (h : Head) (st : State) (ps : List SourcePiece) (w : Body) → Says line h x
    → Rest ps w (headed line h st) → Rest (block line x ∷ ps) w st
headed_sound line x (a_statement s) st ps w d r = grows (stmt s end) (block line x ∷ []) (λ b tail f. one_tag d f) r
headed_sound line x (an_if c) st ps w d r = opened_if d r
headed_sound line x (a_loop l) st ps w d r = opened_loop d r
headed_sound line x (an_opening o) st ps w d r = opened_other d r

head_tag_sound : (n line : ℕ) (x : Text) (ts : List Token) (st next : State) (ps : List SourcePiece) (w : Body)
    → HeadTag n line x ts st (Ok next) → Rest ps w next → Rest (block line (word x ∷ ts) ∷ ps) w st
head_tag_sound n line x ts st next ps w q r = headed_sound line (word x ∷ ts) q.0 st ps w q.1 (subst (Rest ps w) q.4 r)

elif_sound : (n line : ℕ) (ts : List Token) (a : Body) (fs : List OpenStmt) (next : State) (ps : List SourcePiece)
    (w : Body)
    → ElifTag n line ts a fs (Ok next) → Rest ps w next → Closes a fs (block line (word (codes "elif") ∷ ts) ∷ ps) w
elif_sound n line ts a [] next ps w e r = no_error syntax next e
elif_sound n line ts a (in_else before done ∷ fs) next ps w e r = no_error syntax next e
elif_sound n line ts a (in_loop before k l ∷ fs) next ps w e r = no_error syntax next e
elif_sound n line ts a (in_loop_else before k l i ∷ fs) next ps w e r = no_error syntax next e
elif_sound n line ts a (in_opening before k o ∷ fs) next ps w e r = no_error syntax next e
elif_sound n line ts a (in_branch before done l c ∷ fs) next ps w q r = elif_in q.1 (subst (Rest ps w) q.4 r)

else_sound : (line : ℕ) (ts : List Token) (a : Body) (fs : List OpenStmt) (next : State) (ps : List SourcePiece)
    (w : Body)
    → Ok next ≡ else_tag ts a fs → Rest ps w next → Closes a fs (block line (word (codes "else") ∷ ts) ∷ ps) w
unfolding else_tag
else_sound line (t ∷ ts) a fs next ps w e r = no_error syntax next e
else_sound line [] a [] next ps w e r = no_error syntax next e
else_sound line [] a (in_else before done ∷ fs) next ps w e r = no_error syntax next e
else_sound line [] a (in_loop_else before k l i ∷ fs) next ps w e r = no_error syntax next e
else_sound line [] a (in_opening before k o ∷ fs) next ps w e r = no_error syntax next e
else_sound line [] a (in_branch before done l c ∷ fs) next ps w e r = else_in (subst (Rest ps w) (ok_is e) r)
else_sound line [] a (in_loop before k l ∷ fs) next ps w e r = loop_else_in (subst (Rest ps w) (ok_is e) r)

-- A tag that consists of the word v alone.
alone : (x v : Text) (line : ℕ) (ts : List Token) → (bytes_eq x v && none_left ts) ≡ true
    → block line (word v ∷ []) ≡ block line (word x ∷ ts)
alone x v line [] h =
    ap (λ y. block line (word y ∷ [])) (sym ((bytes_eq-Decides x v).0 (and_parts (bytes_eq x v) true h).0))
alone x v line (t ∷ ts) h = let p = (and_parts (bytes_eq x v) false h).1 in cc

opening_ends : (o : BlockStart) (x : Text) (ts : List Token) → bytes_eq x (end_word o) ≡ true → names_end o ts ≡ true
    → Ends o (word x ∷ ts)
opening_ends o x [] h n = subst (λ y. Ends o (word y ∷ [])) (sym ((bytes_eq-Decides x (end_word o)).0 h)) (by_word o)
opening_ends (a_block y scoped required) x (cut.name z ∷ []) h n =
    subst (λ v. Ends (a_block y scoped required) (word v ∷ cut.name z ∷ []))
    (sym ((bytes_eq-Decides x (codes "endblock")).0 h))
    (subst (λ v. Ends (a_block v scoped required) (word (codes "endblock") ∷ cut.name z ∷ []))
    ((bytes_eq-Decides (encode_utf8_all z) y).0 n) (by_name scoped required))
opening_ends (a_block y scoped required) x (cut.name z ∷ t ∷ ts) h n = cc
opening_ends (a_block y scoped required) x (cut.number z ∷ ts) h n = cc
opening_ends (a_block y scoped required) x (cut.text z ∷ ts) h n = cc
opening_ends (a_block y scoped required) x (cut.sign z ∷ ts) h n = cc
opening_ends (a_text y) x (t ∷ ts) h n = cc
opening_ends (values y) x (t ∷ ts) h n = cc
opening_ends (filters y) x (t ∷ ts) h n = cc
opening_ends (escaping y) x (t ∷ ts) h n = cc
opening_ends (a_macro y z) x (t ∷ ts) h n = cc

open_stmt_sound : (line : ℕ) (x : Text) (ts : List Token) (a : Body) (f : OpenStmt) (fs : List OpenStmt)
    (ps : List SourcePiece) (w : Body)
    → ends_open_stmt x ts f ≡ true
    → Closes (then_one (reading.before f) (finished a f)) fs ps w → Closes a (f ∷ fs) (block line (word x ∷ ts) ∷ ps) w
open_stmt_sound line x ts a (in_branch before done l c) fs ps w h r =
    inside_if end end no_branches (then_branch done l c a) line [] [] ps nothing_more (no_elif no_else)
    (ap (λ i. then_branches done (branch l c i no_branches)) (all_end a))
    (ap (λ z. z ∷ ps) (alone x (codes "endif") line ts h)) r
open_stmt_sound line x ts a (in_else before done) fs ps w h r =
    inside_else end a line [] ps nothing_more (all_end a) (ap (λ z. z ∷ ps) (alone x (codes "endif") line ts h)) r
open_stmt_sound line x ts a (in_loop before k l) fs ps w h r =
    inside_loop end end a line [] [] ps nothing_more no_else (all_end a)
    (ap (λ z. z ∷ ps) (alone x (codes "endfor") line ts h)) r
open_stmt_sound line x ts a (in_loop_else before k l i) fs ps w h r =
    inside_loop_else end a line [] ps nothing_more (all_end a) (ap (λ z. z ∷ ps) (alone x (codes "endfor") line ts h)) r
open_stmt_sound line x ts a (in_opening before k o) fs ps w h r =
    let b = and_parts (bytes_eq x (end_word o)) (names_end o ts) h in
    inside_opening end a line (word x ∷ ts) [] ps nothing_more (all_end a) (opening_ends o x ts b.0 b.1) refl r

end_sound : (line : ℕ) (x : Text) (ts : List Token) (a : Body) (fs : List OpenStmt) (next : State)
    (ps : List SourcePiece) (w : Body)
    → Ok next ≡ end_tag x ts a fs → Rest ps w next → Closes a fs (block line (word x ∷ ts) ∷ ps) w
unfolding end_tag
end_sound line x ts a [] next ps w e r = no_error syntax next e
end_sound line x ts a (f ∷ fs) next ps w e r =
    by_test (ends_open_stmt x ts f) _ _ _ (sym e)
    (λ h q. open_stmt_sound line x ts a f fs ps w h (subst (Rest ps w) (sym (ok_is q)) r))
    (λ h q. no_error syntax next (sym q))

-- A tag with the word w.
with_word : (x w : Text) (line : ℕ) (ts : List Token) (ps : List SourcePiece) (v : Body) (st : State)
    → bytes_eq x w ≡ true → Rest (block line (word w ∷ ts) ∷ ps) v st → Rest (block line (word x ∷ ts) ∷ ps) v st
with_word x w line ts ps v st h r =
    subst (λ y. Rest (block line (word y ∷ ts) ∷ ps) v st) (sym ((bytes_eq-Decides x w).0 h)) r

elif_word : (x : Text) → role x ≡ is_elif → bytes_eq x (codes "elif") ≡ true
unfolding role
elif_word x e =
    by_test (bytes_eq x (codes "elif")) _ _ _ e (λ h q. h)
    (λ h1 e1. by_test (bytes_eq x (codes "else")) _ _ _ e1 (λ h q. cc)
    (λ h2 e2. by_test (is_end_word x) _ _ _ e2 (λ h q. cc) (λ h3 e3. cc)))

else_word : (x : Text) → role x ≡ is_else → bytes_eq x (codes "else") ≡ true
unfolding role
else_word x e =
    by_test (bytes_eq x (codes "elif")) _ _ _ e (λ h q. cc)
    (λ h1 e1. by_test (bytes_eq x (codes "else")) _ _ _ e1 (λ h q. h)
    (λ h2 e2. by_test (is_end_word x) _ _ _ e2 (λ h q. cc) (λ h3 e3. cc)))

block_sound : (n line : ℕ) (x : Text) (ts : List Token) (st next : State) (ps : List SourcePiece) (w : Body) (k : Role)
    → role x ≡ k → BlockTag k n line x ts st (Ok next) → Rest ps w next → Rest (block line (word x ∷ ts) ∷ ps) w st
block_sound n line x ts st next ps w is_elif h q r =
    with_word x (codes "elif") line ts ps w st (elif_word x h)
    (elif_sound n line ts st.body st.open_stmts next ps w q r)
block_sound n line x ts st next ps w is_else h q r =
    with_word x (codes "else") line ts ps w st (else_word x h) (else_sound line ts st.body st.open_stmts next ps w q r)
block_sound n line x ts st next ps w is_end h q r = end_sound line x ts st.body st.open_stmts next ps w q r
block_sound n line x ts st next ps w is_head h q r = head_tag_sound n line x ts st next ps w q r

step_sound : (n : ℕ) (p : SourcePiece) (st next : State) (ps : List SourcePiece) (w : Body) → Steps n st p (Ok next)
    → Rest ps w next → Rest (p ∷ ps) w st
step_sound n (kept.text d) st next ps w e r =
    grows (stmt (data_of (encode_utf8_all d)) end) (kept.text d ∷ []) (λ b tail f. some_data f)
    (subst (Rest ps w) (ok_is e) r)
step_sound n (kept.tag kind.Variable line ts) st next ps w e r = print_sound n line ts st next ps w e r
step_sound n (kept.tag kind.Block line []) st next ps w e r = no_error syntax next e
step_sound n (kept.tag kind.Block line (cut.name x ∷ ts)) st next ps w e r =
    block_sound n line x ts st next ps w (role x) refl e r
step_sound n (kept.tag kind.Block line (cut.number m ∷ ts)) st next ps w e r = no_error syntax next e
step_sound n (kept.tag kind.Block line (cut.text x ∷ ts)) st next ps w e r = no_error syntax next e
step_sound n (kept.tag kind.Block line (cut.sign s ∷ ts)) st next ps w e r = no_error syntax next e

-- ---- all pieces

run_sound : {n : ℕ} {st : State} {ps : List SourcePiece} {o : Result State Fault} → Runs n st ps o → (b : Body)
    → o ≡ Ok (state b []) → Rest ps b st
run_sound {n} {st} ended b e = subst (Rest [] b) (sym (ok_is e)) (outside end nothing_more (all_end b))
run_sound {n} {st} (went_on {next} {p} {ps} s r) b e = step_sound n p st next ps b s (run_sound r b e)
run_sound (refused {f} s) b e = no_error f (state b []) (sym e)

spelled : (ps : List SourcePiece) (w : Body) → Closes end [] ps w → Forms w ps
spelled ps w (outside b f e) = subst (λ b. Forms b ps) e f

pub read_is_spelled : (n : ℕ) (ps : List SourcePiece) (b : Body) → Runs n start ps (Ok (state b [])) → Forms b ps
read_is_spelled n ps b r = spelled ps b (run_sound r b refl)
