-- The parser is complete: a tree that the pieces spell is read, or refused as too deep.
use Rattle.std.proofs.Common.{◌≡◌, ℕ, suc, ◌+◌, ◌≤◌, max, true, List, [], ◌∷◌, ◌++◌, length, codes, refl, sym, ap}
use Rattle.std.proofs.Common.{subst, ◌∙◌, append_assoc, append-nil, arith, Result, Ok, encode_utf8_all, bytes_eq}
use Rattle.std.proofs.lemmas.Slice.Eq.{bytes_eq-Decides}
use Rattle.jt_scan.specs.Cut.{Token}
use Rattle.jt_ast.specs.Expressions.{Expr, levels}
use Rattle.jt_expr.specs.Grammar as expressions
use Rattle.jt_expr.specs.Grammar.{word, Spells}
use Rattle.jt_ast.specs.Statements.{Stmt, data_of, print, choose, Body, end, stmt, Branches, no_branches, branch}
use Rattle.jt_ast.specs.Statements.{stmt_levels, body_levels, branch_levels}
use Rattle.jt_parse.specs.Kept.{SourcePiece}
use Rattle.jt_parse.specs.Tags.{LoopHead, BlockStart, a_text, values, filters, escaping, a_macro, a_block, Head, made}
use Rattle.jt_parse.specs.Tags.{looped, Says, says_if, says_for, says_set, says_text, says_with, says_filter}
use Rattle.jt_parse.specs.Tags.{says_autoescape, says_macro, says_include, says_import, says_from, says_extends}
use Rattle.jt_parse.specs.Tags.{says_block, Ends, by_word, by_name, opening_levels, loop_levels, head_levels}
use Rattle.jt_parse.specs.Grammar.{block, Forms, nothing_more, some_data, a_print, one_tag, an_if_statement}
use Rattle.jt_parse.specs.Grammar.{a_for_statement, enclosed, GoesOn, no_elif, an_elif, Otherwise, no_else, an_else}
use Rattle.jt_parse.specs.internal.Reading.{then_all, then_one, then_branches, then_branch, OpenStmt, in_branch}
use Rattle.jt_parse.specs.internal.Reading.{in_else, in_loop, in_loop_else, in_opening, Fault, State, state, start}
use Rattle.jt_parse.specs.internal.Reading.{headed, After, Steps, Runs, ended, role, HeadTag, else_tag, end_tag}
use Rattle.jt_parse.proofs.BodyConcatenation.{all_end, all_all, branches_all}
use Rattle.jt_parse.proofs.LevelLimits.{Within, fits, chained, mapped, only_step, reads_on}

-- The word of a first tag begins no other kind of tag.
head_word : {line : ℕ} {h : Head} {x : List Token} → Says line h x → (n : ℕ) (st : State) (s : Result State Fault)
    → Steps n st (block line x) s
    → (w : List ℕ) × (ts : List Token) × (x ≡ word w ∷ ts) × HeadTag n line w ts st s
unfolding role
head_word (says_if {x} d) n st s r = (codes "if", x, refl, r)
head_word (says_for {x} {y} {z} g d f) n st s r = (codes "for", x ++ (word (codes "in") ∷ (y ++ z)), refl, r)
head_word (says_set {x} {y} g d) n st s r = (codes "set", _, refl, r)
head_word (says_text {x} h) n st s r = (codes "set", _, refl, r)
head_word (says_with {x} d) n st s r = (codes "with", x, refl, r)
head_word (says_filter {x} d) n st s r = (codes "filter", x, refl, r)
head_word (says_autoescape on) n st s r = (codes "autoescape", _, refl, r)
head_word (says_macro h d) n st s r = (codes "macro", _, refl, r)
head_word (says_include missing d) n st s r = (codes "include", _, refl, r)
head_word (says_import said h) n st s r = (codes "import", _, refl, r)
head_word (says_from said d) n st s r = (codes "from", _, refl, r)
head_word says_extends n st s r = (codes "extends", _, refl, r)
head_word (says_block scoped required h) n st s r = (codes "block", _, refl, r)

-- The first tag of a statement is read, or refused as too deep.
head_reads : {line : ℕ} {h : Head} {x : List Token} → Says line h x
    → (n : ℕ) (st : State) (ps : List SourcePiece) (o : Result State Fault)
    → Runs n st (block line x ∷ ps) o → Within (length st.open_stmts + head_levels h) n (Runs n (headed line h st) ps) o
head_reads {line} {h} {x} d n st ps o r =
    reads_on {NestedForm = λ g. Says line g x} {height = λ g. length st.open_stmts + head_levels g}
    {next = λ g. headed line g st} h d
    (λ s t. let q = head_word d n st s t in by s q.0 q.1 q.2 q.3) r
  where
    by : (s : Result State Fault) (w : List ℕ) (ts : List Token) → x ≡ word w ∷ ts → HeadTag n line w ts st s
        → After (λ g. Says line g x) (λ g. length st.open_stmts + head_levels g) n (λ g. headed line g st) s
    by s w ts e t =
        subst (λ z. After (λ g. Says line g z) (λ g. length st.open_stmts + head_levels g) n (λ g. headed line g st) s)
        (sym e) t

same_bytes : (x : List ℕ) → bytes_eq x x ≡ true
same_bytes x = (bytes_eq-Decides x x).1 refl

-- The tag that ends a statement is read.
end_step : {o : BlockStart} {us : List Token} → Ends o us
    → (n last : ℕ) (a inside : Body) (line : ℕ) (fs : List OpenStmt) (s : Result State Fault)
    → Steps n (state inside (in_opening a line o ∷ fs)) (block last us) s
    → s ≡ Ok (state (then_one a (made line o inside)) fs)
unfolding role end_tag
end_step (by_word (a_text x)) n last a inside line fs s r = r
end_step (by_word (values vs)) n last a inside line fs s r = r
end_step (by_word (filters gs)) n last a inside line fs s r = r
end_step (by_word (escaping on)) n last a inside line fs s r = r
end_step (by_word (a_macro x qs)) n last a inside line fs s r = r
end_step (by_word (a_block x scoped required)) n last a inside line fs s r = r
end_step (by_name {x} scoped required) n last a inside line fs s r = rw (same_bytes (encode_utf8_all x)) at r

made_levels : (line : ℕ) (o : BlockStart) (b : Body)
    → stmt_levels (made line o b) ≡ suc (max (opening_levels o) (body_levels b))
made_levels line (a_text x) b = omega arith
made_levels line (values ps) b = refl
made_levels line (filters fs) b = refl
made_levels line (escaping on) b = omega arith
made_levels line (a_macro x ps) b = omega arith
made_levels line (a_block x scoped required) b = omega arith

if_levels : (d c i bs o b : ℕ)
    → d + max (suc (max (max (max c i) bs) o)) b ≡ max (d + suc c) (max (suc d + i) (max (suc d + max bs o) (d + b)))
if_levels d c i bs o b = omega arith

for_levels : (d l i o b : ℕ)
    → d + max (suc (max l (max i o))) b ≡ max (d + suc l) (max (suc d + i) (max (suc d + o) (d + b)))
for_levels d l i o b = omega arith

enclosed_levels : (d s l i b : ℕ) → s ≡ suc (max l i) → d + max s b ≡ max (d + suc l) (max (suc d + i) (d + b))
enclosed_levels d s l i b e = omega (arith, e)

elif_levels : (d e b bs o : ℕ) → suc d + max (max (max e b) bs) o ≡ max (suc d + e) (max (suc d + b) (suc d + max bs o))
elif_levels d e b bs o = omega arith

one_deeper : (d c n : ℕ) → d + suc c ≤ n → suc d ≤ n
one_deeper d c n h = omega arith

zero_more : (l : ℕ) → 0 + l ≡ l
zero_more l = omega arith

joined : {A : Type 0} (xs ys ps rest : List A) (c : A)
    → (xs ++ (ys ++ (c ∷ ps))) ++ rest ≡ xs ++ (ys ++ (c ∷ (ps ++ rest)))
joined xs ys ps rest c = append_assoc xs (ys ++ (c ∷ ps)) rest ∙ ap (λ z. xs ++ z) (append_assoc ys (c ∷ ps) rest)

mutual
  unfolding role else_tag end_tag

  pub forms_are_read : {b : Body} {x : List SourcePiece} → Forms b x
      → (n : ℕ) (a : Body) (fs : List OpenStmt) (rest : List SourcePiece) (o : Result State Fault) → length fs ≤ n
      → Runs n (state a fs) (x ++ rest) o
      → Within (length fs + body_levels b) n (Runs n (state (then_all a b) fs) rest) o
  forms_are_read nothing_more n a fs rest o h r =
      fits (omega (arith, h)) (subst (λ c. Runs n (state c fs) rest o) (sym (all_end a)) r)
  forms_are_read (some_data {body} {d} f) n a fs rest o h r =
      let s : Stmt = data_of (encode_utf8_all d) in
      mapped (length fs + body_levels body) (length fs + body_levels (stmt s body)) n (omega arith)
      (forms_are_read f n (then_one a s) fs rest o h (only_step (λ q t. t) r))
      (λ q. subst (λ c. Runs n (state c fs) rest o) (all_all a (stmt s end) body) q)
  forms_are_read (a_print {body} {line} {e} {ts} {ps} d f) n a fs rest o h r =
      let s : Stmt = print line e in
      chained (suc (length fs) + levels e) (length fs + body_levels body) (length fs + body_levels (stmt s body)) n
      (omega arith)
      (reads_on {NestedForm = λ c. Spells expressions.whole c ts} {height = λ c. suc (length fs) + levels c}
      {next = λ c. state (then_one a (print line c)) fs} e d (λ q t. t) r) (λ le r1.
      mapped (length fs + body_levels body) (length fs + body_levels body) n refl
      (forms_are_read f n (then_one a s) fs rest o h r1)
      (λ q. subst (λ c. Runs n (state c fs) rest o) (all_all a (stmt s end) body) q))
  forms_are_read (one_tag {body} {s} {line} {ts} {ps} d f) n a fs rest o h r =
      chained (length fs + stmt_levels s) (length fs + body_levels body) (length fs + body_levels (stmt s body)) n
      (omega arith)
      (head_reads d n (state a fs) (ps ++ rest) o r) (λ le r1.
      mapped (length fs + body_levels body) (length fs + body_levels body) n refl
      (forms_are_read f n (then_one a s) fs rest o h r1)
      (λ q. subst (λ c. Runs n (state c fs) rest o) (all_all a (stmt s end) body) q))
  forms_are_read (an_if_statement {body} {inside} {other} {bs} {line} {c} {ts} {xs} {ys} {ps} last d i g f) n a fs rest
      o h r =
      let s : Stmt = choose (branch line c inside bs) other in
      let closing : SourcePiece = block last (word (codes "endif") ∷ []) in
      let fr : OpenStmt = in_branch a no_branches line c in
      let m2 : ℕ = suc (length fs) + body_levels inside in
      let m3 : ℕ = suc (length fs) + max (branch_levels bs) (body_levels other) in
      let m4 : ℕ = length fs + body_levels body in
      chained (length fs + suc (levels c)) (max m2 (max m3 m4)) (length fs + body_levels (stmt s body)) n
      (if_levels (length fs) (levels c) (body_levels inside) (branch_levels bs) (body_levels other) (body_levels body))
      (head_reads d n (state a fs) ((xs ++ (ys ++ (closing ∷ ps))) ++ rest) o r) (λ le r1.
      chained m2 (max m3 m4) (max m2 (max m3 m4)) n refl
      (forms_are_read i n end (fr ∷ fs) (ys ++ (closing ∷ (ps ++ rest))) o (one_deeper (length fs) (levels c) n le)
      (subst (λ z. Runs n (state end (fr ∷ fs)) z o) (joined xs ys ps rest closing) r1)) (λ le2 r2.
      chained m3 m4 (max m3 m4) n refl
      (rest_is_read g n a no_branches line c inside fs last (ps ++ rest) o (one_deeper (length fs) (levels c) n le) r2)
      (λ le3 r3.
      mapped m4 m4 n refl (forms_are_read f n (then_one a s) fs rest o h r3)
      (λ q. subst (λ b. Runs n (state b fs) rest o) (all_all a (stmt s end) body) q))))
  forms_are_read (a_for_statement {body} {inside} {other} {line} {l} {ts} {xs} {ys} {ps} last d i e f) n a fs rest o h r
      =
      let s : Stmt = looped line l inside other in
      let closing : SourcePiece = block last (word (codes "endfor") ∷ []) in
      let fr : OpenStmt = in_loop a line l in
      let m2 : ℕ = suc (length fs) + body_levels inside in
      let m3 : ℕ = suc (length fs) + body_levels other in
      let m4 : ℕ = length fs + body_levels body in
      chained (length fs + suc (loop_levels l)) (max m2 (max m3 m4)) (length fs + body_levels (stmt s body)) n
      (for_levels (length fs) (loop_levels l) (body_levels inside) (body_levels other) (body_levels body))
      (head_reads d n (state a fs) ((xs ++ (ys ++ (closing ∷ ps))) ++ rest) o r) (λ le r1.
      chained m2 (max m3 m4) (max m2 (max m3 m4)) n refl
      (forms_are_read i n end (fr ∷ fs) (ys ++ (closing ∷ (ps ++ rest))) o (one_deeper (length fs) (loop_levels l) n le)
      (subst (λ z. Runs n (state end (fr ∷ fs)) z o) (joined xs ys ps rest closing) r1)) (λ le2 r2.
      chained m3 m4 (max m3 m4) n refl
      (loop_is_read e n a line l inside fs last (ps ++ rest) o (one_deeper (length fs) (loop_levels l) n le) r2)
      (λ le3 r3.
      mapped m4 m4 n refl (forms_are_read f n (then_one a s) fs rest o h r3)
      (λ q. subst (λ b. Runs n (state b fs) rest o) (all_all a (stmt s end) body) q))))
  forms_are_read (enclosed {body} {inside} {line} {o = p} {ts} {us} {xs} {ps} last d i e f) n a fs rest o h r =
      let s : Stmt = made line p inside in
      let closing : SourcePiece = block last us in
      let fr : OpenStmt = in_opening a line p in
      let m2 : ℕ = suc (length fs) + body_levels inside in
      let m4 : ℕ = length fs + body_levels body in
      chained (length fs + suc (opening_levels p)) (max m2 m4) (length fs + body_levels (stmt s body)) n
      (enclosed_levels (length fs) (stmt_levels s) (opening_levels p) (body_levels inside) (body_levels body)
      (made_levels line p inside))
      (head_reads d n (state a fs) ((xs ++ (closing ∷ ps)) ++ rest) o r) (λ le r1.
      chained m2 m4 (max m2 m4) n refl
      (forms_are_read i n end (fr ∷ fs) (closing ∷ (ps ++ rest)) o (one_deeper (length fs) (opening_levels p) n le)
      (subst (λ z. Runs n (state end (fr ∷ fs)) z o) (append_assoc xs (closing ∷ ps) rest) r1)) (λ le2 r2.
      mapped m4 m4 n refl
      (forms_are_read f n (then_one a s) fs rest o h (only_step (λ q t. end_step e n last a inside line fs q t) r2))
      (λ q. subst (λ b. Runs n (state b fs) rest o) (all_all a (stmt s end) body) q)))

  loop_is_read : {other : Body} {ys : List SourcePiece} → Otherwise other ys
      → (n : ℕ) (a : Body) (line : ℕ) (l : LoopHead) (inside : Body) (fs : List OpenStmt) (last : ℕ)
      (rest : List SourcePiece) (o : Result State Fault)
      → suc (length fs) ≤ n
      → Runs n (state inside (in_loop a line l ∷ fs)) (ys ++ (block last (word (codes "endfor") ∷ []) ∷ rest)) o
      → Within (suc (length fs) + body_levels other) n
      (Runs n (state (then_one a (looped line l inside other)) fs) rest) o
  loop_is_read no_else n a line l inside fs last rest o h r = fits (omega (arith, h)) (only_step (λ q t. t) r)
  loop_is_read (an_else {other} {line = k} {xs} f) n a line l inside fs last rest o h r =
      let closing : SourcePiece = block last (word (codes "endfor") ∷ []) in
      mapped (suc (length fs) + body_levels other) (suc (length fs) + body_levels other) n refl
      (forms_are_read f n end (in_loop_else a line l inside ∷ fs) (closing ∷ rest) o h (only_step (λ q t. t) r))
      (λ q. only_step (λ y t. t) q)

  rest_is_read : {bs : Branches} {other : Body} {ys : List SourcePiece} → GoesOn bs other ys
      → (n : ℕ) (a : Body) (done : Branches) (line : ℕ) (c : Expr) (inside : Body) (fs : List OpenStmt) (last : ℕ)
      (rest : List SourcePiece) (o : Result State Fault)
      → suc (length fs) ≤ n
      → Runs n (state inside (in_branch a done line c ∷ fs)) (ys ++ (block last (word (codes "endif") ∷ []) ∷ rest)) o
      → Within (suc (length fs) + max (branch_levels bs) (body_levels other)) n
      (Runs n (state (then_one a (choose (then_branches done (branch line c inside bs)) other)) fs) rest) o
  rest_is_read (no_elif no_else) n a done line c inside fs last rest o h r =
      fits (omega (arith, h)) (only_step (λ q t. t) r)
  rest_is_read (no_elif (an_else {other} {line = l} {xs} f)) n a done line c inside fs last rest o h r =
      let closing : SourcePiece = block last (word (codes "endif") ∷ []) in
      mapped (suc (length fs) + body_levels other) (suc (length fs) + max 0 (body_levels other)) n (omega arith)
      (forms_are_read f n end (in_else a (then_branch done line c inside) ∷ fs) (closing ∷ rest) o h
      (only_step (λ q t. t) r))
      (λ q. only_step (λ y t. t) q)
  rest_is_read (an_elif {inside = b} {other} {bs} {line = l} {c = e} {ts} {xs} {ys} d i g) n a done line c inside fs
      last rest o h r =
      let tail : List SourcePiece = block last (word (codes "endif") ∷ []) ∷ rest in
      let before : Branches = then_branch done line c inside in
      let fr : OpenStmt = in_branch a before l e in
      let m2 : ℕ = suc (length fs) + body_levels b in
      let m3 : ℕ = suc (length fs) + max (branch_levels bs) (body_levels other) in
      chained (suc (length fs) + levels e) (max m2 m3)
      (suc (length fs) + max (branch_levels (branch l e b bs)) (body_levels other)) n
      (elif_levels (length fs) (levels e) (body_levels b) (branch_levels bs) (body_levels other))
      (reads_on {NestedForm = λ x. Spells expressions.whole x ts} {height = λ x. suc (length fs) + levels x}
      {next = λ x. state end (in_branch a before l x ∷ fs)} e d (λ q t. t) r) (λ le r1.
      chained m2 m3 (max m2 m3) n refl
      (forms_are_read i n end (fr ∷ fs) (ys ++ tail) o h
      (subst (λ z. Runs n (state end (fr ∷ fs)) z o) (append_assoc xs ys tail) r1)) (λ le2 r2.
      mapped m3 m3 n refl (rest_is_read g n a before l e b fs last rest o h r2)
      (λ q. subst (λ z. Runs n (state (then_one a (choose z other)) fs) rest o)
      (branches_all done (branch line c inside no_branches) (branch l e b bs)) q)))

no_more : {n : ℕ} {st : State} {o : Result State Fault} → Runs n st [] o → o ≡ Ok st
no_more ended = refl

-- A run over pieces that spell a tree results in the tree, or in `deep` if it has more than n
-- levels.
pub read_whole : (n : ℕ) {b : Body} {ps : List SourcePiece} (o : Result State Fault) → Forms b ps → Runs n start ps o
    → Within (body_levels b) n (λ z. z ≡ Ok (state b [])) o
read_whole n {b} {ps} o f r =
    mapped (0 + body_levels b) (body_levels b) n (zero_more (body_levels b))
    (forms_are_read f n end [] [] o (omega arith) (subst (λ z. Runs n start z o) (sym (append-nil ps)) r))
    no_more
