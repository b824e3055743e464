-- The grammar of templates: the trees that the pieces of a source spell, with one rule for each
-- form. Tags has the grammar of tags, and Positions the positions where statements are allowed.
use Rattle.std.specs.Prelude.{◌≡◌, ℕ, true, List, [], ◌∷◌, ◌++◌, codes, encode_utf8_all}
use Rattle.jt_scan.specs.declared.segment.TagKind.TheVariants as kind
use Rattle.jt_scan.specs.Cut.{Token}
use Rattle.jt_ast.specs.Expressions.{Expr}
use Rattle.jt_expr.specs.Grammar.{word, whole, Spells}
use Rattle.jt_ast.specs.Statements.{Stmt, data_of, print, choose, Body, end, stmt, Branches, no_branches, branch}
use Rattle.jt_parse.specs.Kept as kept
use Rattle.jt_parse.specs.Kept.{SourcePiece}
use Rattle.jt_parse.specs.Tags.{LoopHead, BlockStart, a_statement, an_if, a_loop, an_opening, made, looped, Says, Ends}
use Rattle.jt_parse.specs.Positions.{is_placed}

-- A block tag with a line and tokens.
abbrev pub block : ℕ → List Token → SourcePiece
block line ts = kept.tag kind.Block line ts

-- `Forms body ps`: the pieces spell the statements, in order.
mutual
  pub data Forms : Body → List SourcePiece → Type 0 where
    nothing_more : Forms end []
    some_data : {body : Body} {d : List ℕ} {ps : List SourcePiece} → Forms body ps
        → Forms (stmt (data_of (encode_utf8_all d)) body) (kept.text d ∷ ps)
    a_print : {body : Body} {line : ℕ} {e : Expr} {ts : List Token} {ps : List SourcePiece}
        → Spells whole e ts → Forms body ps
        → Forms (stmt (print line e) body) (kept.tag kind.Variable line ts ∷ ps)
    -- `{% set a = e %}`, `{% include "x" %}`, imports and `{% extends "x" %}`.
    one_tag : {body : Body} {s : Stmt} {line : ℕ} {ts : List Token} {ps : List SourcePiece}
        → Says line (a_statement s) ts → Forms body ps → Forms (stmt s body) (block line ts ∷ ps)
    -- `{% if c %}`, a body, further branches and the `else` part, and `{% endif %}`.
    an_if_statement :
        {body inside other : Body} {bs : Branches} {line : ℕ} {c : Expr} {ts : List Token}
        {xs ys ps : List SourcePiece}
        → (last : ℕ) → Says line (an_if c) ts → Forms inside xs → GoesOn bs other ys → Forms body ps
        → Forms (stmt (choose (branch line c inside bs) other) body)
        (block line ts ∷ (xs ++ (ys ++ (block last (word (codes "endif") ∷ []) ∷ ps))))
    -- `{% for a in e %}`, a body, an optional `else` part, and `{% endfor %}`.
    a_for_statement :
        {body inside other : Body} {line : ℕ} {l : LoopHead} {ts : List Token} {xs ys ps : List SourcePiece}
        → (last : ℕ)
        → Says line (a_loop l) ts
        → Forms inside xs
        → Otherwise other ys
        → Forms body ps
        → Forms (stmt (looped line l inside other) body)
        (block line ts ∷ (xs ++ (ys ++ (block last (word (codes "endfor") ∷ []) ∷ ps))))
    -- A first tag, a body and an end tag: `{% set a %}`, `with`, `filter`, `autoescape`, `macro`
    -- and `block`.
    enclosed :
        {body inside : Body} {line : ℕ} {o : BlockStart} {ts us : List Token} {xs ps : List SourcePiece}
        → (last : ℕ) → Says line (an_opening o) ts → Forms inside xs → Ends o us → Forms body ps
        → Forms (stmt (made line o inside) body) (block line ts ∷ (xs ++ (block last us ∷ ps)))

  -- The `elif` branches and the optional `else` part.
  pub data GoesOn : Branches → Body → List SourcePiece → Type 0 where
    no_elif : {other : Body} {ys : List SourcePiece} → Otherwise other ys → GoesOn no_branches other ys
    an_elif :
        {inside other : Body} {bs : Branches} {line : ℕ} {c : Expr} {ts : List Token}
        {xs ys : List SourcePiece}
        → Spells whole c ts
        → Forms inside xs
        → GoesOn bs other ys
        → GoesOn (branch line c inside bs) other
        (block line (word (codes "elif") ∷ ts) ∷ (xs ++ ys))

  -- The optional `else` part.
  pub data Otherwise : Body → List SourcePiece → Type 0 where
    no_else : Otherwise end []
    an_else : {other : Body} {line : ℕ} {xs : List SourcePiece} → Forms other xs
        → Otherwise other (block line (word (codes "else") ∷ []) ∷ xs)

-- The pieces spell the template, and each statement has an allowed position.
abbrev pub Spelled : Body → List SourcePiece → Type 0
Spelled body pieces = Forms body pieces × (is_placed body ≡ true)
