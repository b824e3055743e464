-- The result of the parser determines the tree that the pieces spell.
use Rattle.std.proofs.Common.{◌≡◌, ℕ, ◌<◌, ◌≤◌, List, [], ◌∷◌, ap, Result, Ok, Err}
use Rattle.jt_parse.specs.Kept.{SourcePiece}
use Rattle.jt_ast.specs.Statements.{Body, body_levels}
use Rattle.jt_parse.specs.Grammar.{Forms}
use Rattle.jt_parse.specs.internal.Reading.{Fault, syntax, deep, State, state, Parsed, whole, stopped, left_open}
use Rattle.jt_parse.proofs.LevelLimits.{Within, fits, beyond}
use Rattle.jt_parse.proofs.ParserComplete.{read_whole}
use Rattle.jt_parse.proofs.ParserSound.{read_is_spelled}

errors : {A : Type 0} (f g : Fault) → ◌≡◌ {A = Result A Fault} (Err f) (Err g) → f ≡ g
errors f g e = cc

not_both : {G : Type 0} → syntax ≡ deep → G
not_both e = absurd (cc)

bodies : {a b : Body} → ◌≡◌ {A = Result State Fault} (Ok (state a [])) (Ok (state b [])) → a ≡ b
bodies e = let p : state _ [] ≡ state _ [] = cc in ap (λ (s : State). s.body) p

-- A tree that the pieces spell is the one that is read, and has at most n levels.
pub is_read : (n : ℕ) (a b : Body) (ps : List SourcePiece) → Parsed n ps (Ok a) → Forms b ps
    → (a ≡ b) × (body_levels b ≤ n)
is_read n a b ps (whole r) f = by (read_whole n (Ok (state a [])) f r)
  where
    by : Within (body_levels b) n (λ z. z ≡ Ok (state b [])) (Ok (state a [])) → (a ≡ b) × (body_levels b ≤ n)
    by (fits le e) = (bodies e, le)
    by (beyond gt e) = absurd (cc)

-- The pieces spell the tree that is read, which has at most n levels.
pub exact : (n : ℕ) (b : Body) (ps : List SourcePiece) → Parsed n ps (Ok b) → Forms b ps × (body_levels b ≤ n)
exact n b ps (whole r) = let f = read_is_spelled n ps b r in (f, (is_read n b b ps (whole r) f).1)

-- After `syntax`, the pieces spell no tree.
pub syntax_only : (n : ℕ) (b : Body) (ps : List SourcePiece) → Parsed n ps (Err syntax) → Forms b ps → ⊥
syntax_only n b ps (stopped r) f = by (read_whole n (Err syntax) f r)
  where
    by : Within (body_levels b) n (λ z. z ≡ Ok (state b [])) (Err syntax) → ⊥
    by (fits le e) = absurd (cc)
    by (beyond gt e) = not_both (errors syntax deep e)
syntax_only n b ps (left_open {b = c} {f = g} {fs} r) f = by (read_whole n (Ok (state c (g ∷ fs))) f r)
  where
    by : Within (body_levels b) n (λ z. z ≡ Ok (state b [])) (Ok (state c (g ∷ fs))) → ⊥
    by (fits le e) =
        let p : state c (g ∷ fs) ≡ state b [] = cc in let q = ap (λ (s : State). s.open_stmts) p in absurd (cc)
    by (beyond gt e) = absurd (cc)

-- After `deep`, each tree that the pieces spell is too deep.
pub deep_only : (n : ℕ) (b : Body) (ps : List SourcePiece) → Parsed n ps (Err deep) → Forms b ps → n < body_levels b
deep_only n b ps (stopped r) f = by (read_whole n (Err deep) f r)
  where
    by : Within (body_levels b) n (λ z. z ≡ Ok (state b [])) (Err deep) → n < body_levels b
    by (fits le e) = absurd (cc)
    by (beyond gt e) = gt
