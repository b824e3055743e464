-- The result of parsing pieces.
use Rattle.std.proofs.Common.{◌≡◌, ℕ, ◌<◌, ◌≤◌, arith, List, true, false, refl, sym, ap, subst, ◌∙◌, None, Result, Ok}
use Rattle.std.proofs.Common.{Err, IfOk, IfErr, MatchResult}
use Rattle.jt_expr.specs.declared.named.Named.{Named}
use Rattle.jt_expr.specs.declared.named.Named.TheVariants as named
use Rattle.jt_ast.specs.Statements.{Body, body_levels, body_weight}
use Rattle.jt_parse.specs.Kept.{SourcePiece, pieces}
use Rattle.jt_ast.specs.Sizes.{body_bytes}
use Rattle.jt_parse.specs.Bytes.{bytes_of}
use Rattle.jt_scan.specs.Cut.{weight_of}
use Rattle.jt_scan.specs.View.{cut_of}
use Rattle.jt_scan.specs.declared.segment.Segment.{Segment as SegmentKind}
use Rattle.jt_expr.specs.Promises.{ExpressionLaws}
use Rattle.jt_parse.proofs.TreeBounds.{tree_bound}
use Rattle.jt_parse.specs.Names.{body_unknown}
use Rattle.jt_parse.specs.Positions.{is_placed}
use Rattle.jt_parse.specs.Grammar.{Spelled}
use Rattle.jt_parse.specs.internal.Reading.{Fault, Parsed}
use Rattle.jt_ast.specs.StatementView.{body_of}
use Rattle.jt_parse.specs.View.{reads_of}
use Rattle.jt_parse.specs.internal.Gives.{GivesBody, GivesNames, GivesPositions, IsNone, not_read, misplaced}
use Rattle.jt_parse.specs.internal.Gives.{GivesKnown, Finds}
use Rattle.jt_parse.specs.Refusals.{HoldsUnknown, IsRefusal}
use Rattle.jt_parse.specs.declared.error.ParseError.{ParseError}
use Rattle.jt_parse.specs.declared.error.ParseError.TheVariants as e
use Rattle.jt_ast.specs.declared.statement.Template.{Template}
use Rattle.jt_parse.proofs.ParserExact.{exact, is_read, syntax_only, deep_only}

-- ---- the statements that are read, their positions and their names

pub refused_read : (O : Result Body Fault → Type 0) (f : ParseError) → GivesBody O (Err f) → GivesKnown O (Err f)
refused_read O (e.Syntax l) g = not_read g
refused_read O (e.TooDeep l) g = g
refused_read O (e.UnknownFilter l) g = absurd g
refused_read O (e.UnknownTest l) g = absurd g
refused_read O e.NoMemory g = tt

pub known_body : (O : Result Body Fault → Type 0) (b : Body) (t : Template) → body_of t ≡ b → O (Ok b)
    → is_placed b ≡ true → body_unknown b ≡ None → GivesKnown O (Ok t)
known_body O b t e is p k = subst (λ z. O (Ok z) × (is_placed z ≡ true) × (body_unknown z ≡ None)) (sym e) (is, p, k)

pub found_misplaced : (O : Result Body Fault → Type 0) (b : Body) (f : ParseError) → O (Ok b)
    → GivesPositions (is_placed b) (Err f) → GivesKnown O (Err f)
found_misplaced O b (e.Syntax l) is g = misplaced (b, is, g)
found_misplaced O b (e.TooDeep l) is g = absurd g
found_misplaced O b (e.UnknownFilter l) is g = absurd g
found_misplaced O b (e.UnknownTest l) is g = absurd g
found_misplaced O b e.NoMemory is g = absurd g

pub found_unknown : (O : Result Body Fault → Type 0) (b : Body) (f : ParseError) → O (Ok b) → is_placed b ≡ true
    → GivesNames (body_unknown b) (Err f) → GivesKnown O (Err f)
found_unknown O b (e.Syntax l) is p g = absurd g
found_unknown O b (e.TooDeep l) is p g = absurd g
found_unknown O b (e.UnknownFilter l) is p g = (b, is, p, g)
found_unknown O b (e.UnknownTest l) is p g = (b, is, p, g)
found_unknown O b e.NoMemory is p g = absurd g

not_known : {G : Type 0} (ps : List SourcePiece) (b : Body) (line : ℕ) (n : Named) → Finds (Parsed 100 ps) line n
    → Spelled b ps → body_unknown b ≡ None → G
not_known ps b line n (a, is, p, s) d k =
    let q : body_unknown a ≡ None = ap body_unknown (is_read 100 a b ps is d.0).0 ∙ k in absurd (cc)

holds : (ps : List SourcePiece) (line : ℕ) (n : Named) → Finds (Parsed 100 ps) line n → HoldsUnknown line n ps
holds ps line n (b, is, p, s) = let h = exact 100 b ps is in (b, (h.0, p), h.1, s)

not_placed : {G : Type 0} (b : Body) → is_placed b ≡ true → is_placed b ≡ false → G
not_placed b t f = absurd (cc)

-- ---- the result

pub answer_spelled : (ps : List SourcePiece) (r : Result Template ParseError) → GivesKnown (Parsed 100 ps) r
    → IfOk r (λ t. Spelled (body_of t) ps × (body_levels (body_of t) ≤ 100))
answer_spelled ps (Ok t) g = let h = exact 100 (body_of t) ps g.0 in ((h.0, g.1), h.1)
answer_spelled ps (Err x) g = tt

-- The statements that are read, at allowed positions, are spelled by the pieces.
pub placed_spelled : (ps : List SourcePiece) (b : Body) (t : Template) → body_of t ≡ b → Parsed 100 ps (Ok b)
    → is_placed b ≡ true → Spelled (body_of t) ps × (body_levels (body_of t) ≤ 100)
placed_spelled ps b t e is p =
    let h = exact 100 b ps is in
    subst (λ z. Spelled z ps × (body_levels z ≤ 100)) (sym e) ((h.0, p), h.1)

pub answer_known : (ps : List SourcePiece) (r : Result Template ParseError) → GivesKnown (Parsed 100 ps) r
    → IfOk r (λ t. body_unknown (body_of t) ≡ None)
answer_known ps (Ok t) g = g.2
answer_known ps (Err x) g = tt

-- If no tree is read, or a tree with a position that is not allowed, the pieces spell no template.
none_spelled : (ps : List SourcePiece) → IsNone (Parsed 100 ps) → (b : Body) → Spelled b ps → ⊥
none_spelled ps (not_read n) b s = syntax_only 100 b ps n s.0
none_spelled ps (misplaced (a, is, m)) b s = not_placed a (ap is_placed (is_read 100 a b ps is s.0).0 ∙ s.1) m

over : {G : Type 0} (l n : ℕ) → l ≤ n → n < l → G
over l n le gt = absurd (omega (arith, le, gt))

pub answer_only : (ps : List SourcePiece) (r : Result Template ParseError) → GivesKnown (Parsed 100 ps) r → (b : Body)
    → Spelled b ps → body_levels b ≤ 100 → body_unknown b ≡ None
    → MatchResult r (λ t. body_of t ≡ b) (λ x. x ≡ e.NoMemory)
answer_only ps (Ok t) g b s le k = (is_read 100 (body_of t) b ps g.0 s.0).0
answer_only ps (Err (e.Syntax l)) g b s le k = absurd (none_spelled ps g b s)
answer_only ps (Err (e.TooDeep l)) g b s le k = over (body_levels b) 100 le (deep_only 100 b ps g s.0)
answer_only ps (Err (e.UnknownFilter l)) g b s le k = not_known ps b l named.Filter g s k
answer_only ps (Err (e.UnknownTest l)) g b s le k = not_known ps b l named.Test g s k
answer_only ps (Err e.NoMemory) g b s le k = refl

pub answer_refused : (ps : List SourcePiece) (r : Result Template ParseError) → GivesKnown (Parsed 100 ps) r
    → IfErr r (λ x. IsRefusal x ps)
answer_refused ps (Ok t) g = tt
answer_refused ps (Err (e.Syntax l)) g = λ b s. none_spelled ps g b s
answer_refused ps (Err (e.TooDeep l)) g = λ b s. deep_only 100 b ps g s.0
answer_refused ps (Err (e.UnknownFilter l)) g = holds ps l named.Filter g
answer_refused ps (Err (e.UnknownTest l)) g = holds ps l named.Test g
answer_refused ps (Err e.NoMemory) g = tt

pub answer_weighs : ExpressionLaws → (gs : List SegmentKind) (r : Result Template ParseError)
    → GivesKnown (Parsed 100 (pieces (reads_of gs))) r → IfOk r (λ t. body_weight (body_of t) ≤ weight_of (cut_of gs))
answer_weighs laws gs (Ok t) g = (tree_bound laws gs (exact 100 (body_of t) (pieces (reads_of gs)) g.0).0).0
answer_weighs laws gs (Err x) g = tt

pub answer_short : ExpressionLaws → (gs : List SegmentKind) (r : Result Template ParseError)
    → GivesKnown (Parsed 100 (pieces (reads_of gs))) r → IfOk r (λ t. body_bytes (body_of t) ≤ bytes_of (cut_of gs))
answer_short laws gs (Ok t) g = (tree_bound laws gs (exact 100 (body_of t) (pieces (reads_of gs)) g.0).0).1
answer_short laws gs (Err x) g = tt
