-- A token may stand behind tokens if and only if its state has a step for it.
use Rattle.std.proofs.Common.{◌≡◌, Bool, true, false, [], ◌∷◌, ◌++◌, ap, ◌∙◌, Option, Some, None, if◌then◌else◌}
use Rattle.std.specs.Option.{is_some}
use Rattle.jt_scan.specs.Cut as cut
use Rattle.jt_scan.specs.Cut.{Token}
use Rattle.jt_scan.specs.declared.segment.Sign.TheVariants as s
use Rattle.jt_expr.specs.Grammar.{Tokens}
use Rattle.jt_syntax.specs.Prefixes.{Allows, AllowsCloser, Wants}
use Rattle.jt_syntax.specs.declared.kinds.Kind.TheVariants as k
use Rattle.jt_syntax.specs.internal.Kinds.{kind_of}
use Rattle.jt_syntax.specs.internal.States.{State, step, walk, start, wanted}
use Rattle.jt_syntax.proofs.Covering.{walk_append}
use Rattle.jt_syntax.proofs.Reaching.{reached, rejected}

allowed_by : (ts : Tokens) (t : Token) (o : Option State) → walk (ts ++ (t ∷ [])) (Some start) ≡ o
    → Allows ts t (is_some o)
allowed_by ts t (Some z) h = reached (ts ++ (t ∷ [])) z h
allowed_by ts t None h = rejected (ts ++ (t ∷ [])) h

allowed : (ts : Tokens) (x : State) → walk ts (Some start) ≡ Some x → (t : Token)
    → Allows ts t (is_some (step x (kind_of t)))
allowed ts x h t =
    allowed_by ts t (step x (kind_of t)) (walk_append ts (t ∷ []) (Some start) ∙ ap (walk (t ∷ [])) h)

closer_by : (ts : Tokens) (a b c : Bool) → Allows ts (cut.sign s.RightParen) a
    → Allows ts (cut.sign s.RightBracket) b → Allows ts (cut.sign s.RightBrace) c
    → AllowsCloser ts (if a then Some s.RightParen else if b then Some s.RightBracket
    else if c then Some s.RightBrace else None)
closer_by ts true b c u v w = u
closer_by ts false true c u v w = v
closer_by ts false false true u v w = w
closer_by ts false false false u v w = (u, v, w)

-- What a state wants may stand behind the tokens that lead to it.
pub wants : (ts : Tokens) (x : State) → walk ts (Some start) ≡ Some x → Wants ts (wanted x)
wants ts x h = record {
  begins = reached ts x h;
  operand = λ n. allowed ts x h (cut.number n);
  operator = allowed ts x h (cut.sign s.Tilde);
  comma = allowed ts x h (cut.sign s.Comma);
  closer = closer_by ts (is_some (step x (k.Sign s.RightParen))) (is_some (step x (k.Sign s.RightBracket)))
      (is_some (step x (k.Sign s.RightBrace))) (allowed ts x h (cut.sign s.RightParen))
      (allowed ts x h (cut.sign s.RightBracket)) (allowed ts x h (cut.sign s.RightBrace));
}
