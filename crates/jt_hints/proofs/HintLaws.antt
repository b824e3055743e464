-- The first form that stands in the tokens from a place on, by the first token.
use Rattle.std.proofs.Common.{arith, ◌≡◌, ◌-◌, ◌<◌, ◌≤◌, ◌∙◌, ap, sym, refl, List, [], ◌∷◌, Some, None}
use Rattle.std.proofs.Common.{length, get_or, take, drop}
use Rattle.std.proofs.lemmas.List.{take_rest}
use Rattle.std.specs.Option.{option_or}
use Rattle.jt_scan.specs.declared.segment.Token.{Token}
use Rattle.jt_hints.specs.declared.syntax.SyntaxHint.{SyntaxHint}
use Rattle.jt_hints.specs.Forms.{Place, after, token_hint, end_hint, first_hint}

-- The tokens after the first one.
abbrev pub behind_first : List Token → List Token
behind_first rest = take (length rest - 1) (drop 1 rest)

first_of : (rest : List Token) (token : Token)
    → 1 ≤ length rest → token ≡ get_or rest 0 token → rest ≡ token ∷ behind_first rest
first_of [] token h e = absurd (omega (arith, h))
first_of (x ∷ rest) token h e =
    ap (λ z. z ∷ rest) (sym e) ∙ ap (λ z. token ∷ z) (sym (take_rest (x ∷ rest) 1))

module _ (p : Place) (rest : List Token) (token : Token) (some : 1 ≤ length rest)
    (is : token ≡ get_or rest 0 token) where
  at_first : first_hint p rest
      ≡ option_or (token_hint p token (behind_first rest)) (first_hint (after p token) (behind_first rest))
  at_first = ap (λ z. first_hint p z) (first_of rest token some is)

  pub hint_behind : token_hint p token (behind_first rest) ≡ None
      → first_hint (after p token) (behind_first rest) ≡ first_hint p rest
  hint_behind none =
      sym (at_first ∙ ap (λ o. option_or o (first_hint (after p token) (behind_first rest))) none)

  pub hint_here : (hint : SyntaxHint)
      → token_hint p token (behind_first rest) ≡ Some hint → Some hint ≡ first_hint p rest
  hint_here hint found =
      sym (at_first ∙ ap (λ o. option_or o (first_hint (after p token) (behind_first rest))) found)

pub hint_at_end : (p : Place) (rest : List Token) → length rest < 1 → end_hint p ≡ first_hint p rest
hint_at_end p [] h = refl
hint_at_end p (x ∷ rest) h = absurd (omega (arith, h))
