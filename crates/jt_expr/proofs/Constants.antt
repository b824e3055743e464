-- The constants that words spell.
use Rattle.std.proofs.Common.{◌≡◌, true, false, codes, Option, Some, None, subst, bytes_eq}
use Rattle.jt_ast.specs.Expressions.{Text, Literal, truth, nothing}
use Rattle.jt_expr.specs.Grammar.{literal_of}
use Rattle.jt_scan.proofs.ParseResultSteps.{by_test}

same_literal : (P : Literal → Type 0) (m l : Literal) → ◌≡◌ {A = Option Literal} (Some m) (Some l) → P m → P l
same_literal P m l e h = let q : m ≡ l = cc in subst P q h

no_literal_is : {G : Type 0} (l : Literal) → ◌≡◌ {A = Option Literal} None (Some l) → G
no_literal_is l e = absurd (cc)

-- A property of `true`, `false` and `none` holds for each constant that a word spells.
pub each_constant : (P : Literal → Type 0) → P (truth true) → P (truth false) → P nothing → (x : Text) (l : Literal)
    → literal_of x ≡ Some l → P l
each_constant P t f n x l e =
    by_test (bytes_eq x (codes "true")) _ _ _ e (λ h q. same_literal P (truth true) l q t) (λ h e.
    by_test (bytes_eq x (codes "True")) _ _ _ e (λ h q. same_literal P (truth true) l q t) (λ h e.
    by_test (bytes_eq x (codes "false")) _ _ _ e (λ h q. same_literal P (truth false) l q f) (λ h e.
    by_test (bytes_eq x (codes "False")) _ _ _ e (λ h q. same_literal P (truth false) l q f) (λ h e.
    by_test (bytes_eq x (codes "none")) _ _ _ e (λ h q. same_literal P nothing l q n) (λ h e.
    by_test (bytes_eq x (codes "None")) _ _ _ e (λ h q. same_literal P nothing l q n) (λ h e.
    no_literal_is l e))))))
