-- A small chain that reads 200 names above a list of 904 values and has a scoped block. No scope
-- binds a name, so the block has no parameters. If all names of the chain were parameters, its tag
-- and `self.b()` would load all of them. The entry would then need 1,105 stack entries, more than a
-- shape may have. The source has 1,999 bytes: `{%block b
-- scoped%}{%endblock%}{{[a,..,_,Qa,..,Zu,1,..,1,self.b()]}}`.
use Rattle.std.proofs.Common.{◌≡◌, ℕ, zero, suc, true, false, List, [], ◌∷◌, ◌++◌, length, refl}
use Rattle.std.specs.Prelude.{map, codes}
use Rattle.jt_ast.specs.Expressions as e
use Rattle.jt_ast.specs.Expressions.{Exprs, no_exprs, expr, Text}
use Rattle.jt_ast.specs.Statements.{Body, body_weight}
use Rattle.jt_chains.specs.Chain.{a_chain}
use Rattle.jt_rules.specs.CompileEnv.{CompileEnv}
use Rattle.jt_semantics.specs.Layout.{names}
use Rattle.jt_semantics.specs.Resolve.{chain_routine}
use Rattle.jt_ir.specs.Size.{body_height}
use Rattle.jt_semantics.proofs.TestTemplates as w

-- The 200 names of the chain: 53 of one letter, and 147 of two letters.
abbrev all_names : List Text
all_names =
    map (λ c. c ∷ []) (codes "abcdefghijklmnopqrstuvwxyzABCDEFGHIJKLMNOPQRSTUVWXYZ_")
    ++ (map (λ c. codes "Q" ++ (c ∷ [])) (codes "abcdefghijklmnopqrstuvwxyzABCDEFGHIJKLMNOPQRSTUVWXYZ_0123456789")
    ++ (map (λ c. codes "X" ++ (c ∷ [])) (codes "abcdefghijklmnopqrstuvwxyzABCDEFGHIJKLMNOPQRSTUVWXYZ_0123456789")
    ++ map (λ c. codes "Z" ++ (c ∷ [])) (codes "abcdefghijklmnopqrstu")))

abbrev ones : ℕ → Exprs → Exprs
ones zero ts = ts
ones (suc n) ts = expr (w.num 1) (ones n ts)

abbrev reading : List Text → Exprs → Exprs
reading [] ts = ts
reading (x ∷ xs) ts = expr (e.name x) (reading xs ts)

abbrev high : ℕ → Body
high n =
    w.body (w.Block 1 (codes "b") true false (w.body [])
    ∷ w.print (e.list_of (reading all_names (ones n (expr (w.call (w.of (w.name "self") "b") []) no_exprs)))) ∷ [])

abbrev high_cenv : ℕ → CompileEnv
high_cenv n = w.cenv ((codes "t", high n) ∷ [])

few : length (names (high_cenv 704) (a_chain (codes "t") ∷ []) (a_chain (codes "t"))) ≡ 200
few = refl

weighs : body_weight (high 704) ≡ 1830
weighs = refl

pub high_enough : body_height (chain_routine (high_cenv 704) (a_chain (codes "t") ∷ []) (codes "t")).body ≡ 905
high_enough = refl
