-- A token extends no tree of a level that is tighter than the one whose forms it continues.
use Rattle.std.proofs.Common.{◌≡◌, ℕ, ◌<◌, Bool, true, false, [], ◌∷◌, codes, refl, ap, ◌∙◌, Ok, None, arith, rules}
use Rattle.std.proofs.Common.{bytes_eq, if◌then◌else◌}
use Rattle.jt_scan.specs.declared.segment.Sign.{Sign}
use Rattle.jt_scan.specs.declared.segment.Sign.TheVariants as s
use Rattle.jt_scan.specs.Cut as cut
use Rattle.jt_ast.specs.Expressions.{Text, Expr}
use Rattle.jt_expr.specs.Grammar.{Tokens, Level, whole, disjunction, conjunction, inversion, comparison, sum}
use Rattle.jt_expr.specs.Grammar.{concatenation, product, power, postscript, signed, postfix}
use Rattle.jt_expr.specs.internal.Reading.{Reader, operator}
use Rattle.jt_expr.specs.internal.Pending.{rank, complete, joined, sign_level, word_level}
use Rattle.jt_expr.specs.internal.Moves.{grow, postfix_move, postscript_move, chain_move, if_move}

module _ (inner : Level → Reader Expr) (n : ℕ) where
  quiet_sign : (j : Level) (t : Expr) (k : Sign) (ts : Tokens) → rank j < rank (sign_level k)
      → grow inner n j t (cut.sign k ∷ ts) ≡ Ok (complete j t, cut.sign k ∷ ts)
  unfolding grow postfix_move postscript_move chain_move if_move operator
  quiet_sign j t k ts h = search (arith, rules)

  quiet_word : (j : Level) (t : Expr) (x : Text) (ts : Tokens) → rank j < rank (word_level x)
      → grow inner n j t (cut.name x ∷ ts) ≡ Ok (complete j t, cut.name x ∷ ts)
  unfolding grow postfix_move postscript_move chain_move if_move operator
  quiet_word j t x ts h = search (arith, rules)

  pub quiet : (j : Level) (t : Expr) (ts : Tokens) → rank j < rank (joined ts)
      → grow inner n j t ts ≡ Ok (complete j t, ts)
  unfolding grow postfix_move postscript_move chain_move if_move operator
  quiet j t [] h = search (arith, rules)
  quiet j t (cut.name x ∷ ts) h = quiet_word j t x ts h
  quiet j t (cut.number v ∷ ts) h = search (arith, rules)
  quiet j t (cut.text v ∷ ts) h = search (arith, rules)
  quiet j t (cut.sign k ∷ ts) h = quiet_sign j t k ts h
