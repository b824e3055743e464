-- Examples of token lists and the trees that they spell.
use Rattle.std.proofs.Common.{◌≡◌, ℕ, pos, true, false, [], ◌∷◌, codes, refl, Result, Ok, Err}
use Rattle.jt_scan.specs.declared.segment.Sign.TheVariants as s
use Rattle.jt_scan.specs.Cut as cut
use Rattle.jt_ast.specs.declared.expression.UnaryOperator.TheVariants as u
use Rattle.jt_ast.specs.declared.expression.BinaryOperator.TheVariants as o
use Rattle.jt_ast.specs.Expressions.{Expr, constant, number, truth, name, list_of, map_of, attribute, call, filter}
use Rattle.jt_ast.specs.Expressions.{test, unary, binary, when, choice, no_exprs, expr, no_pairs, pair}
use Rattle.jt_expr.specs.Grammar.{Tokens, word, whole}
use Rattle.jt_expr.specs.internal.Reading.{Fault, ParseResult, syntax, deep, read, read_at, read_whole, read_inversion}
use Rattle.jt_expr.specs.internal.Reading.{read_comparison, read_postscript, read_signed, read_postfix, primary, loop}
use Rattle.jt_expr.specs.internal.Reading.{arguments_at, chain_step, else_part, if_part, entry_key, expect, filter_step}
use Rattle.jt_expr.specs.internal.Reading.{keyword, name_at, opened, operator, part, postfix_step, postscript_step, row}
use Rattle.jt_expr.specs.internal.Reading.{test_arguments, test_step, word_at, read_chain}

abbrev all_taken : Expr → Tokens → Result Expr Fault
all_taken t [] = Ok t
all_taken t (u ∷ ts) = Err syntax

abbrev all_of : ParseResult Expr → Result Expr Fault
all_of (Ok p) = all_taken p.0 p.1
all_of (Err e) = Err e

-- The tree that all tokens spell.
unfoldable parsed : ℕ → Tokens → Result Expr Fault
parsed n ts = all_of (read n whole ts)

abbrev n : ℕ → Expr
n i = constant (number (pos i))

-- `2 ** 3 ** 2` is left-associative.
powers : parsed 9
    (cut.number (pos 2) ∷ cut.sign s.Power ∷ cut.number (pos 3) ∷ cut.sign s.Power ∷ cut.number (pos 2) ∷ [])
    ≡ Ok (binary o.Power (binary o.Power (n 2) (n 3)) (n 2))
unfolding parsed read read_at read_whole read_inversion read_comparison read_chain read_postscript read_signed
    read_postfix primary loop arguments_at chain_step else_part if_part entry_key expect filter_step keyword name_at
    opened operator part postfix_step postscript_step row test_arguments test_step word_at lib.Utf8.encode
powers = refl

-- `1 < 2 < 3` is refused.
second_comparison : parsed 9
    (cut.number (pos 1) ∷ cut.sign s.Less ∷ cut.number (pos 2) ∷ cut.sign s.Less ∷ cut.number (pos 3) ∷ [])
    ≡ Err syntax
unfolding parsed read read_at read_whole read_inversion read_comparison read_chain read_postscript read_signed
    read_postfix primary loop arguments_at chain_step else_part if_part entry_key expect filter_step keyword name_at
    opened operator part postfix_step postscript_step row test_arguments test_step word_at lib.Utf8.encode
second_comparison = refl

-- `{"a": 1,}.a`
map_attribute : parsed 9 (cut.sign s.LeftBrace ∷ cut.text (97 ∷ []) ∷ cut.sign s.Colon ∷ cut.number (pos 1)
    ∷ cut.sign s.Comma ∷ cut.sign s.RightBrace ∷ cut.sign s.Dot ∷ word (codes "a") ∷ [])
    ≡ Ok (attribute (map_of (pair (codes "a") (n 1) no_pairs)) (codes "a"))
unfolding parsed read read_at read_whole read_inversion read_comparison read_chain read_postscript read_signed
    read_postfix primary loop arguments_at chain_step else_part if_part entry_key expect filter_step keyword name_at
    opened operator part postfix_step postscript_step row test_arguments test_step word_at lib.Utf8.encode
map_attribute = refl

-- `7 is not even`
not_even : parsed 9 (cut.number (pos 7) ∷ word (codes "is") ∷ word (codes "not") ∷ word (codes "even") ∷ [])
    ≡ Ok (test (n 7) true (codes "even") no_exprs no_pairs)
unfolding parsed read read_at read_whole read_inversion read_comparison read_chain read_postscript read_signed
    read_postfix primary loop arguments_at chain_step else_part if_part entry_key expect filter_step keyword name_at
    opened operator part postfix_step postscript_step row test_arguments test_step word_at lib.Utf8.encode
not_even = refl

-- `9 is divisibleby 3`
divisible : parsed 9 (cut.number (pos 9) ∷ word (codes "is") ∷ word (codes "divisibleby") ∷ cut.number (pos 3) ∷ [])
    ≡ Ok (test (n 9) false (codes "divisibleby") (expr (n 3) no_exprs) no_pairs)
unfolding parsed read read_at read_whole read_inversion read_comparison read_chain read_postscript read_signed
    read_postfix primary loop arguments_at chain_step else_part if_part entry_key expect filter_step keyword name_at
    opened operator part postfix_step postscript_step row test_arguments test_step word_at lib.Utf8.encode
divisible = refl

-- `1 is in and` is refused.
reserved_argument : parsed 9 (cut.number (pos 1) ∷ word (codes "is") ∷ word (codes "in") ∷ word (codes "and") ∷ [])
    ≡ Err syntax
unfolding parsed read read_at read_whole read_inversion read_comparison read_chain read_postscript read_signed
    read_postfix primary loop arguments_at chain_step else_part if_part entry_key expect filter_step keyword name_at
    opened operator part postfix_step postscript_step row test_arguments test_step word_at lib.Utf8.encode
reserved_argument = refl

-- `1 if false`
without_else : parsed 9 (cut.number (pos 1) ∷ word (codes "if") ∷ word (codes "false") ∷ [])
    ≡ Ok (when (constant (truth false)) (n 1))
unfolding parsed read read_at read_whole read_inversion read_comparison read_chain read_postscript read_signed
    read_postfix primary loop arguments_at chain_step else_part if_part entry_key expect filter_step keyword name_at
    opened operator part postfix_step postscript_step row test_arguments test_step word_at lib.Utf8.encode
without_else = refl

-- `1 if 2 if 3` is refused.
second_if : parsed 9
    (cut.number (pos 1) ∷ word (codes "if") ∷ cut.number (pos 2) ∷ word (codes "if") ∷ cut.number (pos 3) ∷ [])
    ≡ Err syntax
unfolding parsed read read_at read_whole read_inversion read_comparison read_chain read_postscript read_signed
    read_postfix primary loop arguments_at chain_step else_part if_part entry_key expect filter_step keyword name_at
    opened operator part postfix_step postscript_step row test_arguments test_step word_at lib.Utf8.encode
second_if = refl

-- `1 if 2 else 3 if 4`
nested_if : parsed 9 (cut.number (pos 1) ∷ word (codes "if") ∷ cut.number (pos 2) ∷ word (codes "else")
    ∷ cut.number (pos 3) ∷ word (codes "if") ∷ cut.number (pos 4) ∷ [])
    ≡ Ok (choice (n 2) (n 1) (when (n 4) (n 3)))
unfolding parsed read read_at read_whole read_inversion read_comparison read_chain read_postscript read_signed
    read_postfix primary loop arguments_at chain_step else_part if_part entry_key expect filter_step keyword name_at
    opened operator part postfix_step postscript_step row test_arguments test_step word_at lib.Utf8.encode
nested_if = refl

-- `f(1, k=2, 3)` is refused.
place_behind_name : parsed 9 (word (codes "f") ∷ cut.sign s.LeftParen ∷ cut.number (pos 1) ∷ cut.sign s.Comma
    ∷ word (codes "k") ∷ cut.sign s.Assign ∷ cut.number (pos 2) ∷ cut.sign s.Comma ∷ cut.number (pos 3)
    ∷ cut.sign s.RightParen ∷ [])
    ≡ Err syntax
unfolding parsed read read_at read_whole read_inversion read_comparison read_chain read_postscript read_signed
    read_postfix primary loop arguments_at chain_step else_part if_part entry_key expect filter_step keyword name_at
    opened operator part postfix_step postscript_step row test_arguments test_step word_at lib.Utf8.encode
place_behind_name = refl

-- `f(1, k=2,)`
arguments_read : parsed 9 (word (codes "f") ∷ cut.sign s.LeftParen ∷ cut.number (pos 1) ∷ cut.sign s.Comma
    ∷ word (codes "k") ∷ cut.sign s.Assign ∷ cut.number (pos 2) ∷ cut.sign s.Comma ∷ cut.sign s.RightParen ∷ [])
    ≡ Ok (call (name (codes "f")) (expr (n 1) no_exprs) (pair (codes "k") (n 2) no_pairs))
unfolding parsed read read_at read_whole read_inversion read_comparison read_chain read_postscript read_signed
    read_postfix primary loop arguments_at chain_step else_part if_part entry_key expect filter_step keyword name_at
    opened operator part postfix_step postscript_step row test_arguments test_step word_at lib.Utf8.encode
arguments_read = refl

-- `- x|f * 2`: the filter applies to the signed operand.
sign_and_filter : parsed 9 (cut.sign s.Minus ∷ word (codes "x") ∷ cut.sign s.Pipe ∷ word (codes "f") ∷ cut.sign s.Times
    ∷ cut.number (pos 2) ∷ [])
    ≡ Ok (binary o.Multiply (filter (unary u.Negate (name (codes "x"))) (codes "f") no_exprs no_pairs) (n 2))
unfolding parsed read read_at read_whole read_inversion read_comparison read_chain read_postscript read_signed
    read_postfix primary loop arguments_at chain_step else_part if_part entry_key expect filter_step keyword name_at
    opened operator part postfix_step postscript_step row test_arguments test_step word_at lib.Utf8.encode
sign_and_filter = refl

-- `not not 1` has 3 levels: it is read with a limit of 3 and refused with a limit of 2.
levels_fit : parsed 3 (word (codes "not") ∷ word (codes "not") ∷ cut.number (pos 1) ∷ [])
    ≡ Ok (unary u.Not (unary u.Not (n 1)))
unfolding parsed read read_at read_whole read_inversion read_comparison read_chain read_postscript read_signed
    read_postfix primary loop arguments_at chain_step else_part if_part entry_key expect filter_step keyword name_at
    opened operator part postfix_step postscript_step row test_arguments test_step word_at lib.Utf8.encode
levels_fit = refl

levels_pass : parsed 2 (word (codes "not") ∷ word (codes "not") ∷ cut.number (pos 1) ∷ []) ≡ Err deep
unfolding parsed read read_at read_whole read_inversion read_comparison read_chain read_postscript read_signed
    read_postfix primary loop arguments_at chain_step else_part if_part entry_key expect filter_step keyword name_at
    opened operator part postfix_step postscript_step row test_arguments test_step word_at lib.Utf8.encode
levels_pass = refl

-- `x.not`: a reserved word may be the name of an attribute.
reserved_attribute : parsed 9 (word (codes "x") ∷ cut.sign s.Dot ∷ word (codes "not") ∷ [])
    ≡ Ok (attribute (name (codes "x")) (codes "not"))
unfolding parsed read read_at read_whole read_inversion read_comparison read_chain read_postscript read_signed
    read_postfix primary loop arguments_at chain_step else_part if_part entry_key expect filter_step keyword name_at
    opened operator part postfix_step postscript_step row test_arguments test_step word_at lib.Utf8.encode
reserved_attribute = refl

-- `1 not in [2]`
not_in_list : parsed 9 (cut.number (pos 1) ∷ word (codes "not") ∷ word (codes "in") ∷ cut.sign s.LeftBracket
    ∷ cut.number (pos 2) ∷ cut.sign s.RightBracket ∷ [])
    ≡ Ok (binary o.NotIn (n 1) (list_of (expr (n 2) no_exprs)))
unfolding parsed read read_at read_whole read_inversion read_comparison read_chain read_postscript read_signed
    read_postfix primary loop arguments_at chain_step else_part if_part entry_key expect filter_step keyword name_at
    opened operator part postfix_step postscript_step row test_arguments test_step word_at lib.Utf8.encode
not_in_list = refl
