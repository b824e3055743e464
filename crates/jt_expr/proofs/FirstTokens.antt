-- The first tokens of the forms of each level. The second token is never `=`.
use Rattle.std.proofs.Common.{◌≡◌, Bool, true, false, ◌||◌, ◌==◌, [], ◌∷◌, ◌++◌, drop, codes, refl, arith, Option}
use Rattle.std.proofs.Common.{rules}
use Rattle.std.proofs.lemmas.Bool.Decides.{nat_tests}
use Rattle.jt_scan.specs.declared.segment.Sign.{Sign}
use Rattle.jt_scan.specs.declared.segment.Sign.TheVariants as s
use Rattle.jt_scan.specs.Cut as cut
use Rattle.jt_scan.specs.Cut.{Token}
use Rattle.jt_ast.specs.declared.expression.BinaryOperator.{BinaryOperator}
use Rattle.jt_ast.specs.declared.expression.BinaryOperator.TheVariants as o
use Rattle.jt_ast.specs.Expressions.{Text, Expr}
use Rattle.jt_expr.specs.Grammar.{Tokens, word, is_operand, Level, whole, disjunction, conjunction, inversion}
use Rattle.jt_expr.specs.Grammar.{comparison, sum, concatenation, product, power, postscript, signed, postfix, next}
use Rattle.jt_expr.specs.Grammar.{is_chain, operator_tokens, is_tokens, begins_argument, SequenceKind, items, entries}
use Rattle.jt_expr.specs.Grammar.{arguments, keywords, closer, LeveledList, Spells, plain, an_if, an_if_else, chain}
use Rattle.jt_expr.specs.Grammar.{inverted, upright, compared, alone, postscripts, minus, plus, unsigned, postfixes}
use Rattle.jt_expr.specs.Grammar.{Goes, stay, operated, filtered, tested, attributed, indexed, called, Primary}
use Rattle.jt_expr.specs.Grammar.{a_number, a_text, a_constant, a_name, a_group, a_list, a_map, Holds, closed, last}
use Rattle.jt_expr.specs.Grammar.{more, IsPart, without_key, an_entry, by_name}
use Rattle.jt_expr.specs.Front.{code, sees, says}
use Rattle.jt_expr.proofs.FirstTokenTests.{operand_says, literal_is_operand, name_is_operand}

-- ---- the first token of a form

abbrev opens_primary : Sign → Bool
opens_primary k = (code k == 12) || ((code k == 14) || (code k == 16))

abbrev opens_signed : Sign → Bool
opens_signed k = (code k == 0) || ((code k == 1) || opens_primary k)

abbrev pub begins_primary : Tokens → Bool
begins_primary [] = false
begins_primary (cut.name x ∷ ts) = is_operand x
begins_primary (cut.number n ∷ ts) = true
begins_primary (cut.text v ∷ ts) = true
begins_primary (cut.sign k ∷ ts) = opens_primary k

abbrev pub begins_signed : Tokens → Bool
begins_signed [] = false
begins_signed (cut.name x ∷ ts) = is_operand x
begins_signed (cut.number n ∷ ts) = true
begins_signed (cut.text v ∷ ts) = true
begins_signed (cut.sign k ∷ ts) = opens_signed k

abbrev pub begins_operand : Tokens → Bool
begins_operand [] = false
begins_operand (cut.name x ∷ ts) = true
begins_operand (cut.number n ∷ ts) = true
begins_operand (cut.text v ∷ ts) = true
begins_operand (cut.sign k ∷ ts) = opens_signed k

pub primary-append : (x y : Tokens) → begins_primary x ≡ true → begins_primary (x ++ y) ≡ true
primary-append x y h = search (arith, rules)

pub signed-append : (x y : Tokens) → begins_signed x ≡ true → begins_signed (x ++ y) ≡ true
signed-append x y h = search (arith, rules)

pub operand-append : (x y : Tokens) → begins_operand x ≡ true → begins_operand (x ++ y) ≡ true
operand-append x y h = search (arith, rules)

pub argument-append : (x y : Tokens) → begins_argument x ≡ true → begins_argument (x ++ y) ≡ true
argument-append x y h = search (arith, rules)

signed-primary : (x : Tokens) → begins_primary x ≡ true → begins_signed x ≡ true
signed-primary x h = search (arith, rules, nat_tests)

operand-signed : (x : Tokens) → begins_signed x ≡ true → begins_operand x ≡ true
operand-signed x h = search (arith, rules)

pub no_minus-primary : (x : Tokens) → begins_primary x ≡ true → sees s.Minus x ≡ false
no_minus-primary x h = search (arith, rules, nat_tests)

pub no_plus-primary : (x : Tokens) → begins_primary x ≡ true → sees s.Plus x ≡ false
no_plus-primary x h = search (arith, rules, nat_tests)

pub no_not-signed : (x : Tokens) → begins_signed x ≡ true → says (codes "not") x ≡ false
no_not-signed x h = search (arith, rules, operand_says)

-- An operand begins with no sign but a prefix operator or an opening bracket.
no_sign-operand : (c : Sign) (x : Tokens) → opens_signed c ≡ false → begins_operand x ≡ true → sees c x ≡ false
no_sign-operand c x e h = search (arith, rules, nat_tests)

no_close-operand : (r : SequenceKind) (x : Tokens) → begins_operand x ≡ true → sees (closer r) x ≡ false
no_close-operand r x h = search (arith, rules, no_sign-operand)

abbrev pub Begins : Level → Tokens → Type 0
Begins whole x = begins_operand x ≡ true
Begins disjunction x = begins_operand x ≡ true
Begins conjunction x = begins_operand x ≡ true
Begins inversion x = begins_operand x ≡ true
Begins comparison x = begins_signed x ≡ true
Begins sum x = begins_signed x ≡ true
Begins concatenation x = begins_signed x ≡ true
Begins product x = begins_signed x ≡ true
Begins power x = begins_signed x ≡ true
Begins postscript x = begins_signed x ≡ true
Begins signed x = begins_signed x ≡ true
Begins postfix x = begins_primary x ≡ true

chain_begins : (k : Level) (x y : Tokens) → is_chain k ≡ true → Begins (next k) x → Begins k (x ++ y)
chain_begins k x y c h = search (arith, rules, operand-append, signed-append)

pub primary_begins : {t : Expr} {x : Tokens} → Primary t x → begins_primary x ≡ true
primary_begins x1 = search (arith, rules, literal_is_operand, name_is_operand)

pub begins : {k : Level} {t : Expr} {x : Tokens} → Spells k t x → Begins k x
begins (plain d) = begins d
begins (an_if {c} {a} {x} {y} d f) = operand-append x (word (codes "if") ∷ y) (begins d)
begins (an_if_else {c} {a} {b} {x} {y} {z} d f g) =
    operand-append x (word (codes "if") ∷ (y ++ (word (codes "else") ∷ z))) (begins d)
begins (chain {k} {a} {t} {x} {y} c d g) = chain_begins k x y c (begins d)
begins (inverted d) = refl
begins (upright {t} {x} d) = operand-signed x (begins d)
begins (compared {op} {a} {b} {x} {y} e d f) = signed-append x (operator_tokens op ++ y) (begins d)
begins (alone d) = begins d
begins (postscripts {a} {t} {x} {y} d g) = signed-append x y (begins d)
begins (minus d) = refl
begins (plus d) = refl
begins (unsigned {t} {x} d) = signed-primary x (begins d)
begins (postfixes {a} {t} {x} {y} d g) = primary-append x y (primary_begins d)

level_begins : (k : Level) (x : Tokens) → Begins k x → begins_operand x ≡ true
level_begins k x h = search (arith, rules, operand-signed, signed-primary)

spelled_begins : {k : Level} {t : Expr} {x : Tokens} → Spells k t x → begins_operand x ≡ true
spelled_begins {k} {t} {x} d = level_begins k x (begins d)

-- A part does not begin with the closing sign.
pub part_open : {r : SequenceKind} {k : Option Text} {t : Expr} {x : Tokens} → IsPart r k t x → (rest : Tokens)
    → sees (closer r) (x ++ rest) ≡ false
part_open rest x2 = search (arith, rules, no_close-operand, operand-append, spelled_begins)

-- ---- the second token

no_assign : (x rest : Tokens) → begins_operand x ≡ true → sees s.Assign (x ++ rest) ≡ false
no_assign x rest h = no_sign-operand s.Assign (x ++ rest) refl (operand-append x rest h)

no_assign_alone : (x : Tokens) → begins_operand x ≡ true → sees s.Assign x ≡ false
no_assign_alone x h = no_sign-operand s.Assign x refl h

operator_front : (op : BinaryOperator) (ts : Tokens) → sees s.Assign (operator_tokens op ++ ts) ≡ false
operator_front op ts = search (arith, rules)

is_front : (b : Bool) (ts : Tokens) → sees s.Assign (is_tokens b ++ ts) ≡ false
is_front false ts = refl
is_front true ts = refl

goes_front : {k : Level} {a t : Expr} {y : Tokens} → Goes k a t y → sees s.Assign y ≡ false
goes_front x1 = search (arith, rules, operator_front, is_front)

pub second-append : (x y : Tokens) → begins_operand x ≡ true → sees s.Assign (drop 1 x) ≡ false
    → sees s.Assign y ≡ false → sees s.Assign (drop 1 (x ++ y)) ≡ false
second-append x y h e f = search (arith, rules)

closer_front : (r : SequenceKind) (rest : Tokens) → sees s.Assign (cut.sign (closer r) ∷ rest) ≡ false
closer_front r rest = search (arith, rules)

part_front : {r : SequenceKind} {k : Option Text} {t : Expr} {x : Tokens} → IsPart r k t x → (rest : Tokens)
    → sees s.Assign (x ++ rest) ≡ false
part_front rest x2 = search (arith, rules, no_assign, spelled_begins)

holds_front : {r : SequenceKind} {p : LeveledList} {x : Tokens} → Holds r p x → sees s.Assign x ≡ false
holds_front x1 = search (arith, rules, closer_front, part_front)

primary_second : {t : Expr} {x : Tokens} → Primary t x → sees s.Assign (drop 1 x) ≡ false
primary_second x1 = search (arith, rules, no_assign, spelled_begins, holds_front)

pub second : {k : Level} {t : Expr} {x : Tokens} → Spells k t x → sees s.Assign (drop 1 x) ≡ false
second (plain d) = second d
second (an_if {c} {a} {x} {y} d f) = second-append x (word (codes "if") ∷ y) (spelled_begins d) (second d) refl
second (an_if_else {c} {a} {b} {x} {y} {z} d f g) =
    second-append x (word (codes "if") ∷ (y ++ (word (codes "else") ∷ z))) (spelled_begins d) (second d) refl
second (chain {k} {a} {t} {x} {y} c d g) = second-append x y (spelled_begins d) (second d) (goes_front g)
second (inverted {t} {x} d) = no_assign_alone x (spelled_begins d)
second (upright d) = second d
second (compared {op} {a} {b} {x} {y} e d f) =
    second-append x (operator_tokens op ++ y) (spelled_begins d) (second d) (operator_front op y)
second (alone d) = second d
second (postscripts {a} {t} {x} {y} d g) = second-append x y (spelled_begins d) (second d) (goes_front g)
second (minus {t} {x} d) = no_assign_alone x (spelled_begins d)
second (plus {t} {x} d) = no_assign_alone x (spelled_begins d)
second (unsigned d) = second d
second (postfixes {a} {t} {x} {y} d g) =
    second-append x y (operand-signed x (signed-primary x (primary_begins d))) (primary_second d) (goes_front g)
