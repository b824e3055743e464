-- The results of `by_id` are the operator, the filter and the test of an id.
use Rattle.std.proofs.Common.{◌≡◌, ℕ, Bool, true, eqb, List, [], ◌∷◌, Option, Some, None, refl, sym, ap, ◌∙◌, arith}
use Rattle.std.proofs.Common.{rules}
use Rattle.std.specs.Prelude.{IfSome}
use Rattle.std.specs.List.{find}
use Rattle.std.proofs.lemmas.Bool.{eqb-true}
use Rattle.jt_ids.specs.declared.op_id.OpId.{OpId}
use Rattle.jt_ids.specs.declared.op_id.OpId.TheVariants as op
use Rattle.jt_ids.specs.declared.test_id.TestId.{TestId}
use Rattle.jt_ids.specs.declared.test_id.TestId.TheVariants as test
use Rattle.jt_ids.specs.OpTable.{op_id, operators}
use Rattle.jt_ids.specs.declared.filter_id.FilterId.{FilterId}
use Rattle.jt_ids.specs.declared.filter_id.FilterId.TheVariants as filter
use Rattle.jt_ids.specs.FilterTable.{filter_id, filters}
use Rattle.jt_ids.specs.TestTable.{test_id, tests}
use Rattle.jt_image.specs.Ids.{operator_of, filter_of, test_of}

-- An item that is found passes the test.
find_holds : {X : Type 0} (f : X → Bool) (xs : List X) (x : X) → find f xs ≡ Some x → f x ≡ true
find_holds f [] x e = absurd cc
find_holds {X} f (y ∷ ys) x e = search (arith, rules, find_holds f ys x)

-- ---- operators

has_operator : (x : OpId) → operator_of (op_id x) ≡ Some x
unfolding operator_of
has_operator op.Add = refl
has_operator op.Subtract = refl
has_operator op.Multiply = refl
has_operator op.FloorDivide = refl
has_operator op.Remainder = refl
has_operator op.Power = refl
has_operator op.Negate = refl
has_operator op.Plus = refl
has_operator op.Not = refl
has_operator op.Join = refl
has_operator op.JoinEscaping = refl
has_operator op.Equal = refl
has_operator op.NotEqual = refl
has_operator op.Less = refl
has_operator op.LessOrEqual = refl
has_operator op.Greater = refl
has_operator op.GreaterOrEqual = refl
has_operator op.In = refl
has_operator op.Item = refl
has_operator op.RangeToStop = refl
has_operator op.RangeFromStart = refl
has_operator op.RangeByStep = refl

found_operator : (a : ℕ) (x : OpId) → operator_of a ≡ Some x → op_id x ≡ a
unfolding operator_of
found_operator a x e = eqb-true (op_id x) a (find_holds (λ y. eqb (op_id y) a) operators x e)

-- If the result has this id, and every operator with this id is the result, then it is the operator
-- of the id.
pub operator_is : (a : ℕ) (r : Option OpId) → IfSome r (λ x. op_id x ≡ a) → ((x : OpId) → op_id x ≡ a → r ≡ Some x)
    → r ≡ operator_of a
operator_is a (Some x) is only = sym (ap operator_of (sym is) ∙ has_operator x)
operator_is a None is only = none (operator_of a) refl
  where
    none : (o : Option OpId) → operator_of a ≡ o → None ≡ o
    none None e = refl
    none (Some x) e = only x (found_operator a x e)

-- ---- filters

has_filter : (x : FilterId) → filter_of (filter_id x) ≡ Some x
unfolding filter_of
has_filter filter.Abs = refl
has_filter x = refl

found_filter : (a : ℕ) (x : FilterId) → filter_of a ≡ Some x → filter_id x ≡ a
unfolding filter_of
found_filter a x e = eqb-true (filter_id x) a (find_holds (λ y. eqb (filter_id y) a) filters x e)

-- If the result has this id, and every filter with this id is the result, then it is the filter of
-- the id.
pub filter_is : (a : ℕ) (r : Option FilterId) → IfSome r (λ x. filter_id x ≡ a)
    → ((x : FilterId) → filter_id x ≡ a → r ≡ Some x) → r ≡ filter_of a
filter_is a (Some x) is only = sym (ap filter_of (sym is) ∙ has_filter x)
filter_is a None is only = none (filter_of a) refl
  where
    none : (o : Option FilterId) → filter_of a ≡ o → None ≡ o
    none None e = refl
    none (Some x) e = only x (found_filter a x e)

-- ---- tests

has_test : (x : TestId) → test_of (test_id x) ≡ Some x
unfolding test_of
has_test test.Boolean = refl
has_test test.Defined = refl
has_test test.DivisibleBy = refl
has_test test.Equal = refl
has_test test.NotEqual = refl
has_test test.Escaped = refl
has_test test.Even = refl
has_test test.Odd = refl
has_test test.False = refl
has_test test.True = refl
has_test test.GreaterOrEqual = refl
has_test test.Greater = refl
has_test test.LessOrEqual = refl
has_test test.Less = refl
has_test test.In = refl
has_test test.Integer = refl
has_test test.Mapping = refl
has_test test.None = refl
has_test test.String = refl
has_test test.Undefined = refl

found_test : (a : ℕ) (x : TestId) → test_of a ≡ Some x → test_id x ≡ a
unfolding test_of
found_test a x e = eqb-true (test_id x) a (find_holds (λ y. eqb (test_id y) a) tests x e)

-- If the result has this id, and every test with this id is the result, then it is the test of the
-- id.
pub test_is : (a : ℕ) (r : Option TestId) → IfSome r (λ x. test_id x ≡ a) → ((x : TestId) → test_id x ≡ a → r ≡ Some x)
    → r ≡ test_of a
test_is a (Some x) is only = sym (ap test_of (sym is) ∙ has_test x)
test_is a None is only = none (test_of a) refl
  where
    none : (o : Option TestId) → test_of a ≡ o → None ≡ o
    none None e = refl
    none (Some x) e = only x (found_test a x e)
