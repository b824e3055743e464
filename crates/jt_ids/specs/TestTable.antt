-- The table of tests: the id of each in an image, the number of values that it takes with the
-- tested one, and its names.
use Rattle.std.specs.Prelude.{ℕ, List, [], ◌∷◌, Option, codes, find}
use Rattle.std.specs.List.{list_any}
use Rattle.std.specs.Str.{bytes_eq}
use Rattle.jt_ids.specs.declared.test_id.TestId.{TestId}
use Rattle.jt_ids.specs.declared.test_id.TestId.TheVariants as test

abbrev pub test_row : TestId → ℕ × ℕ × List (List ℕ)
test_row test.Boolean = (0, 1, codes "boolean" ∷ [])
test_row test.Defined = (1, 1, codes "defined" ∷ [])
test_row test.DivisibleBy = (2, 2, codes "divisibleby" ∷ [])
test_row test.Equal = (3, 2, codes "eq" ∷ codes "equalto" ∷ [])
test_row test.NotEqual = (4, 2, codes "ne" ∷ [])
test_row test.Escaped = (5, 1, codes "escaped" ∷ [])
test_row test.Even = (6, 1, codes "even" ∷ [])
test_row test.Odd = (7, 1, codes "odd" ∷ [])
test_row test.False = (8, 1, codes "false" ∷ [])
test_row test.True = (9, 1, codes "true" ∷ [])
test_row test.GreaterOrEqual = (10, 2, codes "ge" ∷ [])
test_row test.Greater = (11, 2, codes "gt" ∷ codes "greaterthan" ∷ [])
test_row test.LessOrEqual = (12, 2, codes "le" ∷ [])
test_row test.Less = (13, 2, codes "lt" ∷ codes "lessthan" ∷ [])
test_row test.In = (14, 2, codes "in" ∷ [])
test_row test.Integer = (15, 1, codes "integer" ∷ [])
test_row test.Mapping = (16, 1, codes "mapping" ∷ [])
test_row test.None = (17, 1, codes "none" ∷ [])
test_row test.String = (18, 1, codes "string" ∷ [])
test_row test.Undefined = (19, 1, codes "undefined" ∷ [])

abbrev pub test_id : TestId → ℕ
test_id t = (test_row t).0

abbrev pub test_values : TestId → ℕ
test_values t = (test_row t).1

abbrev pub test_names : TestId → List (List ℕ)
test_names t = (test_row t).2

-- All tests, in the order of their ids.
abbrev pub tests : List TestId
tests =
    test.Boolean
    ∷ test.Defined ∷ test.DivisibleBy ∷ test.Equal ∷ test.NotEqual ∷ test.Escaped ∷ test.Even
    ∷ test.Odd ∷ test.False ∷ test.True ∷ test.GreaterOrEqual ∷ test.Greater ∷ test.LessOrEqual
    ∷ test.Less ∷ test.In ∷ test.Integer ∷ test.Mapping ∷ test.None ∷ test.String ∷ test.Undefined
    ∷ []

-- The test with this name, if it exists.
abbrev pub test_of_name : List ℕ → Option TestId
test_of_name name = find (λ t. list_any (bytes_eq name) (test_names t)) tests
