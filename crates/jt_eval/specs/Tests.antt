-- The tests by their names.
use Rattle.std.specs.Prelude.{ℕ, List, Option}
use Rattle.jt_ids.specs.declared.test_id.TestId.{TestId}
use Rattle.jt_ids.specs.TestTable.{test_of_name}

-- The test with this name, if it exists.
unfoldable pub test_named : List ℕ → Option TestId
test_named x = test_of_name x
