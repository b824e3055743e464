-- A search of a table by name finds the row that has the name.
use Rattle.std.proofs.Common.{rules, ◌≡◌, ℕ, List, Some, Contains}
use Rattle.jt_ids.specs.declared.filter_id.FilterId.{FilterId}
use Rattle.jt_ids.specs.declared.loop_field.LoopField.{LoopField}
use Rattle.jt_ids.specs.declared.test_id.TestId.{TestId}
use Rattle.jt_ids.specs.FilterTable.{filter_names, filter_of_name}
use Rattle.jt_ids.specs.LoopTable.{field_names, field_named}
use Rattle.jt_ids.specs.TestTable.{test_names, test_of_name}

pub filter_named : (f : FilterId) (name : List ℕ) → Contains (filter_names f) name → filter_of_name name ≡ Some f
filter_named f name h = search rules

pub named_filter : (f : FilterId) (name : List ℕ) → filter_of_name name ≡ Some f → Contains (filter_names f) name
named_filter f name e = search rules

pub test_named : (t : TestId) (name : List ℕ) → Contains (test_names t) name → test_of_name name ≡ Some t
test_named t name h = search rules

pub named_test : (t : TestId) (name : List ℕ) → test_of_name name ≡ Some t → Contains (test_names t) name
named_test t name e = search rules

pub loop_field_named : (f : LoopField) (name : List ℕ) → Contains (field_names f) name → field_named name ≡ Some f
loop_field_named f name h = search rules
